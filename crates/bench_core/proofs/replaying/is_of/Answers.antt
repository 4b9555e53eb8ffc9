use Rattle.std.proofs.Common.{◌∙◌, List, sym, subst}
use Rattle.std.specs.Prelude.{◌↔◌, All, IsTrue}
use Rattle.std.proofs.lemmas.Bool.{true≢false, eq-eqb}
use Rattle.draughts_board.specs.Same.{same_board-Decides}
use Rattle.strategy_certificate.specs.Claims.{HasShortRanks}
use Rattle.strategy_certificate.specs.declared.certificates.Part.{Part}
use Rattle.bench_core.proofs.ReplayLemmas.{is_of_all, is_of_none}
use Rattle.bench_core.proofs.replaying.is_of.Goals as goal
use Rattle.bench_core.proofs.replaying.is_of.Goals.{then-eq, else-eq}

pub returns-then-c-pieces : goal.returns-then-c-pieces
returns-then-c-pieces c =
    let short = subst (λ (parts : List Part). IsTrue c.have_short_ranks.result ↔ All HasShortRanks parts) c.as_slice.ensures c.have_short_ranks.ensures in
    elim c.if-eq.branch [
      | then-eq w ↦ is_of_all c.args.c.now.position c.args.p.now c.args.c.now.pieces c.args.pieces c.have_short_ranks.result _ (sym c.eq.ensures ∙ w.if-eq.true) (sym w.value-is ∙ c.if-c-pieces.true) short
      | else-eq w ↦ absurd (true≢false (sym c.if-c-pieces.true ∙ (w.value-is ∙ w.if-eq.false)))
    ]

pub returns-else-c-pieces : goal.returns-else-c-pieces
returns-else-c-pieces c = elim c.if-eq.branch [
  | then-eq w ↦ is_of_none c.args.c.now.position c.args.p.now c.args.c.now.pieces c.args.pieces c.if-eq.value _ c.if-c-pieces.false (λ a m. w.value-is ∙ eq-eqb c.args.c.now.pieces c.args.pieces m)
  | else-eq w ↦ is_of_none c.args.c.now.position c.args.p.now c.args.c.now.pieces c.args.pieces c.if-eq.value _ c.if-c-pieces.false (λ a m. w.value-is ∙ (c.eq.ensures ∙ (same_board-Decides c.args.c.now.position c.args.p.now).1 a))
]
