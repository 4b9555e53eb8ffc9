use Rattle.std.proofs.Common.{◌+◌, ◌≤◌, ◌≡◌, ℕ, List, [], ap, sym, subst, length, arith, ◌∙◌}
use Rattle.std.specs.Prelude.{◌^◌}
use Rattle.std.proofs.lemmas.Result.{IfOk-weaker}
use Rattle.strategy_certificate.specs.declared.entries.TheConstants.{MOST_FOUND_RANK}
use Rattle.strategy_certificate.specs.declared.claims.Claim.TheVariants as claims
use Rattle.strategy_certificate.specs.declared.certificates.Part.TheVariants as part
use Rattle.strategy_certificate.specs.Certificates.{claim_of}
use Rattle.certificate_joiner.specs.declared.steps.Aim.{Aim}
use Rattle.certificate_joiner.specs.declared.steps.Aim.TheVariants.{Win, Hold}
use Rattle.certificate_joiner.specs.Strategy.{named, IsNamed, IsDueNode, Collected, claim_sought, weight}
use Rattle.certificate_joiner.proofs.Named.{weight_at, named_at}
use Rattle.certificate_joiner.proofs.Rooted.{strategy_from, few_from, win_good, hold_good}
use Rattle.certificate_joiner.proofs.certificates.part_for.Goals as goal

pub collect-requires : goal.collect-requires
collect-requires c = record { there = c.requires.there; sound = c.requires.valid.sound }

pub join_wins-requires : goal.join_wins-requires
join_wins-requires c =
    let roots = c.args.tree.now.forest in
    let quest = c.args.quest in
    let ns = c.as_slice-nodes.result.now in
    let all = subst (λ (l : List ℕ). Collected quest.aim quest.side (named roots) (IsNamed roots) c.args.n l (length l)) (sym c.as_slice-nodes.ensures.value) c.in_ok-strategy.ensures in
    let won = subst (λ (a : Aim). Collected a quest.side (named roots) (IsNamed roots) c.args.n ns (length ns)) c.in-Win.is all in
    let due = subst (λ (a : Aim). IsDueNode quest.pieces c.args.shelf.now.puts a quest.side [] (named roots c.args.n)) c.in-Win.is c.requires.due in
    let light : weight (named roots c.args.n) ≤ 2 ^ 60 =
    (let le = weight_at c.args.n roots (named roots c.args.n) (named_at roots c.args.n c.requires.there) in let few = c.requires.valid.few in omega (arith, le, few)) in
    record {
      pieces = c.requires.pieces;
      sound = c.requires.valid.sound;
      strategy = strategy_from quest.pieces c.args.shelf.now.puts Win quest.side (named roots) (IsNamed roots) c.args.n ns won due;
      few = few_from quest.pieces c.args.shelf.now.puts Win quest.side (named roots) (IsNamed roots) c.args.n ns won (2 ^ 60) light;
    }

pub join_holds-requires : goal.join_holds-requires
join_holds-requires c =
    let roots = c.args.tree.now.forest in
    let quest = c.args.quest in
    let ns = c.as_slice-nodes.result.now in
    let all = subst (λ (l : List ℕ). Collected quest.aim quest.side (named roots) (IsNamed roots) c.args.n l (length l)) (sym c.as_slice-nodes.ensures.value) c.in_ok-strategy.ensures in
    let held = subst (λ (a : Aim). Collected a quest.side (named roots) (IsNamed roots) c.args.n ns (length ns)) c.in-Hold.is all in
    let due = subst (λ (a : Aim). IsDueNode quest.pieces c.args.shelf.now.puts a quest.side [] (named roots c.args.n)) c.in-Hold.is c.requires.due in
    record {
      pieces = c.requires.pieces;
      sound = c.requires.valid.sound;
      strategy = strategy_from quest.pieces c.args.shelf.now.puts Hold quest.side (named roots) (IsNamed roots) c.args.n ns held due;
    }

pub returns-in-Win-clause-good : goal.returns-in-Win-clause-good
returns-in-Win-clause-good c =
    let roots = c.args.tree.now.forest in
    let quest = c.args.quest in
    let ns = c.as_slice-nodes.result.now in
    let all = subst (λ (l : List ℕ). Collected quest.aim quest.side (named roots) (IsNamed roots) c.args.n l (length l)) (sym c.as_slice-nodes.ensures.value) c.in_ok-strategy.ensures in
    let won = subst (λ (a : Aim). Collected a quest.side (named roots) (IsNamed roots) c.args.n ns (length ns)) c.in-Win.is all in
    win_good quest.pieces c.args.shelf.now.puts Win quest.side (named roots) (IsNamed roots) c.args.n ns won (MOST_FOUND_RANK + length ns) c.in_ok-wins-in-Win.wins c.in_ok-wins-in-Win.ensures.wins

pub returns-clause-good : goal.returns-clause-good
returns-clause-good c =
    let roots = c.args.tree.now.forest in
    let quest = c.args.quest in
    let ns = c.as_slice-nodes.result.now in
    let all = subst (λ (l : List ℕ). Collected quest.aim quest.side (named roots) (IsNamed roots) c.args.n l (length l)) (sym c.as_slice-nodes.ensures.value) c.in_ok-strategy.ensures in
    let held = subst (λ (a : Aim). Collected a quest.side (named roots) (IsNamed roots) c.args.n ns (length ns)) c.in-Hold.is all in
    hold_good quest.pieces c.args.shelf.now.puts Hold quest.side (named roots) (IsNamed roots) c.args.n ns held c.in_ok-holds-in-Hold.holds c.in_ok-holds-in-Hold.ensures.holds
