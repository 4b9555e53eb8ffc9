use Rattle.std.proofs.Common.{◌≡◌, ◌+◌, ◌++◌, ◌∷◌, [], List, ℕ, refl, sym, subst, ap}
use Rattle.std.specs.Prelude.{None, Some, true}
use Rattle.draughts_board.specs.Board.{Board, other}
use Rattle.certificate_player.specs.Choices.{IsChosen}
use Rattle.certificate_player.specs.Sides.{side_of}
use Rattle.strategy_certificate.specs.declared.certificates.Part.{Part}
use Rattle.certificate_lines.specs.Lines.{mover_part}
use Rattle.certificate_lines.specs.Steps.{HoldsOn, Stands}
use Rattle.certificate_lines.specs.Variations.{HasVariations}
use Rattle.certificate_lines.proofs.LineLemmas.{hold_next}
use Rattle.certificate_lines.proofs.VariationLemmas.{against_stands, varies_next}
use Rattle.certificate_lines.proofs.drawn.hold_on.Goals as goal

pub push_forks-requires-clause-turn : goal.push_forks-requires-clause-turn
push_forks-requires-clause-turn g c =
    let answer = g.O.Oracle.answer_at c.args.oracle.now in
    let end = c.loop-behind.end in
    let on = c.loop-behind.invariant.0 in
    subst (λ (one : Part). end.to_move ≡ other (side_of one)) (sym c.mover-against.ensures.part)
    (against_stands answer c.args.black.now c.args.white.now end end.to_move refl c.requires.black c.requires.white on.black_stands on.white_stands).1

pub push_forks-requires-clause-stands : goal.push_forks-requires-clause-stands
push_forks-requires-clause-stands g c =
    let answer = g.O.Oracle.answer_at c.args.oracle.now in
    let end = c.loop-behind.end in
    let on = c.loop-behind.invariant.0 in
    subst (λ (one : Part). Stands answer one end None) (sym c.mover-against.ensures.part)
    (against_stands answer c.args.black.now c.args.white.now end end.to_move refl c.requires.black c.requires.white on.black_stands on.white_stands).0

pub loop-behind-preserved : goal.loop-behind-preserved
loop-behind-preserved g c =
    let answer = g.O.Oracle.answer_at c.args.oracle.now in
    let black = c.args.black.now in
    let white = c.args.white.now in
    let varied = c.args.lengths.varied in
    let start = c.args.start in
    let end = c.loop-behind.end in
    let moves = c.loop-behind.moves.items in
    let path = c.in_ok-path.path in
    let on = c.loop-behind.invariant.0 in
    let chosen = subst (λ (one : Part). IsChosen answer end None one path) c.mover-part.ensures.part c.in_ok-path.ensures.chosen in
    let next = hold_next answer black white start c.loop-behind.behind moves end path c.requires.black c.requires.white on c.mover-part.ensures.valid chosen c.in_ok-path.ensures.legal in
    let varies = varies_next answer (λ p. Some (mover_part white black p)) (λ p. true) varied start moves path c.mover-against.result.now _ c.loop-behind.variations.items c.push_forks.new.variations.items
    c.loop-behind.invariant.1 on.leads (ap (λ (x : Part). Some x) (sym c.mover-against.ensures.part)) (sym on.long) c.in_ok-push_forks.ensures in (
      subst (λ (ms : List (List ℕ)). HoldsOn answer black white start (c.loop-behind.behind + 1) ms c.apply-end.result) (sym c.in_ok-push.ensures.items)
          (subst (λ (q : Board). HoldsOn answer black white start (c.loop-behind.behind + 1) (moves ++ path ∷ []) q) (sym c.apply-end.ensures) next),
      subst (λ (ms : List (List ℕ)). HasVariations answer (λ p. Some (mover_part white black p)) (λ p. true) varied start ms c.push_forks.new.variations.items) (sym c.in_ok-push.ensures.items) varies,
    )
