use Rattle.std.proofs.Common.{◌≡◌, inl, inr, Some, sym, ap, ◌∙◌, subst, []}
use Rattle.std.specs.Prelude.{is_some}
use Rattle.draughts_board.specs.Board.{other}
use Rattle.draughts_board.specs.Draughts.{draughts}
use Rattle.draughts_board.specs.Play.{successors_of}
use Rattle.draughts_board.specs.declared.pieces.Side.TheVariants.{Black, White}
use Rattle.draughts_board.proofs.Successors.{draughts_takes_turns}
use Rattle.draughts_board.proofs.Truth.{other-other}
use Rattle.strategy_certificate.specs.declared.oracle.Answer.TheVariants.{Win, Loss, Draw}
use Rattle.strategy_certificate.proofs.Tables.{TableWins-wins, TableHolds-holds}
use Rattle.proof_numbers.specs.Sight.{AreFactsAtSight}
use Rattle.certificate_checker.proofs.SightLemmas.{answered_at_sight, blocked_at_sight, won_facts, drawn_facts}
use Rattle.swift_sight.proofs.sight.facts_where.Goals as goal

pub returns-in-Some-Win : goal.returns-in-Some-Win
returns-in-Some-Win g c =
    let k = g.O.Oracle.piece_limit c.args.oracle.now in
    let answer = g.O.Oracle.answer_at c.args.oracle.now in
    let p = c.args.p.now in
    let rank = c.in-Some-Win.field-0-0 in
    let is : answer p ≡ Some (Win rank) = sym c.answer.ensures.value ∙ (c.in-Some-Win.is ∙ ap Some c.in-Some-Win.field-0-is) in
    subst (AreFactsAtSight k p) (sym c.of_win.ensures)
    (won_facts k p c.to_move-mover.result (answered_at_sight k answer c.answer.ensures.sound p (ap is_some is))
    (rank, TableWins-wins draughts draughts_takes_turns k answer c.answer.ensures.sound c.to_move-mover.result rank p (inl (sym c.to_move-mover.ensures.value, is))))

pub returns-in-Some-Loss : goal.returns-in-Some-Loss
returns-in-Some-Loss g c =
    let k = g.O.Oracle.piece_limit c.args.oracle.now in
    let answer = g.O.Oracle.answer_at c.args.oracle.now in
    let p = c.args.p.now in
    let mover = c.to_move-mover.result in
    let rank = c.in-Some-Loss.field-0-0 in
    let is : answer p ≡ Some (Loss rank) = sym c.answer.ensures.value ∙ (c.in-Some-Loss.is ∙ ap Some c.in-Some-Loss.field-0-is) in
    let theirs : p.to_move ≡ other c.other.result = sym c.to_move-mover.ensures.value ∙ (sym (other-other mover) ∙ ap other (sym c.other.ensures)) in
    subst (AreFactsAtSight k p) (sym c.of_win-in-Some-Loss.ensures)
    (won_facts k p c.other.result (answered_at_sight k answer c.answer.ensures.sound p (ap is_some is))
    (rank, TableWins-wins draughts draughts_takes_turns k answer c.answer.ensures.sound c.other.result rank p (inr (theirs, is))))

pub returns-in-Some-Draw : goal.returns-in-Some-Draw
returns-in-Some-Draw g c =
    let k = g.O.Oracle.piece_limit c.args.oracle.now in
    let answer = g.O.Oracle.answer_at c.args.oracle.now in
    let p = c.args.p.now in
    let is : answer p ≡ Some Draw = sym c.answer.ensures.value ∙ (c.in-Some-Draw.is ∙ ap Some c.in-Some-Draw.field-0-is) in
    subst (AreFactsAtSight k p) (sym c.of_value.ensures)
    (drawn_facts k p (answered_at_sight k answer c.answer.ensures.sound p (ap is_some is))
    (TableHolds-holds draughts draughts_takes_turns k answer c.answer.ensures.sound Black p (inr is))
    (TableHolds-holds draughts draughts_takes_turns k answer c.answer.ensures.sound White p (inr is)))

pub returns-then-blocked : goal.returns-then-blocked
returns-then-blocked g c =
    let k = g.O.Oracle.piece_limit c.args.oracle.now in
    let p = c.args.p.now in
    let mover = c.to_move-mover.result in
    let none : successors_of p ≡ [] = c.requires.0 c.if-blocked.true in
    subst (AreFactsAtSight k p) (sym c.of_win-then-blocked.ensures)
    (won_facts k p c.other-then-blocked.result (blocked_at_sight k p none)
    (0, (sym c.to_move-mover.ensures.value ∙ (sym (other-other mover) ∙ ap other (sym c.other-then-blocked.ensures)), none)))
