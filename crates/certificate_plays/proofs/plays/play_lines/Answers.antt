use Rattle.std.proofs.Common.{◌≡◌, ℕ, sym, ap, subst, ◌∙◌}
use Rattle.std.proofs.lemmas.Result.{err_from_is_err_and}
use Rattle.draughts_board.specs.Draughts.{draughts}
use Rattle.strategy_certificate.specs.declared.certificates.Certificate.{Certificate}
use Rattle.strategy_certificate.specs.Tables.{IsSoundTable}
use Rattle.certificate_plays.proofs.PlayLemmas.{begins_there, certificate_now, comes_first, comes_next, comes_out, comes_to_fault}
use Rattle.certificate_plays.proofs.plays.play_lines.Goals as goal

pub loop-line-init : goal.loop-line-init
loop-line-init g c =
    comes_first (g.O.Oracle.answer_at c.args.oracle.now) c.args.player.certificate c.args.player.side c.args.source.now c.new-moves.result.items c.answer.new.moves.items c.args.player c.answer.new.player
    c.requires.begins c.new-moves.ensures.items c.in_ok-answer.ensures

pub hear-requires-clause-turn : goal.hear-requires-clause-turn
hear-requires-clause-turn g c = c.loop-line.invariant.turn

pub hear-requires-clause-pieces : goal.hear-requires-clause-pieces
hear-requires-clause-pieces g c =
    let same = certificate_now (g.O.Oracle.answer_at c.args.oracle.now) c.args.player.certificate c.args.player.side c.args.source.now c.loop-line.rest.now c.loop-line.moves.items c.loop-line.number c.loop-line.player c.loop-line.invariant in
    ap (λ (d : Certificate). d.pieces) same.0 ∙ c.requires.pieces

pub answer-requires-in-Some : goal.answer-requires-in-Some
answer-requires-in-Some g c =
    let same = certificate_now (g.O.Oracle.answer_at c.args.oracle.now) c.args.player.certificate c.args.player.side c.args.source.now c.loop-line.rest.now c.loop-line.moves.items c.loop-line.number c.loop-line.player c.loop-line.invariant in
    ap (λ (d : Certificate). d.pieces) (c.in_ok-hear.ensures.heard.1.1.certificate ∙ same.0) ∙ c.requires.pieces

pub loop-line-preserved : goal.loop-line-preserved
loop-line-preserved g c =
    let heard = c.in_ok-hear.ensures.heard in
    comes_next (g.O.Oracle.answer_at c.args.oracle.now) c.args.player.certificate c.args.player.side c.args.source.now c.loop-line.rest.now c.loop-line.moves.items c.loop-line.number c.loop-line.player c.loop-line.invariant
    c.in-Some.line.now c.in-Some.behind.now heard.0 c.hear.new.player c.answer-in-Some.new.player c.answer-in-Some.new.moves.items c.in-Some.ensures.some c.in-Some.ensures.shorter heard.1.0 heard.1.1 c.in_ok-answer-2.ensures

pub returns-in_err-hear-clause-refused : goal.returns-in_err-hear-clause-refused
returns-in_err-hear-clause-refused g c =
    let answer = g.O.Oracle.answer_at c.args.oracle.now in
    let sound : IsSoundTable draughts c.args.player.certificate.pieces answer = subst (λ n. IsSoundTable draughts n answer) (sym c.requires.pieces) c.pieces-pieces.ensures.sound in
    let p = err_from_is_err_and c.from_residual-in_err-hear.result c.from_residual-in_err-hear.ensures.1 in
    rw (p.1, p.2)
    (comes_to_fault answer c.args.player.certificate c.args.player.side c.args.source.now c.loop-line.rest.now c.loop-line.moves.items c.loop-line.number c.loop-line.player sound c.position-start.ensures.valid.own c.loop-line.invariant
    c.in-Some.line.now c.in-Some.behind.now c.in-Some.ensures.some _ c.in_err-hear.ensures.refused)

pub returns-clause-plays : goal.returns-clause-plays
returns-clause-plays g c =
    let answer = g.O.Oracle.answer_at c.args.oracle.now in
    let sound : IsSoundTable draughts c.args.player.certificate.pieces answer = subst (λ n. IsSoundTable draughts n answer) (sym c.requires.pieces) c.pieces-pieces.ensures.sound in
    comes_out answer c.args.player.certificate c.args.player.side c.args.source.now c.loop-line.rest.now c.loop-line.moves.items c.loop-line.number c.loop-line.player sound c.position-start.ensures.valid.own c.loop-line.invariant
    c.in_default.ensures.none c.position-end.ensures.valid c.position-start.result c.position-end.result (c.position-start.ensures.value ∙ begins_there answer c.args.player c.requires.begins) c.position-end.ensures.value
