use Rattle.std.proofs.Common.{◌≡◌, Some, sym, subst}
use Rattle.draughts_board.specs.Draughts.{draughts}
use Rattle.draughts_board.specs.declared.pieces.Side.TheVariants.{Black, White}
use Rattle.strategy_certificate.specs.Tables.{IsSoundTable}
use Rattle.certificate_player.specs.Plays.{own_part}
use Rattle.certificate_lines.proofs.LineLemmas.{drawn_answer, holds_there}
use Rattle.certificate_lines.proofs.VariationLemmas.{drawn_varied}
use Rattle.certificate_lines.proofs.drawn.drawn_line.Goals as goal

pub hold_on-requires-clause-black_stands : goal.hold_on-requires-clause-black_stands
hold_on-requires-clause-black_stands g c =
    let answer = g.O.Oracle.answer_at c.args.oracle.now in
    let sound : IsSoundTable draughts c.args.proved.now.pieces answer = subst (λ n. IsSoundTable draughts n answer) (sym c.requires.pieces) c.pieces-pieces.ensures.sound in
    let there : own_part c.args.proved.now Black ≡ Some c.own_part-black.result.now = rw c.certificate-certificate.ensures.value at c.own_part-black.ensures.part in
    rw c.certificate-certificate.ensures.value (holds_there c.args.proved.now Black c.own_part-black.result.now answer c.certificate-certificate.ensures.good sound there c.requires.draw)

pub hold_on-requires-clause-white_stands : goal.hold_on-requires-clause-white_stands
hold_on-requires-clause-white_stands g c =
    let answer = g.O.Oracle.answer_at c.args.oracle.now in
    let sound : IsSoundTable draughts c.args.proved.now.pieces answer = subst (λ n. IsSoundTable draughts n answer) (sym c.requires.pieces) c.pieces-pieces.ensures.sound in
    let there : own_part c.args.proved.now White ≡ Some c.own_part-white.result.now = rw c.certificate-certificate.ensures.value at c.own_part-white.ensures.part in
    rw c.certificate-certificate.ensures.value (holds_there c.args.proved.now White c.own_part-white.result.now answer c.certificate-certificate.ensures.good sound there c.requires.draw)

pub returns-clause-line : goal.returns-clause-line
returns-clause-line g c =
    let answer = g.O.Oracle.answer_at c.args.oracle.now in
    let sound : IsSoundTable draughts c.args.proved.now.pieces answer = subst (λ n. IsSoundTable draughts n answer) (sym c.requires.pieces) c.pieces-pieces.ensures.sound in
    let black : own_part c.args.proved.now Black ≡ Some c.own_part-black.result.now = rw c.certificate-certificate.ensures.value at c.own_part-black.ensures.part in
    let white : own_part c.args.proved.now White ≡ Some c.own_part-white.result.now = rw c.certificate-certificate.ensures.value at c.own_part-white.ensures.part in
    drawn_answer c.args.proved.now c.own_part-black.result.now c.own_part-white.result.now answer c.args.lengths.drawn c.hold_on.result sound black white c.own_part-black.ensures.side c.own_part-white.ensures.side
    (rw c.certificate-certificate.ensures.value at c.hold_on.ensures.on)

pub returns-clause-varies : goal.returns-clause-varies
returns-clause-varies g c =
    let answer = g.O.Oracle.answer_at c.args.oracle.now in
    let sound : IsSoundTable draughts c.args.proved.now.pieces answer = subst (λ n. IsSoundTable draughts n answer) (sym c.requires.pieces) c.pieces-pieces.ensures.sound in
    let black : own_part c.args.proved.now Black ≡ Some c.own_part-black.result.now = rw c.certificate-certificate.ensures.value at c.own_part-black.ensures.part in
    let white : own_part c.args.proved.now White ≡ Some c.own_part-white.result.now = rw c.certificate-certificate.ensures.value at c.own_part-white.ensures.part in
    drawn_varied c.args.proved.now c.own_part-black.result.now c.own_part-white.result.now answer c.args.lengths.varied c.hold_on.result sound c.requires.draw black white
    (rw c.certificate-certificate.ensures.value at c.hold_on.ensures.varies)
