use Rattle.std.proofs.Common.{◌≡◌, Some, sym, subst}
use Rattle.draughts_board.specs.Draughts.{draughts}
use Rattle.strategy_certificate.specs.Tables.{IsSoundTable}
use Rattle.certificate_player.specs.Plays.{own_part}
use Rattle.certificate_player.proofs.PlayLemmas.{own_good, play_begins}
use Rattle.certificate_player.proofs.player.Player.new.Goals as goal

pub first_rank-rank-requires : goal.first_rank-rank-requires
first_rank-rank-requires g c =
    let answer = g.O.Oracle.answer_at c.args.oracle.now in
    let sound : IsSoundTable draughts c.args.proved.pieces answer = subst (λ n. IsSoundTable draughts n answer) (sym c.requires) c.pieces-pieces.ensures.sound in
    let there : own_part c.args.proved c.args.side ≡ Some c.own_part-part.result.now = rw c.certificate-certificate.ensures.value at c.own_part-part.ensures.part in
    rw c.certificate-certificate.ensures.value (own_good c.args.proved c.args.side c.own_part-part.result.now answer c.certificate-certificate.ensures.good sound there).1

pub invariant_of-result : goal.invariant_of-result
invariant_of-result g c =
    let answer = g.O.Oracle.answer_at c.args.oracle.now in
    let sound : IsSoundTable draughts c.args.proved.pieces answer = subst (λ n. IsSoundTable draughts n answer) (sym c.requires) c.pieces-pieces.ensures.sound in
    let there : own_part c.args.proved c.args.side ≡ Some c.own_part-part.result.now = rw c.certificate-certificate.ensures.value at c.own_part-part.ensures.part in
    let tells = rw c.certificate-certificate.ensures.value at (c.tells_hold.ensures.0 c.if-not-tells_hold.false) in
    let follows = rw c.certificate-certificate.ensures.value at c.first_rank-rank.ensures.follows in
    rw c.new.ensures.items
    (play_begins c.args.proved c.args.side c.own_part-part.result.now c.first_rank-rank.result answer c.certificate-certificate.ensures.good c.certificate-certificate.ensures.claim tells sound there follows)

pub returns-clause-valid : goal.returns-clause-valid
unfolding invariant_of-result
returns-clause-valid g c = invariant_of-result g c
