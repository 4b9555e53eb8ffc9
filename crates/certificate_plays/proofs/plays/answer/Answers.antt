use Rattle.certificate_plays.proofs.PlayLemmas.{answers_by, answers_not}
use Rattle.certificate_plays.proofs.plays.answer.Goals as goal

pub returns-then-not-is_turn : goal.returns-then-not-is_turn
returns-then-not-is_turn g c =
    answers_not (g.O.Oracle.answer_at c.args.oracle.now) c.args.player.now c.args.moves.now.items
    (λ mine. (let is = c.is_turn.ensures.1 mine in let not = c.if-not-is_turn.true in cc))

pub returns : goal.returns
returns g c =
    answers_by (g.O.Oracle.answer_at c.args.oracle.now) c.args.player.now c.choose.new.self c.in_ok-path.path c.args.moves.now.items c.push.new.self.items
    (c.is_turn.ensures.0 c.if-not-is_turn.false) c.in_ok-path.ensures.makes c.in_ok-push.ensures.items
