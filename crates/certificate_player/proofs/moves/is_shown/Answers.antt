use Rattle.certificate_player.proofs.Finds.{shown_none, shown_some}
use Rattle.certificate_player.proofs.moves.is_shown.Goals as goal

pub returns-in-Some : goal.returns-in-Some
returns-in-Some g c =
    rw (c.in-Win-Some.is-0, c.in-Win-Some.is-1)
    (shown_some (g.O.Oracle.answer_at c.args.oracle.now) c.in-Win-Some.part c.args.q.now c.in-Win-Some.rank c.in-Some.shown (rw c.side.ensures.value at c.in-Some.ensures.rank))

pub returns-in-None : goal.returns-in-None
returns-in-None g c =
    rw (c.in-Win-Some.is-0, c.in-Win-Some.is-1)
    (shown_none (g.O.Oracle.answer_at c.args.oracle.now) c.in-Win-Some.part c.args.q.now c.in-Win-Some.rank (rw c.side.ensures.value at c.in-None.ensures.rank))
