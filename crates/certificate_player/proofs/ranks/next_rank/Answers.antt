use Rattle.certificate_player.proofs.Steps.{next_falls, next_follows, rank_there}
use Rattle.certificate_player.proofs.ranks.next_rank.Goals as goal

pub returns-in-Win-Some-clause-next : goal.returns-in-Win-Some-clause-next
returns-in-Win-Some-clause-next g c =
    rw (c.in-Win-Some.is-0, c.in-Win-Some.is-1)
    (rank_there (g.O.Oracle.answer_at c.args.oracle.now) c.in-Win-Some.part c.in-Win-Some.bound c.args.p.now c.rank_below.result c.rank_below.ensures (rw (c.in-Win-Some.is-0, c.in-Win-Some.is-1) at c.requires))

pub returns-in-Win-Some-clause-follows : goal.returns-in-Win-Some-clause-follows
unfolding returns-in-Win-Some-clause-next
returns-in-Win-Some-clause-follows g c =
    next_follows (g.O.Oracle.answer_at c.args.oracle.now) c.args.part.now c.args.p.now c.args.before c.rank_below.result c.requires (returns-in-Win-Some-clause-next g c)

pub returns-in-Win-Some-clause-falls : goal.returns-in-Win-Some-clause-falls
unfolding returns-in-Win-Some-clause-next
returns-in-Win-Some-clause-falls g c =
    next_falls (g.O.Oracle.answer_at c.args.oracle.now) c.args.part.now c.args.p.now c.args.before c.rank_below.result c.requires (returns-in-Win-Some-clause-next g c)
