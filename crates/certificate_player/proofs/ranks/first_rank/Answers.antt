use Rattle.std.proofs.Common.{Some, refl}
use Rattle.certificate_player.proofs.Finds.{first_by_entry, first_by_table}
use Rattle.certificate_player.proofs.Steps.{first_follows}
use Rattle.certificate_player.proofs.ranks.first_rank.Goals as goal

pub returns-in-Some-clause-first : goal.returns-in-Some-clause-first
returns-in-Some-clause-first g c =
    rw c.in-Win.is (first_by_entry (g.O.Oracle.answer_at c.args.oracle.now) c.in-Win.part c.args.p.now c.in-Some.entry ((c.in-Some.ensures.found c.in-Some.entry).0 refl))

pub returns-in-Some-clause-follows : goal.returns-in-Some-clause-follows
unfolding returns-in-Some-clause-first
returns-in-Some-clause-follows g c =
    first_follows (g.O.Oracle.answer_at c.args.oracle.now) c.args.part.now c.args.p.now (Some c.in-Some.entry.rank) c.requires (returns-in-Some-clause-first g c)

pub returns-in-None-clause-first : goal.returns-in-None-clause-first
returns-in-None-clause-first g c =
    rw c.in-Win.is
    (first_by_table (g.O.Oracle.answer_at c.args.oracle.now) c.in-Win.part c.args.p.now c.table_rank.result (c.in-None.ensures.none.0 refl) (rw c.side.ensures.value at c.table_rank.ensures.rank) (rw c.in-Win.is at c.requires))

pub returns-in-None-clause-follows : goal.returns-in-None-clause-follows
unfolding returns-in-None-clause-first
returns-in-None-clause-follows g c =
    first_follows (g.O.Oracle.answer_at c.args.oracle.now) c.args.part.now c.args.p.now c.table_rank.result c.requires (returns-in-None-clause-first g c)
