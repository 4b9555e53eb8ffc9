use Rattle.std.proofs.Common.{inl, inr, subst}
use Rattle.journal_runs.specs.Ends.{IsEndedBy}
use Rattle.journal_runs.proofs.AloneLemmas.{searches_on}
use Rattle.journal_runs.proofs.WorkLemmas.{begin_failed, begun_goes_on, failed_goes_on, memory_goes_on, too_many_go_on, run_done, run_spent, worked_goes_on}
use Rattle.journal_runs.proofs.runs.work_on.Goals as goal

pub returns-in-Err-Disk-clause-fault : goal.returns-in-Err-Disk-clause-fault
returns-in-Err-Disk-clause-fault g c = λ is. begin_failed g.D.Disk.faults c.args.session c.begin.new.self c.args.positions.now _ c.in-Err-Disk.ensures.refused c.in-Err-Disk.field-0-is

pub returns-in-Err-Failed-clause-goes_on : goal.returns-in-Err-Failed-clause-goes_on
returns-in-Err-Failed-clause-goes_on g c = failed_goes_on g.D.Disk.faults c.args.session c.begin.new.self c.args.positions.now _ c.in-Err-Failed.ensures.refused c.in-Err-Failed.field-0-is

pub returns-in-Err-TooManyRoots-clause-goes_on : goal.returns-in-Err-TooManyRoots-clause-goes_on
returns-in-Err-TooManyRoots-clause-goes_on g c = too_many_go_on g.D.Disk.faults c.args.session c.begin.new.self c.args.positions.now _ c.in-Err-TooManyRoots.ensures.refused c.in-Err-TooManyRoots.field-0-is

pub returns-in-Err-Memory-clause-goes_on : goal.returns-in-Err-Memory-clause-goes_on
returns-in-Err-Memory-clause-goes_on g c = memory_goes_on g.D.Disk.faults c.args.session c.begin.new.self c.args.positions.now _ c.in-Err-Memory.ensures.refused _ c.in-Err-Memory.field-0-is

pub work_together-session-requires-clause-tables : goal.work_together-session-requires-clause-tables
work_together-session-requires-clause-tables g c κs within =
    (searches_on (g.O.Oracle.piece_limit c.args.oracle.now) c.args.session.line c.begin.new.self.line c.args.session.core c.requires.stands c.requires.tables c.requires.depth (begun_goes_on _ _ _ _ c.in-Ok.ensures.begun)).tables

pub work_together-session-requires-clause-depth : goal.work_together-session-requires-clause-depth
work_together-session-requires-clause-depth g c κs within =
    (searches_on (g.O.Oracle.piece_limit c.args.oracle.now) c.args.session.line c.begin.new.self.line c.args.session.core c.requires.stands c.requires.tables c.requires.depth (begun_goes_on _ _ _ _ c.in-Ok.ensures.begun)).depth

pub returns-in-Done-clause-goes_on : goal.returns-in-Done-clause-goes_on
returns-in-Done-clause-goes_on g c = worked_goes_on _ _ _ _ c.in-Ok.ensures.begun _ c.work_together-session.ensures.grows

pub returns-in-Done-clause-worked : goal.returns-in-Done-clause-worked
returns-in-Done-clause-worked g c =
    run_done _ _ _ _ _ c.in-Ok.ensures.begun c.in-Ok.ensures.stands c.work_together-session.ensures.grows
    c.args.lease (c.work_together-session.ensures.searched (inl c.in-Done.is)) (subst (λ how. IsEndedBy how c.work_together-session.result.0) c.in-Done.is c.work_together-session.ensures.ended)

pub returns-in-Spent-clause-goes_on : goal.returns-in-Spent-clause-goes_on
returns-in-Spent-clause-goes_on g c = worked_goes_on _ _ _ _ c.in-Ok.ensures.begun _ c.work_together-session.ensures.grows

pub returns-in-Spent-clause-worked : goal.returns-in-Spent-clause-worked
returns-in-Spent-clause-worked g c =
    run_spent _ _ _ _ _ c.in-Ok.ensures.begun c.in-Ok.ensures.stands c.work_together-session.ensures.grows
    c.args.lease (c.work_together-session.ensures.searched (inr c.in-Spent.is)) (subst (λ how. IsEndedBy how c.work_together-session.result.0) c.in-Spent.is c.work_together-session.ensures.ended)

pub returns-in-Failed-clause-goes_on : goal.returns-in-Failed-clause-goes_on
returns-in-Failed-clause-goes_on g c = worked_goes_on _ _ _ _ c.in-Ok.ensures.begun _ c.work_together-session.ensures.grows

pub returns-in-Memory-clause-goes_on : goal.returns-in-Memory-clause-goes_on
returns-in-Memory-clause-goes_on g c = worked_goes_on _ _ _ _ c.in-Ok.ensures.begun _ c.work_together-session.ensures.grows
