use Rattle.journal_runs.proofs.AloneLemmas.{depth_there, grows_ended, idle_ended, searches_grown, tables_there}
use Rattle.journal_runs.proofs.TurnLemmas.{failed_now, grows_then}
use Rattle.journal_runs.proofs.together.go_on_alone.Goals as goal

pub work_alone-requires-clause-tables : goal.work_alone-requires-clause-tables
work_alone-requires-clause-tables g c =
    let ended = grows_ended _ _ c.end_leases.ensures.ended in
    tables_there _ c.end_leases.new.self.line c.end_leases.new.self.core (searches_grown _ _ _ c.requires (grows_then _ _ _ c.commit.ensures.grows ended)) c.end_leases.ensures.stands

pub work_alone-requires-clause-depth : goal.work_alone-requires-clause-depth
work_alone-requires-clause-depth g c =
    let ended = grows_ended _ _ c.end_leases.ensures.ended in
    depth_there _ c.end_leases.new.self.line c.end_leases.new.self.core (searches_grown _ _ _ c.requires (grows_then _ _ _ c.commit.ensures.grows ended)) c.end_leases.ensures.stands

pub work_alone-requires-clause-idle : goal.work_alone-requires-clause-idle
work_alone-requires-clause-idle g c =
    idle_ended _ _ c.end_leases.ensures.ended c.in-Ok.ensures.works c.in-Ok.ensures.none_staged c.end_leases.ensures.unleased

pub returns-in-Ok-clause-grows : goal.returns-in-Ok-clause-grows
returns-in-Ok-clause-grows g c =
    grows_then _ _ _ c.commit.ensures.grows (grows_then _ _ _ (grows_ended _ _ c.end_leases.ensures.ended) c.work_alone.ensures.grows)

pub returns-in-Err-clause-ended : goal.returns-in-Err-clause-ended
returns-in-Err-clause-ended g c = failed_now g.D.Disk.faults c.args.session.now c.commit.new.self _ c.in-Err.ensures.refused
