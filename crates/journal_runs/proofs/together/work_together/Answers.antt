use Rattle.std.proofs.Common.{rules, ◌≡◌}
use Rattle.std.specs.Prelude.{Ok}
use Rattle.worker_gate.specs.Work.{CanSearch}
use Rattle.journal_runs.proofs.AloneLemmas.{searches_grown}
use Rattle.journal_runs.proofs.FirstPassLemmas.{stopped_ended, stopped_not}
use Rattle.journal_runs.proofs.FirstStaging.{on_ok}
use Rattle.journal_runs.proofs.TurnLemmas.{grows_then}
use Rattle.journal_runs.proofs.together.work_together.Goals as goal

pub share_work-requires-clause-tables : goal.share_work-requires-clause-tables
share_work-requires-clause-tables g c κs within =
    let can : CanSearch (g.O.Oracle.piece_limit c.args.oracle.now) c.args.session.line = record { tables = c.requires.tables; depth = c.requires.depth } in
    (searches_grown _ _ _ can c.first_pass.ensures.grows).tables

pub share_work-requires-clause-depth : goal.share_work-requires-clause-depth
share_work-requires-clause-depth g c κs within =
    let can : CanSearch (g.O.Oracle.piece_limit c.args.oracle.now) c.args.session.line = record { tables = c.requires.tables; depth = c.requires.depth } in
    (searches_grown _ _ _ can c.first_pass.ensures.grows).depth

pub returns-in-Ok-clause-grows : goal.returns-in-Ok-clause-grows
returns-in-Ok-clause-grows g c = grows_then _ _ _ c.first_pass.ensures.grows c.share_work.ensures.grows

pub returns-in-Ok-clause-searched : goal.returns-in-Ok-clause-searched
returns-in-Ok-clause-searched g c = λ which.
    let done : c.first_pass.result ≡ Ok c.in-Ok.field-0 = search (rules, c.in-Ok.is) in
    record {
      front = c.first_pass.new.session.line;
      core = c.first_pass.new.session.core;
      stands = c.in-Ok.ensures.stands;
      goes_on = c.share_work.ensures.grows;
      searched = λ room. on_ok _ c.first_pass.result c.in-Ok.field-0 done (c.first_pass.ensures.searched room);
    }

pub returns-in-Err-clause-searched : goal.returns-in-Err-clause-searched
returns-in-Err-clause-searched g c = λ which. absurd (stopped_not _ _ c.in-Err.ensures.stopped which)

pub returns-in-Err-clause-ended : goal.returns-in-Err-clause-ended
returns-in-Err-clause-ended g c = stopped_ended _ _ c.in-Err.ensures.stopped
