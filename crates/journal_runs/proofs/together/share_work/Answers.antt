use Rattle.std.proofs.Common.{ap, sym, subst}
use Rattle.tree_manager.specs.Turns.{GrowsByTurns}
use Rattle.worker_gate.specs.Work.{CanSearch}
use Rattle.journal_runs.proofs.AloneLemmas.{searches_grown}
use Rattle.journal_runs.proofs.TurnLemmas.{grows_none, grows_then}
use Rattle.journal_runs.proofs.together.share_work.Goals as goal

pub returns-in-Err-clause-grows : goal.returns-in-Err-clause-grows
returns-in-Err-clause-grows g c = grows_none c.args.session.line c.in-Err.session.line (ap (λ s. s.line) c.in-Err.ensures.handed_back)

pub run_workers-requires-clause-settings : goal.run_workers-requires-clause-settings
run_workers-requires-clause-settings g c κs within =
    let can : CanSearch (g.O.Oracle.piece_limit c.args.oracle.now) c.args.session.line = record { tables = c.requires.tables; depth = c.requires.depth } in
    subst (λ front. CanSearch (g.O.Oracle.piece_limit c.args.oracle.now) front) (sym c.in-Ok.ensures.front) can

pub go_on_alone-ended-requires : goal.go_on_alone-ended-requires
go_on_alone-ended-requires g c =
    let can : CanSearch (g.O.Oracle.piece_limit c.args.oracle.now) c.args.session.line = record { tables = c.requires.tables; depth = c.requires.depth } in
    searches_grown _ _ _ can (subst (λ front. GrowsByTurns front c.finish-session.result.0.line) c.in-Ok.ensures.front (grows_then _ _ _ c.run_workers.ensures.grows c.finish-session.ensures.grows))

pub returns-clause-grows : goal.returns-clause-grows
returns-clause-grows g c =
    grows_then _ _ _ (subst (λ front. GrowsByTurns front c.finish-session.result.0.line) c.in-Ok.ensures.front (grows_then _ _ _ c.run_workers.ensures.grows c.finish-session.ensures.grows)) c.go_on_alone-ended.ensures.grows
