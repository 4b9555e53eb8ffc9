use Rattle.std.proofs.Common.{◌≡◌, ◌-◌}
use Rattle.turn_lock.specs.Growth.{GrowsTo}
use Rattle.tree_manager.specs.Sessions.{MayAddInTurn}
use Rattle.journal_runs.specs.Ends.{IsIdle}
use Rattle.journal_runs.proofs.alone.work_alone.Given as goal

abbrev pub invariant-loop-ended : goal.invariant-loop-ended
invariant-loop-ended g l =
    IsIdle l.session
    × ((l.session.core.state.settings ≡ l.initial.session.core.state.settings)
    × ((l.memo ≡ g.O.Oracle.piece_limit l.oracle)
    × GrowsTo MayAddInTurn l.initial.session.line l.session.line))

abbrev pub decreases-loop-ended : goal.decreases-loop-ended
decreases-loop-ended g l = l.session.core.state.settings.budget - l.session.core.state.work
