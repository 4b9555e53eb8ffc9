use Rattle.std.proofs.Common.{◌≤◌, length}
use Rattle.tree_manager.specs.Lines.{recorded}
use Rattle.tree_manager.specs.Taken.{TurnGoesOn}
use Rattle.worker_gate.proofs.hand.stage_results.Given as goal

abbrev pub invariant-loop-found : goal.invariant-loop-found
invariant-loop-found g l = record {
  goes_on : TurnGoesOn l.initial.turn l.turn;
  number : l.number ≤ length (recorded l.turn.session.line);
}

abbrev pub decreases-loop-found : goal.decreases-loop-found
decreases-loop-found g l = length l.results.items
