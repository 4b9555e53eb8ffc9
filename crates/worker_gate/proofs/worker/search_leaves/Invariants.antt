use Rattle.std.proofs.Common.{◌≡◌}
use Rattle.turn_lock.specs.Seen.{IsOutside}
use Rattle.tree_manager.specs.Turns.{GrowsByTurns}
use Rattle.worker_gate.proofs.worker.search_leaves.Given as goal

abbrev pub invariant-loop-lease : goal.invariant-loop-lease
invariant-loop-lease g l = record {
  outside : IsOutside l.shared l.pass;
  grows : GrowsByTurns l.initial.pass.front l.pass.front;
  memo : l.memo ≡ l.initial.memo;
}
