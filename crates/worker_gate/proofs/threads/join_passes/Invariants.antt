use Rattle.std.proofs.Common.{All}
use Rattle.turn_lock.specs.Seen.{IsOutside}
use Rattle.tree_manager.specs.Turns.{GrowsByTurns}
use Rattle.worker_gate.proofs.threads.join_passes.Given as goal

abbrev pub invariant-loop-other : goal.invariant-loop-other
invariant-loop-other g l = record {
  outside : IsOutside l.shared l.pass;
  grows : GrowsByTurns l.initial.pass.front l.pass.front;
  each : All (λ worker. IsOutside l.shared worker.pass) l.workers.items;
}

abbrev pub decreases-loop-other : goal.decreases-loop-other
decreases-loop-other g l = goal.left-loop-other g l
