use Rattle.std.proofs.Common.{◌≡◌}
use Rattle.turn_lock.specs.Seen.{IsOutside}
use Rattle.tree_manager.specs.Turns.{GrowsByTurns}
use Rattle.worker_gate.specs.Work.{CanSearch}
use Rattle.worker_gate.proofs.worker.work.Given as goal

abbrev pub invariant-loop : goal.invariant-loop
invariant-loop g l = record {
  outside : IsOutside l.shared l.pass;
  grows : GrowsByTurns l.initial.pass.front l.pass.front;
  settings : CanSearch (g.O.Oracle.piece_limit l.oracle) l.pass.front;
  memo : l.memo ≡ g.O.Oracle.piece_limit l.oracle;
}
