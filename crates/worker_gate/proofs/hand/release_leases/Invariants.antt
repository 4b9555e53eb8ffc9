use Rattle.tree_manager.specs.Taken.{TurnGoesOn}
use Rattle.worker_gate.proofs.hand.release_leases.Given as goal

abbrev pub invariant-loop-lease : goal.invariant-loop-lease
invariant-loop-lease g l = TurnGoesOn l.initial.turn l.turn
