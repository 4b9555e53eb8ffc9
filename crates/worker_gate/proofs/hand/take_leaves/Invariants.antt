use Rattle.std.proofs.Common.{All}
use Rattle.tree_manager.specs.Taken.{TurnGoesOn}
use Rattle.tree_manager.specs.Turns.{AsksForSearch}
use Rattle.worker_gate.proofs.hand.take_leaves.Given as goal

abbrev pub invariant-loop : goal.invariant-loop
invariant-loop g l = record {
  goes_on : TurnGoesOn l.initial.turn l.turn;
  leases : All (AsksForSearch l.turn.session.line) l.leases.items;
}
