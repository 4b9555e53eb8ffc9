use Rattle.std.proofs.Common.{◌≡◌, ◌≤◌, length}
use Rattle.certificate_joiner.specs.Strategy.{named}
use Rattle.certificate_joiner.proofs.LoopLemmas.{HoldsFrom}
use Rattle.certificate_joiner.proofs.joining.join_holds.Given as goal

abbrev pub invariant-loop-left : goal.invariant-loop-left
invariant-loop-left l = record {
  within : l.left ≤ length l.strategy;
  side : l.part.side ≡ l.fn.side;
  holds : HoldsFrom l.pieces (named l.tree.forest) l.strategy l.left l.part;
}

abbrev pub decreases-loop-left : goal.decreases-loop-left
decreases-loop-left l = l.left
