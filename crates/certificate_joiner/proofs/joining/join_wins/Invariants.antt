use Rattle.std.proofs.Common.{◌≡◌, ◌+◌, ◌≤◌, length}
use Rattle.strategy_certificate.specs.declared.entries.TheConstants.{MOST_FOUND_RANK}
use Rattle.certificate_joiner.specs.Strategy.{named}
use Rattle.certificate_joiner.proofs.LoopLemmas.{WinsFrom}
use Rattle.certificate_joiner.proofs.joining.join_wins.Given as goal

abbrev pub invariant-loop-left : goal.invariant-loop-left
invariant-loop-left l = record {
  within : l.left ≤ length l.strategy;
  rank : l.rank + l.left ≡ MOST_FOUND_RANK + length l.strategy;
  side : l.part.side ≡ l.fn.side;
  wins : WinsFrom l.pieces (named l.tree.forest) l.strategy l.left l.rank l.part;
}

abbrev pub decreases-loop-left : goal.decreases-loop-left
decreases-loop-left l = l.left
