-- What was counted, and what the squares left add to it, are the numbers of the board.
use Rattle.table_index.proofs.SquaresLeft.{IsLeft}
use Rattle.table_index.proofs.indices.index_of.Given as goal

abbrev pub invariant-loop-left : goal.invariant-loop-left
invariant-loop-left l = IsLeft l.p l.left l.behind l.later l.kinds

abbrev pub decreases-loop-left : goal.decreases-loop-left
decreases-loop-left l = l.left
