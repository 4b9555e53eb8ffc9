use Rattle.std.specs.Prelude.{sum_by}
use Rattle.tree_census.proofs.Walks.{Counts, nodes_at}
use Rattle.tree_census.proofs.counting.walk.Given as goal

abbrev pub invariant-loop-stop : goal.invariant-loop-stop
invariant-loop-stop l = Counts l.goal l.tree.forest l.fn.top l.waiting.items l.count l.open_leaves

abbrev pub decreases-loop-stop : goal.decreases-loop-stop
decreases-loop-stop l = sum_by (nodes_at l.tree.forest) l.waiting.items
