use Rattle.std.proofs.Common.{get_or}
use Rattle.root_work.proofs.Walks.{Weighs, count_waiting}
use Rattle.root_work.proofs.roots.walk.Given as goal

abbrev pub invariant-loop-node : goal.invariant-loop-node
invariant-loop-node l = Weighs (λ n. get_or l.weights n 0) l.tree.forest l.fn.top l.waiting.items l.weight

abbrev pub decreases-loop-node : goal.decreases-loop-node
decreases-loop-node l = count_waiting l.tree.forest l.waiting.items
