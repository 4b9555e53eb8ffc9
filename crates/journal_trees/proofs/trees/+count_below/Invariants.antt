use Rattle.std.proofs.Common.{◌≡◌, ◌+◌, ◌-◌, take}
use Rattle.std.specs.Prelude.{sum_by}
use Rattle.certificate_joiner.specs.Strategy.{named}
use Rattle.proof_tree.specs.Forest.{nodes}
use Rattle.journal_trees.specs.Trees.{node_count}
use Rattle.journal_trees.proofs.trees.+count_below.Given as goal

abbrev pub decreases-count_below : goal.decreases-count_below
decreases-count_below l = l.plies

abbrev pub invariant-loop-place : goal.invariant-loop-place
invariant-loop-place l = l.count ≡ 1 + sum_by (node_count (l.plies - 1)) (take l.place (nodes (named l.tree.forest l.n).children))
