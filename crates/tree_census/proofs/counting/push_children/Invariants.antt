use Rattle.std.proofs.Common.{◌≡◌, ◌++◌, take}
use Rattle.proof_tree.specs.Forest.{nodes}
use Rattle.certificate_joiner.specs.Strategy.{named}
use Rattle.tree_census.specs.Censuses.{stops}
use Rattle.tree_census.proofs.counting.push_children.Given as goal

abbrev pub invariant-loop-place : goal.invariant-loop-place
invariant-loop-place l = l.waiting.items ≡ l.initial.waiting.items ++ stops l.is_open (take l.place (nodes (named l.tree.forest l.fn.node).children))
