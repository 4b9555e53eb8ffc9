use Rattle.std.proofs.Common.{◌≡◌, ◌++◌, map, take}
use Rattle.certificate_joiner.specs.Strategy.{named}
use Rattle.proof_tree.specs.Forest.{nodes}
use Rattle.root_work.proofs.Walks.{number_of}
use Rattle.root_work.proofs.roots.push_children.Given as goal

abbrev pub invariant-loop-place : goal.invariant-loop-place
invariant-loop-place l = l.waiting.items ≡ l.initial.waiting.items ++ map number_of (take l.place (nodes (named l.tree.forest l.fn.node).children))
