use Rattle.std.proofs.Common.{take}
use Rattle.proof_tree.specs.Forest.{nodes}
use Rattle.certificate_joiner.specs.Strategy.{named, IsNamed, Added}
use Rattle.certificate_joiner.proofs.collecting.add_children.Given as goal

abbrev pub invariant-loop-i : goal.invariant-loop-i
invariant-loop-i l =
    Added (named l.tree.forest) (IsNamed l.tree.forest) l.initial.to.items l.to.items (take l.i (nodes (named l.tree.forest l.n).children))
