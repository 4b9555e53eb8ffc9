use Rattle.std.proofs.Common.{◌<◌, length}
use Rattle.proof_tree.proofs.tree.top_of.Given as goal

abbrev pub invariant-loop-parent : goal.invariant-loop-parent
invariant-loop-parent l = l.at < length l.rows

abbrev pub decreases-loop-parent : goal.decreases-loop-parent
decreases-loop-parent l = l.at
