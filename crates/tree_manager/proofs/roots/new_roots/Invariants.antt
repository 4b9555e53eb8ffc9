use Rattle.std.proofs.Common.{◌≡◌, ◌++◌, take}
use Rattle.proof_tree.specs.Sound.{root_positions}
use Rattle.tree_manager.specs.Sessions.{with_roots, AreNewRoots}
use Rattle.tree_manager.proofs.roots.new_roots.Given as goal

abbrev pub invariant-loop-p : goal.invariant-loop-p
invariant-loop-p l =
    (root_positions l.tree.forest ++ l.added ≡ with_roots (root_positions l.tree.forest) (take l.p-index l.positions))
    × AreNewRoots (root_positions l.tree.forest) l.added
