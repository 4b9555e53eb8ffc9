use Rattle.std.proofs.Common.{take}
use Rattle.tree_manager.proofs.RootLemmas.{AreRootsStaged}
use Rattle.tree_manager.proofs.roots.stage_roots.Given as goal

abbrev pub invariant-loop-count : goal.invariant-loop-count
invariant-loop-count g l = AreRootsStaged l.fn.bench l.bench l.fn.journal l.journal (take l.count l.added)
