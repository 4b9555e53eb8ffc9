use Rattle.std.proofs.Common.{◌≡◌, ◌≤◌, ◌⊎◌}
use Rattle.certificate_joiner.specs.Strategy.{named}
use Rattle.journal_trees.specs.Trees.{node_count}
use Rattle.journal_trees.proofs.trees.deepest.Given as goal

abbrev pub invariant-loop-plies : goal.invariant-loop-plies
invariant-loop-plies l = (l.plies ≡ 0) ⊎ (node_count l.plies (named l.tree.forest l.n) ≤ l.most)
