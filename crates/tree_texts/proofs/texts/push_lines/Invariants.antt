use Rattle.std.proofs.Common.{◌≡◌, ◌++◌, drop}
use Rattle.std.specs.Prelude.{map}
use Rattle.journal_trees.specs.Sights.{sight_of}
use Rattle.tree_texts.specs.TreeTexts.{node_lines}
use Rattle.tree_texts.proofs.texts.push_lines.Given as goal

abbrev pub invariant-loop-node : goal.invariant-loop-node
invariant-loop-node l = l.text.items ++ node_lines (map sight_of (drop l.node-index l.nodes)) ≡ l.initial.text.items ++ node_lines (map sight_of l.nodes)
