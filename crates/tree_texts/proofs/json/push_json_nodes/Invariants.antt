use Rattle.std.proofs.Common.{◌≡◌, ◌++◌, drop}
use Rattle.std.specs.Prelude.{map}
use Rattle.journal_trees.specs.Sights.{sight_of}
use Rattle.tree_texts.specs.Json.{json_nodes}
use Rattle.tree_texts.proofs.json.push_json_nodes.Given as goal

abbrev pub invariant-loop-node : goal.invariant-loop-node
invariant-loop-node l = l.text.items ++ json_nodes (map sight_of (drop l.node-index l.nodes)) ≡ l.initial.text.items ++ json_nodes (map sight_of l.nodes)
