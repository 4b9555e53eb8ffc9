use Rattle.std.proofs.Common.{◌≡◌, ◌++◌, drop, map}
use Rattle.page_text.specs.Nodes.{nodes_text, words_of}
use Rattle.page_text.proofs.nodes.push_nodes.Given as goal

abbrev pub invariant-loop-node : goal.invariant-loop-node
invariant-loop-node l = l.text.items ++ nodes_text l.before (map words_of (drop l.node-index l.nodes)) ≡ l.initial.text.items ++ nodes_text 0 (map words_of l.nodes)
