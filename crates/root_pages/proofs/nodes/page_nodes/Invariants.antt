use Rattle.std.proofs.Common.{◌≡◌, map, take}
use Rattle.journal_trees.specs.Sights.{sight_of}
use Rattle.page_text.specs.Nodes.{words_of}
use Rattle.root_pages.specs.Sights.{page_words}
use Rattle.root_pages.proofs.nodes.page_nodes.Given as goal

abbrev pub invariant-loop-node : goal.invariant-loop-node
invariant-loop-node l = map words_of l.shown.items ≡ map page_words (map sight_of (take l.node-index l.nodes))
