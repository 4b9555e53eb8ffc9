use Rattle.std.proofs.Common.{◌∙◌, sym, ap}
use Rattle.proof_numbers.specs.Facts.{known}
use Rattle.journal_trees.specs.Sights.{path_to}
use Rattle.journal_trees.proofs.SightLemmas.{position-is, sight-is}
use Rattle.journal_trees.proofs.nodes.shown_node.Goals as goal

pub returns : goal.returns
returns c =
    sight-is c.args.tree.now.forest c.args.spot.now.node c.requires.there c.args.next c.number-number.result c.args.spot.now.depth c.args.spot.now.above c.args.path c.position-position.result c.mark-mark.result (known c.facts-facts.result)
    c.numbers-black.result c.numbers-white.result c.is_picked-is_next.result
    (c.requires.path ∙ sym (ap (path_to c.args.spot.now.above) (position-is c.args.tree.now.forest c.args.spot.now.node c.requires.there c.position-position.result c.position-position.ensures))) c.position-position.ensures c.mark-mark.ensures c.facts-facts.ensures c.numbers-black.ensures c.numbers-white.ensures c.number-number.ensures c.is_picked-is_next.ensures
