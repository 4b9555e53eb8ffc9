use Rattle.proof_tree.proofs.Bounds.{room_in}
use Rattle.proof_tree.proofs.Counting.{AreSmall-linked}
use Rattle.proof_tree.proofs.numbering.numbers_of.Goals as goal

pub folded-requires : goal.folded-requires
folded-requires c =
    room_in c.args.rows.now c.requires.linked (AreSmall-linked c.args.rows.now c.requires.linked c.requires.few) c.args.at
    c.requires.inside c.requires.fits c.args.goal c.index-rows-at.result c.index-rows-at.is
