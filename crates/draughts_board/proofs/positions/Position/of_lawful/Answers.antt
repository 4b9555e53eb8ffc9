use Rattle.draughts_board.proofs.FourMasks.{position_of_masks}
use Rattle.draughts_board.proofs.positions.Position.of_lawful.Goals as goal

pub invariant_of-result : goal.invariant_of-result
invariant_of-result c = (position_of_masks (record { cells = c.args.cells; to_move = c.args.to_move }) _ _ _ _ c.mask_of.ensures c.mask_of-2.ensures c.mask_of-3.ensures c.mask_of-4.ensures c.requires).0

pub returns : goal.returns
returns c = (position_of_masks (record { cells = c.args.cells; to_move = c.args.to_move }) _ _ _ _ c.mask_of.ensures c.mask_of-2.ensures c.mask_of-3.ensures c.mask_of-4.ensures c.requires).1
