use Rattle.draughts_board.specs.MasksBack.{masks_of-AreMasksOf}
use Rattle.draughts_board.proofs.FourMasks.{position-masks, masks_of-board_in}
use Rattle.draughts_board.proofs.laws.positions_as_masks.Goals as goal

pub returns : goal.returns
returns c = record { masks = position-masks; boards = masks_of-board_in; squares = masks_of-AreMasksOf }
