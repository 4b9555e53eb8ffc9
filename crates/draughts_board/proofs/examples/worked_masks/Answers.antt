use Rattle.std.proofs.Common.{refl}
use Rattle.draughts_board.specs.Geometry.{squares}
use Rattle.draughts_board.specs.Masks.{squares_of, mask_of, cells_in}
use Rattle.draughts_board.proofs.examples.worked_masks.Goals as goal

pub returns : goal.returns
unfolding squares squares_of mask_of cells_in
returns c = record {
  squares_of_5 = refl;
  square_32 = refl;
  start_masks = refl;
  start_of_masks = refl;
  four_masks = refl;
  four_apart = refl;
  shared_square = refl;
  shared_by_sides = refl;
  misplaced = refl;
}
