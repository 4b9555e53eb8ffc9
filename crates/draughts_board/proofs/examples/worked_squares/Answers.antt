use Rattle.std.proofs.Common.{refl}
use Rattle.draughts_board.specs.Geometry.{squares}
use Rattle.draughts_board.proofs.examples.worked_squares.Goals as goal

pub returns : goal.returns
unfolding squares
returns c = record {
  row_of_1 = refl;
  column_of_1 = refl;
  row_of_5 = refl;
  column_of_5 = refl;
  row_of_32 = refl;
  column_of_32 = refl;
  near_18 = refl;
  jumps_18 = refl;
  near_12 = refl;
  near_29 = refl;
  over_18_27 = refl;
  over_18_9 = refl;
}
