use Rattle.std.proofs.Common.{refl, lit<, lit≤}
use Rattle.draughts_board.specs.Geometry.{squares}
use Rattle.draughts_board.specs.Masks.{cells_in}
use Rattle.draughts_board.proofs.positions.Position.start.Goals as goal

pub invariant_of-result : goal.invariant_of-result
unfolding cells_in squares
invariant_of-result c = record {
  fits_black_men = lit< tt;
  fits_black_kings = lit< tt;
  fits_white_men = lit< tt;
  fits_white_kings = lit< tt;
  apart = refl;
  lawful = record { squares = refl; black = lit≤ tt; white = lit≤ tt; men = refl };
}

pub returns : goal.returns
unfolding cells_in squares
returns c = refl
