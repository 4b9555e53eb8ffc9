-- Worked examples, one a field, each proved by computation.
use Rattle.std.specs.Prelude.{◌≡◌, [], ◌∷◌, length, replicate, slice_index_or}
use Rattle.draughts_board.specs.Rules.{put}
use Rattle.draughts_board.specs.declared.pieces.Side.TheVariants.{Black, White}
use Rattle.draughts_board.specs.declared.pieces.Cell.TheVariants.{Empty, King}
use Rattle.capture_positions.specs.Jumps.{jumps, jumps_from, jump_to}
use Rattle.capture_positions.specs.Walk.{jump_numbered, squares_beside, index_of_step, openings_from}

pub record WorkedOpenings : Type 0 where
  -- There are 72 jumps: one from square 8, four from square 18. The last goes from 32 over 27 to 23.
  pub all_jumps : length jumps ≡ 72
  pub from_8 : jumps_from 8 ≡ jump_to 8 15 ∷ []
  pub from_18 : jumps_from 18 ≡ jump_to 18 9 ∷ jump_to 18 11 ∷ jump_to 18 25 ∷ jump_to 18 27 ∷ []
  pub last_jump : jump_numbered 71 ≡ record { start = 32; over = 27; end = 23 }
  -- Seed 1 begins with index 3743, which is B:WK27:BK24,K32: jump 71, and on the square of place 22
  -- beside it, which is 24, a Black king.
  pub first_index : index_of_step 1 0 ≡ 3743
  pub second_index : index_of_step 1 1 ≡ 3844
  pub place_22 : slice_index_or (squares_beside (jump_numbered 71)) 22 0 ≡ 24
  pub first_opening : openings_from 1 1 ≡ record {
    cells = put (put (put (replicate 32 Empty) 27 (King White)) 24 (King Black)) 32 (King Black);
    to_move = Black;
  } ∷ []
