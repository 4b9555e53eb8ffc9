-- The openings made from a seed: positions in which Black must capture. A Black king stands on the
-- start of a jump and a White king on the square that it passes over; a third king of either colour
-- stands anywhere else but on its end.
use Rattle.std.specs.Prelude.{ℕ, ◌+◌, ◌*◌, ◌/◌, ◌%◌, ◌==◌, ◌||◌, not, nat_lt, if◌then◌else◌, List, map, filter, take, replicate, slice_index_or}
use Rattle.std.specs.List.{range_with_len}
use Rattle.draughts_board.specs.Geometry.{squares}
use Rattle.draughts_board.specs.Board.{Board}
use Rattle.draughts_board.specs.Rules.{put, first_places}
use Rattle.draughts_board.specs.declared.pieces.Side.{Side}
use Rattle.draughts_board.specs.declared.pieces.Side.TheVariants.{Black, White}
use Rattle.draughts_board.specs.declared.pieces.Cell.TheVariants.{Empty, King}
use Rattle.capture_positions.specs.Jumps.{jumps}
use Rattle.capture_positions.specs.declared.jumps.Jump.{Jump}
use Rattle.capture_positions.specs.declared.jumps.TheConstants.{JUMP_COUNT, OTHER_COUNT}
use Rattle.capture_positions.specs.declared.openings.TheConstants.{INDEX_COUNT, SEED_FACTOR, STEP_FACTOR}

-- ---- the position with an index, 0 to 4175

-- the jump of this number, from 0
abbrev pub jump_numbered : ℕ → Jump
jump_numbered t = slice_index_or jumps t (record { start = 0; over = 0; end = 0 })

-- the squares other than the jump's three, in rising order
abbrev pub squares_beside : Jump → List ℕ
squares_beside j =
    filter (λ n. not (n == j.start || (n == j.over || n == j.end))) squares

-- the position of three kings: Black's on the jump's start, White's on the square that it passes
-- over, and this side's on d; Black is to move
abbrev pub three_kings : Jump → ℕ → Side → Board
three_kings j d s = record {
  cells = put (put (put (replicate 32 Empty) j.start (King Black)) j.over (King White)) d (King s);
  to_move = Black;
}

-- The index counts the jumps fastest, then the 29 squares beside the jump, and then the colours of
-- the king on such a square, White first.
abbrev pub numbered_position : ℕ → Board
numbered_position i =
    three_kings (jump_numbered (i % JUMP_COUNT))
    (slice_index_or (squares_beside (jump_numbered (i % JUMP_COUNT))) (i / JUMP_COUNT % OTHER_COUNT) 0)
    (if nat_lt (i / JUMP_COUNT) OTHER_COUNT then White else Black)

-- ---- the walk

-- the index of a step of the walk, from 0
abbrev pub index_of_step : ℕ → ℕ → ℕ
index_of_step seed k = (seed * SEED_FACTOR + k * STEP_FACTOR) % INDEX_COUNT

-- the positions of the first `steps` steps
abbrev pub walk : ℕ → ℕ → List Board
walk seed steps = map (λ k. numbered_position (index_of_step seed k)) (range_with_len 0 steps)

-- the openings: the first `count` different positions that the walk meets, in order
abbrev pub openings_from : ℕ → ℕ → List Board
openings_from seed count = take count (first_places (walk seed INDEX_COUNT))
