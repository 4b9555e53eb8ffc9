-- The jumps of a king on the empty board: over each square that does not lie on an edge, in each of
-- four directions.
use Rattle.std.specs.Prelude.{ℕ, List, map, filter, flat_map}
use Rattle.draughts_board.specs.Geometry.{squares, are_jump_apart, between}
use Rattle.capture_positions.specs.declared.jumps.Jump.{Jump}

-- the jump from one square to another
abbrev pub jump_to : ℕ → ℕ → Jump
jump_to a c = record { start = a; over = between a c; end = c }

-- those from a square, in rising order of their ends
abbrev pub jumps_from : ℕ → List Jump
jumps_from a = map (jump_to a) (filter (are_jump_apart a) squares)

-- all of them, in rising order of their starts, then of their ends
unfoldable pub jumps : List Jump
jumps = flat_map jumps_from squares
