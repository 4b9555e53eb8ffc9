-- What the tables hold: for each square the squares near it, and those a jump away.
use Rattle.std.specs.Prelude.{ℕ, List, ◌++◌, filter, take, replicate}
use Rattle.draughts_board.specs.Geometry.{squares, are_near, are_jump_apart}

-- the squares near x in rising order, and then zeros, to four
unfoldable pub neighbour_row : ℕ → List ℕ
neighbour_row x = take 4 (filter (are_near x) squares ++ replicate 4 0)

-- the squares a jump away from x in rising order, and then zeros, to four
unfoldable pub jump_row : ℕ → List ℕ
jump_row x = take 4 (filter (are_jump_apart x) squares ++ replicate 4 0)
