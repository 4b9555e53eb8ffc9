-- The conditions that the code tests: what is left of a step or a jump once a table has named the
-- square.
use Rattle.std.specs.Prelude.{ℕ, Bool, ◌&&◌, ◌||◌, ◌==◌, not, List}
use Rattle.draughts_board.specs.Geometry.{is_square, between}
use Rattle.draughts_board.specs.Board.{Board, cell_at, belongs, other, is_empty}
use Rattle.draughts_board.specs.Rules.{may_go, contains, jumped, first_square, last_square}

-- the piece on x may step to z, if z is a square and near x
abbrev pub is_open_step : Board → ℕ → ℕ → Bool
is_open_step p x z = is_square z && is_empty (cell_at p z) && may_go (cell_at p x) x z

-- the piece that starts on `start` may jump from x to z, if z is a square and a jump away from x
abbrev pub is_open_jump : Board → ℕ → ℕ → ℕ → Bool
is_open_jump p start x z =
    is_square z && (is_empty (cell_at p z) || z == start) && may_go (cell_at p start) x z
    && belongs (other p.to_move) (cell_at p (between x z))

-- the same behind a path, over a piece that it has not jumped yet
abbrev pub is_open_further : Board → List ℕ → ℕ → Bool
is_open_further p path z =
    is_open_jump p (first_square path) (last_square path) z && not
    (contains (jumped path) (between (last_square path) z))
