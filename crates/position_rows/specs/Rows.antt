-- Rows by their positions, as contracts see them.
use Rattle.std.specs.Prelude.{◌≡◌, ℕ, ◌+◌, List, Some, map, slice_get}
use Rattle.std.specs.List.{IsDistinct}
use Rattle.draughts_board.specs.Board.{Board, same_board}

-- the rows in the order in which they came, and for how many more there is room
pub record RowList (E : Type 0) : Type 0 where
  pub entries : List (Board × E)
  pub spare : ℕ

-- the position of each row
abbrev pub positions_of : {E : Type 0} → List (Board × E) → List Board
positions_of rows = map (λ row. row.0) rows

-- no position stands twice
abbrev pub AreApart : {E : Type 0} → List (Board × E) → Type 0
AreApart rows = IsDistinct same_board (positions_of rows)

-- the row at this place, counted from 0, is that of the position
abbrev pub IsRowAt : {E : Type 0} → List (Board × E) → ℕ → Board → Type 0
IsRowAt {E} rows i p = (e : E) × (slice_get rows i ≡ Some (p, e))

-- one more than the place of a row of the position
abbrev pub IsNumberOf : {E : Type 0} → List (Board × E) → ℕ → Board → Type 0
IsNumberOf rows number p = (i : ℕ) × (number ≡ i + 1) × IsRowAt rows i p
