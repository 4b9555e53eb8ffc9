-- What is kept while a text is read: the cells named so far, and the least square named twice.
use Rattle.std.specs.Prelude.{◌≡◌, ℕ, ◌-◌, List, length, Option, Some, None, MatchOption, slice_index_or, slice_set, nat_lt, if◌then◌else◌}
use Rattle.draughts_board.specs.Geometry.{IsSquare}
use Rattle.draughts_board.specs.Board.{is_empty}
use Rattle.draughts_board.specs.declared.pieces.Cell.{Cell}
use Rattle.draughts_board.specs.declared.pieces.Cell.TheVariants.{Empty}
use Rattle.fen_text.specs.Spelled.{Group, NoneTwice, IsLeastTwice, cell_named}

-- the cells and the least square named twice are those of these groups
pub record HoldsGroups (kept : List Cell) (again : Option ℕ) (groups : List Group) : Type 0 where
  pub full : length kept ≡ 32
  pub cells : (n : ℕ) → IsSquare n → slice_index_or kept (n - 1) Empty ≡ cell_named n groups
  pub twice : MatchOption again (NoneTwice groups) (IsLeastTwice groups)

-- what stands on a square stays there
abbrev pub cells_with : List Cell → ℕ → Cell → List Cell
cells_with cells n c =
    (if is_empty (slice_index_or cells (n - 1) Empty) then slice_set cells (n - 1) c else cells)

abbrev pub lesser_square : ℕ → Option ℕ → ℕ
lesser_square n None = n
lesser_square n (Some m) = (if nat_lt m n then m else n)

abbrev pub twice_with : List Cell → Option ℕ → ℕ → Option ℕ
twice_with cells twice n =
    (if is_empty (slice_index_or cells (n - 1) Empty) then twice else Some (lesser_square n twice))
