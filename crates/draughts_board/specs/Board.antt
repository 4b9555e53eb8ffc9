-- Positions as contracts see them: what stands on each square, and whose turn it is.
use Rattle.std.specs.Prelude.{◌≡◌, ℕ, ◌+◌, ◌-◌, ◌<◌, ◌≤◌, ◌==◌, nat_le, IsTrue, IsFalse, Bool, true, false, ◌&&◌, not, List, [], ◌∷◌, length, count_by, slice_index_or, replicate, ◌++◌, map, reverse}
use Rattle.std.specs.Cmp.Lexicographic.{pointwise}
use Rattle.draughts_board.specs.Geometry.{row}
use Rattle.draughts_board.specs.declared.pieces.Side.{Side}
use Rattle.draughts_board.specs.declared.pieces.Side.TheVariants.{Black, White}
use Rattle.draughts_board.specs.declared.pieces.Cell.{Cell}
use Rattle.draughts_board.specs.declared.pieces.Cell.TheVariants.{Empty, Man, King}

-- ---- sides and cells

abbrev pub other : Side → Side
other Black = White
other White = Black

abbrev pub same_side : Side → Side → Bool
same_side Black Black = true
same_side White White = true
same_side Black White = false
same_side White Black = false

abbrev pub is_empty : Cell → Bool
is_empty Empty = true
is_empty (Man s) = false
is_empty (King s) = false

-- a piece of the side stands there
abbrev pub belongs : Side → Cell → Bool
belongs s Empty = false
belongs s (Man t) = same_side s t
belongs s (King t) = same_side s t

abbrev pub same_cell : Cell → Cell → Bool
same_cell Empty Empty = true
same_cell Empty (Man t) = false
same_cell Empty (King t) = false
same_cell (Man s) Empty = false
same_cell (Man s) (Man t) = same_side s t
same_cell (Man s) (King t) = false
same_cell (King s) Empty = false
same_cell (King s) (Man t) = false
same_cell (King s) (King t) = same_side s t

-- ---- positions

-- 32 cells, the cell of square n at place n - 1, and the side to move
pub record Board : Type 0 where
  pub cells : List Cell
  pub to_move : Side

-- what stands on square n
abbrev pub cell_at : Board → ℕ → Cell
cell_at p n = slice_index_or p.cells (n - 1) Empty

-- how many pieces the side has
abbrev pub pieces : Side → List Cell → ℕ
pieces s = count_by (belongs s)

abbrev pub piece_count : Board → ℕ
piece_count p = pieces Black p.cells + pieces White p.cells

-- the row that a side's men go towards, and on which they are crowned
abbrev pub farthest_row : Side → ℕ
farthest_row Black = 7
farthest_row White = 0

-- anything may stand on square n but a man whose farthest row it is in
abbrev pub is_allowed : ℕ → Cell → Bool
is_allowed n Empty = true
is_allowed n (King s) = true
is_allowed n (Man s) = not (row n == farthest_row s)

-- the first of these cells is that of square n, and each is allowed where it stands
abbrev pub all_allowed : ℕ → List Cell → Bool
all_allowed n [] = true
all_allowed n (c ∷ cells) = is_allowed n c && all_allowed (n + 1) cells

-- The rule on pieces: 32 squares, at most 12 pieces a side, and no man on its farthest row.
pub record IsLawful (p : Board) : Type 0 where
  pub squares : length p.cells ≡ 32
  pub black : pieces Black p.cells ≤ 12
  pub white : pieces White p.cells ≤ 12
  pub men : IsTrue (all_allowed 1 p.cells)

-- the same as a test
abbrev pub is_lawful : Board → Bool
is_lawful p = length p.cells == 32 && nat_le (pieces Black p.cells) 12 && nat_le
    (pieces White p.cells) 12 && all_allowed 1 p.cells

-- n is the least square with a man on its farthest row
abbrev pub IsLeastMisplaced : List Cell → ℕ → Type 0
IsLeastMisplaced cells n =
    (1 ≤ n) × (n ≤ 32) × IsFalse (is_allowed n (slice_index_or cells (n - 1) Empty))
    × ((m : ℕ) → 1 ≤ m → m < n → IsTrue (is_allowed m (slice_index_or cells (m - 1) Empty)))

abbrev pub same_board : Board → Board → Bool
same_board p q = pointwise same_cell p.cells q.cells && same_side p.to_move q.to_move

-- The start: Black on 1 to 12, White on 21 to 32, and Black moves first.
abbrev pub start_board : Board
start_board = record {
  cells = replicate 12 (Man Black) ++ replicate 8 Empty ++ replicate 12 (Man White);
  to_move = Black;
}

-- ---- the board turned by 180 degrees, with colours exchanged

abbrev pub turned_cell : Cell → Cell
turned_cell Empty = Empty
turned_cell (Man s) = Man (other s)
turned_cell (King s) = King (other s)

-- square n goes to 33 - n, and the colours and the side to move change places
abbrev pub turned : Board → Board
turned p = record { cells = reverse (map turned_cell p.cells); to_move = other p.to_move }
