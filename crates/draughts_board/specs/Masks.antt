-- Masks of 32 bits as sets of squares, and a board as four of them.
use Rattle.std.specs.Prelude.{◌≡◌, ℕ, ◌+◌, ◌-◌, ◌*◌, ◌^◌, ◌<◌, ◌==◌, nat_lt, IsTrue, Bool, not, List, [], ◌∷◌, map, filter, count_by, slice_index, if◌then◌else◌}
use Rattle.std.specs.List.{list_any}
use Rattle.std.specs.Int.{bit_at}
use Rattle.draughts_board.specs.declared.pieces.Side.{Side}
use Rattle.draughts_board.specs.declared.pieces.Side.TheVariants.{Black, White}
use Rattle.draughts_board.specs.declared.pieces.Cell.{Cell}
use Rattle.draughts_board.specs.declared.pieces.Cell.TheVariants.{Empty, Man, King}
use Rattle.draughts_board.specs.Geometry.{IsSquare, squares}
use Rattle.draughts_board.specs.Board.{Board, IsLawful, cell_at, same_cell}

-- ---- one mask

-- square n stands in the mask: its bit is that of value 2 ^ (n - 1)
abbrev pub stands_in : ℕ → ℕ → Bool
stands_in m n = bit_at m (n - 1) == 1

-- the squares of the mask, in rising order
unfoldable pub squares_of : ℕ → List ℕ
squares_of m = filter (stands_in m) squares

-- the mask holds just the squares that pass the test
abbrev pub IsMaskOf : (ℕ → Bool) → ℕ → Type 0
IsMaskOf test m = (n : ℕ) → IsSquare n → stands_in m n ≡ test n

-- ---- the four masks of a board: of Black's men, Black's kings, White's men and White's kings

-- the mask of the cells with this piece: the first cell's bit is the lowest
unfoldable pub mask_of : Cell → List Cell → ℕ
mask_of piece [] = 0
mask_of piece (c ∷ cells) = (if same_cell piece c then 1 else 0) + 2 * mask_of piece cells

abbrev pub masks_of : Board → List ℕ
masks_of p =
    mask_of (Man Black) p.cells
    ∷ mask_of (King Black) p.cells
    ∷ mask_of (Man White) p.cells
    ∷ mask_of (King White) p.cells
    ∷ []

-- the same square by square: these four masks hold the squares of the board's pieces
pub record AreMasksOf (p : Board) (masks : List ℕ) : Type 0 where
  pub black_men : IsMaskOf (λ n. same_cell (Man Black) (cell_at p n)) (slice_index masks 0)
  pub black_kings : IsMaskOf (λ n. same_cell (King Black) (cell_at p n)) (slice_index masks 1)
  pub white_men : IsMaskOf (λ n. same_cell (Man White) (cell_at p n)) (slice_index masks 2)
  pub white_kings : IsMaskOf (λ n. same_cell (King White) (cell_at p n)) (slice_index masks 3)

-- ---- the board of four masks

-- no square stands in two of the masks
abbrev pub are_apart : List ℕ → Bool
are_apart masks = not (list_any (λ n. nat_lt 1 (count_by (λ m. stands_in m n) masks)) squares)

-- the piece of the first mask that the square stands in
abbrev pub cell_if : Bool → Bool → Bool → Bool → Cell
cell_if black_man black_king white_man white_king =
    (if black_man then Man Black
    else (if black_king then King Black else
    (if white_man then Man White else (if white_king then King White else Empty))))

-- what stands on square n
abbrev pub cell_in : List ℕ → ℕ → Cell
cell_in masks n =
    cell_if (stands_in (slice_index masks 0) n) (stands_in (slice_index masks 1) n)
    (stands_in (slice_index masks 2) n) (stands_in (slice_index masks 3) n)

unfoldable pub cells_in : List ℕ → List Cell
cells_in masks = map (cell_in masks) squares

abbrev pub board_in : List ℕ → Side → Board
board_in masks s = record { cells = cells_in masks; to_move = s }

-- four masks of 32 bits that make a position: no two share a square, and their board keeps the rule
-- on pieces
pub record MakePosition (black_men black_kings white_men white_kings : ℕ) (s : Side) : Type 0 where
  pub fits_black_men : black_men < 2 ^ 32
  pub fits_black_kings : black_kings < 2 ^ 32
  pub fits_white_men : white_men < 2 ^ 32
  pub fits_white_kings : white_kings < 2 ^ 32
  pub apart : IsTrue (are_apart (black_men ∷ black_kings ∷ white_men ∷ white_kings ∷ []))
  pub lawful : IsLawful (board_in (black_men ∷ black_kings ∷ white_men ∷ white_kings ∷ []) s)
