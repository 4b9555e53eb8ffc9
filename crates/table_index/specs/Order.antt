-- The order of the positions with few pieces in an endgame table: in blocks of 0, 1, 2 and 3
-- pieces, and in a block by squares, then by kinds, then by the side to move.
use Rattle.std.specs.Prelude.{ℕ, zero, suc, ◌+◌, ◌-◌, ◌*◌, ◌/◌, ◌%◌, ◌^◌, List, [], ◌∷◌, ◌++◌, length, filter, fold, map, Option, Some, None, not, nat_lt, ◌==◌, if◌then◌else◌, replicate, slice_get, option_and_then}
use Rattle.std.specs.List.{position_or_len}
use Rattle.std.specs.Cmp.Lexicographic.{pointwise}
use Rattle.draughts_board.specs.declared.pieces.Side.{Side}
use Rattle.draughts_board.specs.declared.pieces.Side.TheVariants.{Black, White}
use Rattle.draughts_board.specs.declared.pieces.Cell.{Cell}
use Rattle.draughts_board.specs.declared.pieces.Cell.TheVariants.{Empty, Man, King}
use Rattle.draughts_board.specs.Geometry.{squares}
use Rattle.draughts_board.specs.Board.{Board, cell_at, is_empty, is_lawful, piece_count}
use Rattle.draughts_board.specs.Rules.{put}

-- ---- the blocks

-- the choices of n of these squares, each choice rising, in lexicographic order
unfoldable pub choices : ℕ → List ℕ → List (List ℕ)
choices zero all = [] ∷ []
choices (suc n) [] = []
choices (suc n) (x ∷ all) = map (λ rest. x ∷ rest) (choices n all) ++ choices (suc n) all

-- how many places the block of n pieces has: one for each choice of squares, each choice of kinds
-- and each side to move
abbrev pub block_size : ℕ → ℕ
block_size n = length (choices n squares) * 4 ^ n * 2

-- the first index of the block of n pieces
unfoldable pub first_index : ℕ → ℕ
first_index zero = 0
first_index (suc n) = first_index n + block_size n

-- how many indices a table of k pieces has
abbrev pub entry_count : ℕ → ℕ
entry_count k = first_index (suc k)

-- ---- the index of a position

-- the squares on which a piece stands, rising
abbrev pub occupied : Board → List ℕ
occupied p = filter (λ n. not (is_empty (cell_at p n))) squares

-- the place of a choice of squares among the choices of as many squares
abbrev pub place_of_choice : List ℕ → ℕ
place_of_choice choice =
    position_or_len (λ other. pointwise ◌==◌ other choice) (choices (length choice) squares)

-- a piece's kind as a digit to base 4 (an empty square has none)
abbrev pub kind : Cell → ℕ
kind (Man Black) = 0
kind (King Black) = 1
kind (Man White) = 2
kind (King White) = 3
kind Empty = 0

-- the kinds of the pieces as one number, the digit of the first square the most significant
abbrev pub kinds_of : Board → ℕ
kinds_of p = fold (λ number n. number * 4 + kind (cell_at p n)) 0 (occupied p)

abbrev pub side_number : Side → ℕ
side_number Black = 0
side_number White = 1

-- The index of a position in every table that has it.
unfoldable pub index_of : Board → ℕ
index_of p =
    first_index (piece_count p)
    + (place_of_choice (occupied p) * 4 ^ piece_count p + kinds_of p) * 2 + side_number p.to_move

-- ---- the position at an index

-- the piece of a kind
abbrev pub piece_numbered : ℕ → Cell
piece_numbered k =
    (if k == 0 then Man Black else if k == 1 then King Black else if k == 2 then Man White
    else King White)

abbrev pub side_numbered : ℕ → Side
side_numbered s = (if s == 0 then Black else White)

-- the cells with a piece put on each of these squares; the first digit of the kinds is the first
-- square's
abbrev pub with_pieces_on : List Cell → List ℕ → ℕ → List Cell
with_pieces_on cells [] kinds = cells
with_pieces_on cells (n ∷ rest) kinds =
    with_pieces_on (put cells n (piece_numbered (kinds / 4 ^ length rest))) rest (kinds % 4 ^ length rest)

-- the board with pieces of these kinds on the chosen squares
abbrev pub board_of : List ℕ → ℕ → Side → Board
board_of choice kinds side =
    record { cells = with_pieces_on (replicate 32 Empty) choice kinds; to_move = side }

-- the board where it keeps the rule on pieces
abbrev pub if_lawful : Board → Option Board
if_lawful p = (if is_lawful p then Some p else None)

-- what stands at a place of the block of n pieces: the last digit of the place is the side, then
-- come the kinds
abbrev pub position_in_block : ℕ → ℕ → Option Board
position_in_block n place =
    let side = side_numbered (place % 2) in
    let kinds = place / 2 % 4 ^ n in
    option_and_then (λ choice. if_lawful (board_of choice kinds side)) (slice_get
    (choices n squares) (place / 2 / 4 ^ n))

-- how many pieces stand on the boards of an index's block
abbrev pub block_of : ℕ → ℕ
block_of i =
    (if nat_lt i (first_index 1) then 0 else if nat_lt i (first_index 2) then 1
    else if nat_lt i (first_index 3) then 2 else 3)

-- The position at an index of the tables of up to three pieces: none where the index is no
-- position.
unfoldable pub position_at : ℕ → Option Board
position_at i = position_in_block (block_of i) (i - first_index (block_of i))
