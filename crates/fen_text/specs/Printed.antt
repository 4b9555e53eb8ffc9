-- The one printed spelling of a position.
use Rattle.std.specs.Prelude.{ℕ, ◌+◌, ◌/◌, ◌%◌, List, [], ◌∷◌, None, Bool, true, false, nat_lt, if◌then◌else◌}
use Rattle.draughts_board.specs.Board.{Board, belongs}
use Rattle.draughts_board.specs.declared.pieces.Side.{Side}
use Rattle.draughts_board.specs.declared.pieces.Side.TheVariants.{Black, White}
use Rattle.draughts_board.specs.declared.pieces.Cell.{Cell}
use Rattle.draughts_board.specs.declared.pieces.Cell.TheVariants.{Empty, Man, King}
use Rattle.fen_text.specs.Grammar.{Numeral, one, two, Item, item_text, Draft, draft_text}

-- the number in decimal, with no 0 in front
abbrev pub decimal : ℕ → Numeral
decimal n = (if nat_lt n 10 then one (48 + n) else two (48 + n / 10) (48 + n % 10))

abbrev pub is_king : Cell → Bool
is_king Empty = false
is_king (Man s) = false
is_king (King s) = true

-- one square, with no blank before it
abbrev pub printed_item : ℕ → Cell → Item
printed_item n c = record { blanks = 0; king = is_king c; first = decimal n; last = None }

-- an item behind those of a list so far: a comma, unless it is the first
abbrev pub next_text : Bool → Item → List ℕ
next_text true i = item_text i
next_text false i = 44 ∷ item_text i

-- the side's items among these cells, the first of which is that of square n, in rising order of
-- square
abbrev pub printed_items : Side → ℕ → List Cell → List Item
printed_items side n [] = []
printed_items side n (c ∷ cells) =
    (if belongs side c then printed_item n c ∷ printed_items side (n + 1) cells
    else printed_items side (n + 1) cells)

-- White's list, then Black's, and no full stop
abbrev pub printed : Board → Draft
printed p = record {
  to_move = p.to_move;
  colour = White;
  first = printed_items White 1 p.cells;
  second = printed_items Black 1 p.cells;
  stop = false;
}

-- the printed FEN
unfoldable pub fen_of : Board → List ℕ
fen_of p = draft_text (printed p)
