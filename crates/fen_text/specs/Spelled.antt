-- What a text of the form says: which squares it names, with what, and who is to move.
use Rattle.std.specs.Prelude.{◌≡◌, ℕ, ◌≤◌, ◌<◌, List, [], ◌∷◌, ◌++◌, Option, Some, None, Bool, true, false, ◌&&◌, nat_le, map, count_by, if◌then◌else◌}
use Rattle.draughts_board.specs.Geometry.{IsSquare, squares}
use Rattle.draughts_board.specs.Board.{Board, IsLawful, IsLeastMisplaced, pieces, other}
use Rattle.draughts_board.specs.declared.pieces.Side.{Side}
use Rattle.draughts_board.specs.declared.pieces.Side.TheVariants.{Black, White}
use Rattle.draughts_board.specs.declared.pieces.Cell.{Cell}
use Rattle.draughts_board.specs.declared.pieces.Cell.TheVariants.{Empty, Man, King}
use Rattle.fen_text.specs.Grammar.{Numeral, value, Item, Draft, HasForm}

-- ---- squares with their pieces

-- a king or a man of the side on every square from the first to the last
pub record Group : Type 0 where
  pub side : Side
  pub king : Bool
  pub first : ℕ
  pub last : ℕ

abbrev pub piece_of : Side → Bool → Cell
piece_of side true = King side
piece_of side false = Man side

-- an item that is no range names one square
abbrev pub last_of : Numeral → Option Numeral → ℕ
last_of first None = value first
last_of first (Some last) = value last

abbrev pub group_of : Side → Item → Group
group_of side i =
    record { side = side; king = i.king; first = value i.first; last = last_of i.first i.last }

-- all that the text names, in its order
abbrev pub groups_of : Draft → List Group
groups_of d = map (group_of d.colour) d.first ++ map (group_of (other d.colour)) d.second

abbrev pub covers : ℕ → Group → Bool
covers n g = nat_le g.first n && nat_le n g.last

-- how often square n is named
abbrev pub times_named : ℕ → List Group → ℕ
times_named n groups = count_by (covers n) groups

abbrev pub NoneTwice : List Group → Type 0
NoneTwice groups = (n : ℕ) → IsSquare n → times_named n groups ≤ 1

-- n is the least square that is named more than once
pub record IsLeastTwice (groups : List Group) (n : ℕ) : Type 0 where
  pub square : IsSquare n
  pub twice : 2 ≤ times_named n groups
  pub least : (m : ℕ) → IsSquare m → m < n → times_named m groups ≤ 1

-- what the groups put on square n (the first of them, if there are several)
abbrev pub cell_named : ℕ → List Group → Cell
cell_named n [] = Empty
cell_named n (g ∷ groups) = (if covers n g then piece_of g.side g.king else cell_named n groups)

abbrev pub cells_named : List Group → List Cell
cells_named groups = map (λ n. cell_named n groups) squares

-- ---- the outcomes of a text that has the form

-- The text spells the position: it names no square twice, and the position is what it names and
-- keeps the rule on pieces.
pub record Spells (text : List ℕ) (p : Board) : Type 0 where
  pub draft : Draft
  pub form : HasForm text draft
  pub once : NoneTwice (groups_of draft)
  pub lawful : IsLawful p
  pub to_move : p.to_move ≡ draft.to_move
  pub cells : p.cells ≡ cells_named (groups_of draft)

-- The text has the form, and this is the least square that it names more than once.
pub record NamesTwice (text : List ℕ) (n : ℕ) : Type 0 where
  pub draft : Draft
  pub form : HasForm text draft
  pub twice : IsLeastTwice (groups_of draft) n

-- Black is counted before White.
abbrev pub IsOver : Side → List Cell → Type 0
IsOver Black cells = 12 < pieces Black cells
IsOver White cells = (pieces Black cells ≤ 12) × (12 < pieces White cells)

-- The text has the form and names no square twice, and this side has more than 12 pieces.
pub record NamesTooMany (text : List ℕ) (side : Side) : Type 0 where
  pub draft : Draft
  pub form : HasForm text draft
  pub once : NoneTwice (groups_of draft)
  pub over : IsOver side (cells_named (groups_of draft))

-- The text has the form and names no square twice, neither side has more than 12 pieces, and this
-- is the least square with a man on its farthest row.
pub record NamesManOnLastRow (text : List ℕ) (n : ℕ) : Type 0 where
  pub draft : Draft
  pub form : HasForm text draft
  pub once : NoneTwice (groups_of draft)
  pub black : pieces Black (cells_named (groups_of draft)) ≤ 12
  pub white : pieces White (cells_named (groups_of draft)) ≤ 12
  pub misplaced : IsLeastMisplaced (cells_named (groups_of draft)) n
