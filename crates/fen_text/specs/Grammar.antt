-- The grammar of a FEN: of which parts a text is made, and how they are written.
use Rattle.std.specs.Prelude.{◌≡◌, ℕ, ◌+◌, ◌-◌, ◌*◌, ◌≤◌, List, [], ◌∷◌, ◌++◌, Option, Some, None, IfSome, Bool, true, false, ◌&&◌, replicate}
use Rattle.std.specs.Char.{is_ascii_digit}
use Rattle.std.specs.List.{flat_map, AllByRecursion}
use Rattle.draughts_board.specs.Board.{other}
use Rattle.draughts_board.specs.declared.pieces.Side.{Side}
use Rattle.draughts_board.specs.declared.pieces.Side.TheVariants.{Black, White}

-- ---- bytes: 32 is a blank, 44 `,`, 45 `-`, 46 `.`, 58 `:`, 75 `K`

-- the letter `B` or `W`
abbrev pub letter_of : Side → ℕ
letter_of Black = 66
letter_of White = 87

-- ---- squares

-- a number of one or two digits, each as its byte
pub data Numeral : Type 0 where
  one : ℕ → Numeral
  two : ℕ → ℕ → Numeral

abbrev pub numeral_text : Numeral → List ℕ
numeral_text (one a) = a ∷ []
numeral_text (two a b) = a ∷ b ∷ []

abbrev pub are_digits : Numeral → Bool
are_digits (one a) = is_ascii_digit a
are_digits (two a b) = is_ascii_digit a && is_ascii_digit b

abbrev pub value : Numeral → ℕ
value (one a) = a - 48
value (two a b) = 10 * (a - 48) + (b - 48)

-- the numeral is that of a square, and of no square before `least`
pub record IsSquareFrom (least : ℕ) (n : Numeral) : Type 0 where
  pub digits : are_digits n ≡ true
  pub low : least ≤ value n
  pub high : value n ≤ 32

-- ---- items

-- A square or a range of squares, all with kings or all with men. The blanks are those between the
-- comma before it and itself; a list's first item has no comma and no blanks before it.
pub record Item : Type 0 where
  pub blanks : ℕ
  pub king : Bool
  pub first : Numeral
  pub last : Option Numeral

-- a `K` for kings
abbrev pub mark : Bool → List ℕ
mark true = 75 ∷ []
mark false = []

-- a range goes on with `-` and its last square
abbrev pub range_text : Option Numeral → List ℕ
range_text None = []
range_text (Some last) = 45 ∷ numeral_text last

abbrev pub item_text : Item → List ℕ
item_text i = mark i.king ++ (numeral_text i.first ++ range_text i.last)

-- the squares are those of the board, and a range does not fall
abbrev pub IsItem : Item → Type 0
IsItem i = IsSquareFrom 1 i.first × IfSome i.last (IsSquareFrom (value i.first))

-- ---- lists of items, with a comma between each two

-- what stands between two items
abbrev pub comma : ℕ → List ℕ
comma blanks = 44 ∷ replicate blanks 32

abbrev pub further_text : Item → List ℕ
further_text i = comma i.blanks ++ item_text i

abbrev pub list_text : List Item → List ℕ
list_text [] = []
list_text (i ∷ items) = item_text i ++ flat_map further_text items

abbrev pub AreItems : List Item → Type 0
AreItems items = AllByRecursion IsItem items

-- ---- the whole text

-- the side to move, whose list stands first, the two lists, and whether a full stop ends the text
pub record Draft : Type 0 where
  pub to_move : Side
  pub colour : Side
  pub first : List Item
  pub second : List Item
  pub stop : Bool

abbrev pub stop_text : Bool → List ℕ
stop_text true = 46 ∷ []
stop_text false = []

-- the side letter, `:` and the first letter of colour
abbrev pub opening_text : Side → Side → List ℕ
opening_text to_move colour = letter_of to_move ∷ 58 ∷ letter_of colour ∷ []

-- `:` and the other letter of colour
abbrev pub turn_text : Side → List ℕ
turn_text colour = 58 ∷ letter_of (other colour) ∷ []

abbrev pub draft_text : Draft → List ℕ
draft_text d =
    opening_text d.to_move d.colour
    ++ (list_text d.first ++ (turn_text d.colour ++ (list_text d.second ++ stop_text d.stop)))

-- The text has the form: it is made of these parts.
pub record HasForm (text : List ℕ) (d : Draft) : Type 0 where
  pub first : AreItems d.first
  pub second : AreItems d.second
  pub spelled : text ≡ draft_text d
