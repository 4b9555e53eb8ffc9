-- Where a text cannot go on. A place is what stands before it, in the grammar's parts; each place
-- says which bytes may stand there, which square, and whether the text may end there.
use Rattle.std.specs.Prelude.{◌≡◌, ◌≢◌, ℕ, ◌<◌, ◌⊎◌, List, [], ◌∷◌, ◌++◌, length, Option, Some, None, Bool, true, false, ◌&&◌, ◌||◌, not, ◌==◌}
use Rattle.draughts_board.specs.Board.{other}
use Rattle.draughts_board.specs.declared.pieces.Side.{Side}
use Rattle.fen_text.specs.Grammar.{letter_of, Numeral, one, two, numeral_text, are_digits, value, IsSquareFrom, Item, mark, IsItem, AreItems, comma, list_text, opening_text, turn_text}
use Rattle.std.specs.Char.{is_ascii_digit}

-- ---- places

-- everything up to a letter of colour: up to the first, or up to the second
pub data Introduction : Type 0 where
  first_list : Side → Side → Introduction
  second_list : Side → Side → List Item → Introduction

-- how far an item has come: nothing of it stands yet, or its `K`, or its first square and the `-`
-- of a range
pub data Started : Type 0 where
  nothing : Started
  king_mark : Started
  range_sign : Bool → Numeral → Started

pub data FenPlace : Type 0 where
  -- at the beginning, where the side letter is due
  at_side : FenPlace
  -- behind the side letter
  at_colon : Side → FenPlace
  -- behind the first `:`
  at_colour : Side → FenPlace
  -- behind the second `:`
  at_other_colour : Side → Side → List Item → FenPlace
  -- behind a letter of colour
  at_list : Introduction → FenPlace
  -- in an item, behind the items before it and a comma with this number of blanks
  in_item : Introduction → List Item → ℕ → Started → FenPlace
  -- behind an item, and the items before it
  behind_item : Introduction → List Item → Item → FenPlace
  -- behind the full stop
  at_end : Side → Side → List Item → List Item → FenPlace

-- ---- the text before a place

abbrev pub opening_front : Introduction → List ℕ
opening_front (first_list to_move colour) = opening_text to_move colour
opening_front (second_list to_move colour items) =
    opening_text to_move colour ++ (list_text items ++ turn_text colour)

abbrev pub started_text : Started → List ℕ
started_text nothing = []
started_text king_mark = mark true
started_text (range_sign king first) = mark king ++ (numeral_text first ++ 45 ∷ [])

-- the items before an item, and the comma behind them
abbrev pub lead_text : List Item → ℕ → List ℕ
lead_text [] blanks = []
lead_text (i ∷ items) blanks = list_text (i ∷ items) ++ comma blanks

abbrev pub text_before : FenPlace → List ℕ
text_before at_side = []
text_before (at_colon to_move) = letter_of to_move ∷ []
text_before (at_colour to_move) = letter_of to_move ∷ 58 ∷ []
text_before (at_other_colour to_move colour items) =
    opening_text to_move colour ++ (list_text items ++ 58 ∷ [])
text_before (at_list opening) = opening_front opening
text_before (in_item opening items blanks started) =
    opening_front opening ++ (lead_text items blanks ++ started_text started)
text_before (behind_item opening items item) =
    opening_front opening ++ list_text (items ++ item ∷ [])
text_before (at_end to_move colour first second) =
    opening_front (second_list to_move colour first) ++ (list_text second ++ 46 ∷ [])

abbrev pub IsIntroduction : Introduction → Type 0
IsIntroduction (first_list to_move colour) = Unit {0}
IsIntroduction (second_list to_move colour items) = AreItems items

-- a list's first item is no longer due once it has not begun: the list may be empty
abbrev pub HasStarted : List Item → Started → Type 0
HasStarted items nothing = items ≢ []
HasStarted items king_mark = Unit {0}
HasStarted items (range_sign king first) = IsSquareFrom 1 first

-- all that stands before the place keeps to the grammar
abbrev pub IsPlace : FenPlace → Type 0
IsPlace at_side = Unit {0}
IsPlace (at_colon to_move) = Unit {0}
IsPlace (at_colour to_move) = Unit {0}
IsPlace (at_other_colour to_move colour items) = AreItems items
IsPlace (at_list opening) = IsIntroduction opening
IsPlace (in_item opening items blanks started) =
    IsIntroduction opening × AreItems items × HasStarted items started
IsPlace (behind_item opening items item) = IsIntroduction opening × AreItems items × IsItem item
IsPlace (at_end to_move colour first second) = AreItems first × AreItems second

-- ---- what may stand at a place

-- what may stand behind a list: the second `:`, or the full stop
abbrev pub closing : Introduction → ℕ
closing (first_list to_move colour) = 58
closing (second_list to_move colour items) = 46

-- behind one digit a second may stand
abbrev pub has_room : Numeral → Bool
has_room (one a) = true
has_room (two a b) = false

-- what may carry an item on: a second digit, or the `-` of a range
abbrev pub carries_on : Numeral → Option Numeral → ℕ → Bool
carries_on first None b = (has_room first && is_ascii_digit b) || b == 45
carries_on first (Some last) b = has_room last && is_ascii_digit b

abbrev pub may_begin : Started → ℕ → Bool
may_begin nothing b = is_ascii_digit b || b == 75 || b == 32
may_begin king_mark b = is_ascii_digit b
may_begin (range_sign king first) b = is_ascii_digit b

abbrev pub may_stand : FenPlace → ℕ → Bool
may_stand at_side b = b == 66 || b == 87
may_stand (at_colon to_move) b = b == 58
may_stand (at_colour to_move) b = b == 66 || b == 87
may_stand (at_other_colour to_move colour items) b = b == letter_of (other colour)
may_stand (at_list opening) b = is_ascii_digit b || b == 75 || b == closing opening
may_stand (in_item opening items blanks started) b = may_begin started b
may_stand (behind_item opening items item) b =
    carries_on item.first item.last b || b == 44 || b == closing opening
may_stand (at_end to_move colour first second) b = false

-- the text may end behind the second list and behind the full stop
abbrev pub ends_second : Introduction → Bool
ends_second (first_list to_move colour) = false
ends_second (second_list to_move colour items) = true

abbrev pub may_end : FenPlace → Bool
may_end at_side = false
may_end (at_colon to_move) = false
may_end (at_colour to_move) = false
may_end (at_other_colour to_move colour items) = false
may_end (at_list opening) = ends_second opening
may_end (in_item opening items blanks started) = false
may_end (behind_item opening items item) = ends_second opening
may_end (at_end to_move colour first second) = true

-- a square is due in an item, and nowhere else: a list may be empty
abbrev pub is_square_due : FenPlace → Bool
is_square_due at_side = false
is_square_due (at_colon to_move) = false
is_square_due (at_colour to_move) = false
is_square_due (at_other_colour to_move colour items) = false
is_square_due (at_list opening) = false
is_square_due (in_item opening items blanks started) = true
is_square_due (behind_item opening items item) = false
is_square_due (at_end to_move colour first second) = false

-- the least square that a number at the place may name; none where no number may stand
abbrev pub least_started : Started → ℕ
least_started nothing = 1
least_started king_mark = 1
least_started (range_sign king first) = value first

abbrev pub least_square : FenPlace → Option ℕ
least_square at_side = None
least_square (at_colon to_move) = None
least_square (at_colour to_move) = None
least_square (at_other_colour to_move colour items) = None
least_square (at_list opening) = Some 1
least_square (in_item opening items blanks started) = Some (least_started started)
least_square (behind_item opening items item) = None
least_square (at_end to_move colour first second) = None

-- ---- faults

-- a byte that may not stand at the place
abbrev pub StandsWrong : FenPlace → List ℕ → Type 0
StandsWrong place [] = ⊥
StandsWrong place (b ∷ behind) = may_stand place b ≡ false

-- a number takes two digits where two stand
abbrev pub ends_before : Numeral → List ℕ → Bool
ends_before (one a) [] = true
ends_before (one a) (b ∷ behind) = not (is_ascii_digit b)
ends_before (two a b) behind = true

-- a number that is no square's, or that of a square before the least
pub record NumberWrong (least : ℕ) (rest : List ℕ) : Type 0 where
  pub number : Numeral
  pub behind : List ℕ
  pub stands : rest ≡ numeral_text number ++ behind
  pub digits : are_digits number ≡ true
  pub whole : ends_before number behind ≡ true
  pub wrong : (value number < least) ⊎ (32 < value number)

-- the text breaks off at a place where it may not end
pub record IsTruncatedFen (text : List ℕ) : Type 0 where
  pub place : FenPlace
  pub sound : IsPlace place
  pub spelled : text ≡ text_before place
  pub due : may_end place ≡ false

-- the byte at `at` may not stand there, and no square is due there
pub record IsBadLetter (text : List ℕ) (at : ℕ) : Type 0 where
  pub place : FenPlace
  pub rest : List ℕ
  pub sound : IsPlace place
  pub spelled : text ≡ text_before place ++ rest
  pub here : at ≡ length (text_before place)
  pub letter : is_square_due place ≡ false
  pub wrong : StandsWrong place rest

-- a square is due at `at` and the byte there may not stand there, or a number stands there that may
-- not
pub record IsBadSquare (text : List ℕ) (at : ℕ) : Type 0 where
  pub place : FenPlace
  pub rest : List ℕ
  pub sound : IsPlace place
  pub spelled : text ≡ text_before place ++ rest
  pub here : at ≡ length (text_before place)
  pub wrong : ((is_square_due place ≡ true) × StandsWrong place rest)
      ⊎ ((least : ℕ) × (least_square place ≡ Some least) × NumberWrong least rest)
