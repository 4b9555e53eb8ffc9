-- Positions by their numbers in a list, and what a record spells apart from them.
use Rattle.std.specs.Prelude.{ℕ, ◌<◌, ◌^◌, List, [], ◌∷◌, ◌++◌, All, length, map, slice_get, Option, Some, None, if◌then◌else◌}
use Rattle.std.specs.List.{list_any, position_or_len, IsDistinct}
use Rattle.draughts_board.specs.Board.{Board, IsLawful, same_board}
use Rattle.bench_records.specs.Positions.{short_text, position_text}
use Rattle.bench_records.specs.Formats.{Format, done, field, byte, short, long, position, place, one, ◌>>=◌}

-- ---- a list of names

-- positions that stand once, so few that 4 bytes count them
pub record IsNamed (named : List Board) : Type 0 where
  pub distinct : IsDistinct same_board named
  pub lawful : All IsLawful named
  pub few : length named < 2 ^ 32

-- a position that the list lacks goes last
abbrev pub with_name : List Board → Board → List Board
with_name named p = (if list_any (same_board p) named then named else named ++ p ∷ [])

-- ---- a sheet: bytes, and between them positions, however these will be spelled

pub data Item : Type 0 where
  mark : ℕ → Item
  name : Board → Item

abbrev pub Sheet : Type 0
Sheet = List Item

abbrev pub marks : List ℕ → Sheet
marks bytes = map mark bytes

-- each position in full
abbrev pub full_text : Sheet → List ℕ
full_text [] = []
full_text (mark n ∷ sheet) = n ∷ full_text sheet
full_text (name p ∷ sheet) = position_text p ++ full_text sheet

-- Each position by its number in the list. One that the list lacks goes last in it, and is spelled
-- behind its number.
abbrev pub name_text : List Board → Board → List ℕ
name_text named p =
    short_text (position_or_len (same_board p) named)
    ++ (if list_any (same_board p) named then [] else position_text p)

abbrev pub short_sheet : List Board → Sheet → List ℕ
short_sheet named [] = []
short_sheet named (mark n ∷ sheet) = n ∷ short_sheet named sheet
short_sheet named (name p ∷ sheet) = name_text named p ++ short_sheet (with_name named p) sheet

-- the list behind a sheet
abbrev pub named_by : List Board → Sheet → List Board
named_by named [] = named
named_by named (mark n ∷ sheet) = named_by named sheet
named_by named (name p ∷ sheet) = named_by (with_name named p) sheet

-- ---- what a number may say

-- the position of the list, or one that is not in it, which goes last
abbrev pub at_number : List Board → List Board → Option Board → Format (Board × List Board)
at_number named others (Some p) = done (p, named)
at_number named others None = do
  p ← one (position (named ++ others))
  done (p, named ++ p ∷ [])

abbrev pub number_order : List Board → List Board → Format (Board × List Board)
number_order named others = do
  n ← one (place named others)
  at_number named others (slice_get named n)

-- the format with a number for each position: what it says, and the list behind it
abbrev pub noting : {A : Type 0} → List Board → Format A → Format (A × List Board)
noting named (done a) = done (a, named)
noting named (field (byte test) next) = field (byte test) (λ n. noting named (next n))
noting named (field short next) = field short (λ n. noting named (next n))
noting named (field (long most) next) = field (long most) (λ n. noting named (next n))
noting named (field (place list others) next) =
    field (place list others) (λ n. noting named (next n))
noting named (field (position others) next) =
    number_order named others >>= (λ r. noting r.1 (next r.0))

abbrev pub numbered : {A : Type 0} → List Board → Format A → Format A
numbered named format = do
  r ← noting named format
  done r.0
