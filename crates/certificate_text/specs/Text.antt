-- The text of a certificate, and how far a reader of it has come.
use Rattle.std.specs.Prelude.{◌≡◌, ℕ, ◌+◌, ◌<◌, ◌^◌, List, [], ◌∷◌, ◌++◌, All, map, length, Option}
use Rattle.std.specs.List.{flat_map}
use Rattle.draughts_board.specs.Board.{Board, IsLawful}
use Rattle.strategy_certificate.specs.declared.entries.WinEntry.{WinEntry}
use Rattle.strategy_certificate.specs.declared.certificates.Part.{Part}
use Rattle.strategy_certificate.specs.declared.certificates.Part.TheVariants.{Win, Hold}
use Rattle.strategy_certificate.specs.declared.certificates.Certificate.{Certificate}
use Rattle.strategy_certificate.specs.Tables.{IsTableSize}
use Rattle.strategy_certificate.specs.Parts.{IsWinList, IsHoldList}
use Rattle.fen_text.specs.Printed.{fen_of}
use Rattle.certificate_text.specs.Lines.{Line, title, table, position, claim, win, hold, win_entry, hold_entry, end, text_of_lines}
use Rattle.certificate_text.specs.Places.{Place, at_title, at_table, at_position, at_claim, at_part, at_entry, at_end}

-- ---- parts

abbrev pub part_length : Part → ℕ
part_length (Win part) = length part.entries
part_length (Hold part) = length part.entries

abbrev pub win_line : Board × WinEntry → Line
win_line row = win_entry (fen_of row.0) row.1.rank row.1.chosen

abbrev pub hold_line : Board × Option (List ℕ) → Line
hold_line row = hold_entry (fen_of row.0) row.1

-- the line that begins a part and says how many entries it has
abbrev pub part_line : Part → ℕ → Line
part_line (Win part) count = win part.side count
part_line (Hold part) count = hold part.side count

abbrev pub entry_lines : Part → List Line
entry_lines (Win part) = map win_line part.entries
entry_lines (Hold part) = map hold_line part.entries

abbrev pub part_lines : Part → List Line
part_lines part = part_line part (part_length part) ∷ entry_lines part

-- a part whose positions are lawful and stand once each, whose ranks are at most MOST_RANK and
-- whose moves are paths
abbrev pub IsPart : Part → Type 0
IsPart (Win part) = IsWinList part
IsPart (Hold part) = IsHoldList part

-- ---- certificates

abbrev pub head_lines : Certificate → List Line
head_lines c = title ∷ table c.pieces ∷ position (fen_of c.position) ∷ claim c.claim ∷ []

-- the lines up to the end of its last part
abbrev pub open_lines : Certificate → List Line
open_lines c = head_lines c ++ flat_map part_lines c.parts

abbrev pub lines_of : Certificate → List Line
lines_of c = open_lines c ++ end ∷ []

-- the text of a certificate
abbrev pub text_of_certificate : Certificate → List ℕ
text_of_certificate c = text_of_lines (lines_of c)

-- a part that a text can say: its entries are counted by a number below 2^32
abbrev pub IsPrintedPart : Part → Type 0
IsPrintedPart part = IsPart part × (part_length part < 2 ^ 32)

-- a certificate that a text can say
pub record IsPrinted (c : Certificate) : Type 0 where
  pub pieces : IsTableSize c.pieces
  pub lawful : IsLawful c.position
  pub parts : All IsPrintedPart c.parts

-- it is the text of this certificate
abbrev pub ReadsAs : List ℕ → Certificate → Type 0
ReadsAs text c = IsPrinted c × (text ≡ text_of_certificate c)

-- ---- how far a reader has come: what is due next, behind what it has read

-- the lines that stand before
abbrev pub before : Place → List Line
before at_title = []
before at_table = title ∷ []
before (at_position pieces) = title ∷ table pieces ∷ []
before (at_claim pieces p) = title ∷ table pieces ∷ position (fen_of p) ∷ []
before (at_part c) = open_lines c
before (at_entry c part left) =
    open_lines c ++ (part_line part (part_length part + left) ∷ entry_lines part)
before (at_end c) = lines_of c

-- what stands before is sound
abbrev pub IsSoundPlace : Place → Type 0
IsSoundPlace at_title = Unit {0}
IsSoundPlace at_table = Unit {0}
IsSoundPlace (at_position pieces) = IsTableSize pieces
IsSoundPlace (at_claim pieces p) = IsTableSize pieces × IsLawful p
IsSoundPlace (at_part c) = IsPrinted c
IsSoundPlace (at_entry c part left) =
    IsPrinted c × (IsPart part × ((0 < left) × (part_length part + left < 2 ^ 32)))
IsSoundPlace (at_end c) = IsPrinted c

-- a line is due
abbrev pub IsOpenPlace : Place → Type 0
IsOpenPlace (at_end c) = ⊥
IsOpenPlace d = Unit {0}
