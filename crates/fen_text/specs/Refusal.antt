-- Why a text is no FEN, and the refusal that answers a fault.
use Rattle.std.specs.Prelude.{ℕ, ◌-◌, ◌≤◌, List}
use Rattle.fen_text.specs.Faults.{IsBadLetter, IsBadSquare, IsTruncatedFen}
use Rattle.fen_text.specs.Spelled.{NamesTwice, NamesTooMany, NamesManOnLastRow}
use Rattle.fen_text.specs.declared.fault.Fault.{Fault}
use Rattle.fen_text.specs.declared.fault.Fault.TheVariants.{Letter, Number, End}
use Rattle.fen_text.specs.declared.refusal.FenRefusal.{FenRefusal}
use Rattle.fen_text.specs.declared.refusal.FenRefusal.TheVariants.{BadLetter, BadSquare, Twice, TooMany, ManOnLastRow, Truncated}
use Rattle.draughts_board.specs.declared.positions.PlaceRefusal.{PlaceRefusal}
use Rattle.draughts_board.specs.declared.positions.PlaceRefusal.TheVariants as places

-- the text is no FEN, for this fault
abbrev pub IsFenFault : List ℕ → FenRefusal → Type 0
IsFenFault text (BadLetter at) = IsBadLetter text at
IsFenFault text (BadSquare at) = IsBadSquare text at
IsFenFault text (Twice square) = NamesTwice text square
IsFenFault text (TooMany side) = NamesTooMany text side
IsFenFault text (ManOnLastRow square) = NamesManOnLastRow text square
IsFenFault text Truncated = IsTruncatedFen text

-- no more bytes are left than the text has
abbrev pub IsFaultWithin : ℕ → Fault → Type 0
IsFaultWithin len (Letter left) = left ≤ len
IsFaultWithin len (Number left) = left ≤ len
IsFaultWithin len End = Unit {0}

abbrev pub refusal_at : ℕ → Fault → FenRefusal
refusal_at len (Letter left) = BadLetter (len - left)
refusal_at len (Number left) = BadSquare (len - left)
refusal_at len End = Truncated

-- what cells that are no position are refused as
abbrev pub of_place : PlaceRefusal → FenRefusal
of_place (places.TooMany side) = TooMany side
of_place (places.ManOnLastRow n) = ManOnLastRow n
