-- Laws of the printed spelling.
use Rattle.std.specs.Prelude.{◌≡◌, ℕ, List, Bool, true, ◌||◌, ◌==◌, All}
use Rattle.draughts_board.specs.Board.{Board, IsLawful}
use Rattle.std.specs.Char.{is_ascii_digit}
use Rattle.fen_text.specs.Spelled.{Spells}
use Rattle.fen_text.specs.Printed.{fen_of}

-- the printed spelling is one of the grammar's, and spells the position
abbrev pub PrintedIsSpelled : Type 0
PrintedIsSpelled = (p : Board) → IsLawful p → Spells (fen_of p) p

-- no two positions have one printed spelling
abbrev pub PrintedTellsApart : Type 0
PrintedTellsApart = (p q : Board) → IsLawful p → IsLawful q → fen_of p ≡ fen_of q → p ≡ q

-- no text spells two positions
abbrev pub SpelledTellsApart : Type 0
SpelledTellsApart = (text : List ℕ) (p q : Board) → Spells text p → Spells text q → p ≡ q

-- a digit, `,`, `:`, `B`, `K` or `W`
abbrev pub is_printed_byte : ℕ → Bool
is_printed_byte b = is_ascii_digit b || b == 44 || b == 58 || b == 66 || b == 75 || b == 87

-- only these bytes are printed: no blank, no end of line, no quote
abbrev pub PrintedIsPlain : Type 0
PrintedIsPlain = (p : Board) → IsLawful p → All (λ b. is_printed_byte b ≡ true) (fen_of p)
