-- The lines of a source, and the moves that they say.
use Rattle.std.specs.Prelude.{◌≡◌, ℕ, List, [], ◌∷◌, ◌==◌, length, drop, Ok, if◌then◌else◌}
use Rattle.std.specs.List.{onto_first}
use Rattle.draughts_board.specs.Board.{Board}
use Rattle.pdn_openings.specs.Playing.{meaning_of}
use Rattle.pdn_text.specs.Grammar.{IsItemOfText, form_at}
use Rattle.pdn_text.specs.Signs.{saying}
use Rattle.pdn_text.specs.declared.game.MoveText.{MoveText}
use Rattle.pdn_text.specs.declared.items.Sign.TheVariants.{Moved}

-- The lines of a text, each without its byte 10, which the last line may lack.
abbrev pub lines_of : List ℕ → List (List ℕ)
lines_of [] = []
lines_of (b ∷ rest) = if b == 10 then [] ∷ lines_of rest else onto_first b (lines_of rest)

-- the line is one item of PDN: this move
abbrev pub IsMoveLine : List ℕ → MoveText → Type 0
IsMoveLine line written =
    IsItemOfText (form_at line 0) 0 (drop 0 line) (saying (length line) (Moved written))

-- the line says a move, which means this path in the position
abbrev pub SaysMove : Board → List ℕ → List ℕ → Type 0
SaysMove p line path = (written : MoveText) × (IsMoveLine line written × (meaning_of p written ≡ Ok path))
