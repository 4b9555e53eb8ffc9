-- In how many lines of a text a position stands.
use Rattle.std.specs.Prelude.{◌≡◌, ℕ, List, [], ◌∷◌, ◌++◌, Option, codes, decimal}
use Rattle.shared_words.specs.Bytes.{Lacks}
use Rattle.draughts_board.specs.declared.pieces.Value.{Value}
use Rattle.draughts_board.specs.Board.{Board}
use Rattle.fen_text.specs.Printed.{fen_of}
use Rattle.opening_report.specs.Lines.{HasLine}
use Rattle.opening_report.specs.Report.{root_line, value_word}

-- `root N F V`, with any bytes for N
abbrev pub line_with : List ℕ → Board → Option Value → List ℕ
line_with digits p v =
    codes "root " ++ (digits ++ 32 ∷ (fen_of p ++ 32 ∷ (value_word v ++ 10 ∷ [])))

-- The position stands in exactly one `root` line of the text: such a line stands at one place, and
-- whatever another one said for its number and its value, it would be this one.
pub record StandsInOneLine (text : List ℕ) (p : Board) : Type 0 where
  pub number : ℕ
  pub value : Option Value
  pub stands : HasLine text (root_line number p value)
  pub once : (digits : List ℕ) (v : Option Value) → Lacks 32 digits → Lacks 10 digits
      → (other : HasLine text (line_with digits p v))
      → (other.before ≡ stands.before) × ((digits ≡ decimal number) × (v ≡ value))
