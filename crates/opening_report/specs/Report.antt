-- What is written of roots: a line for each, and a summary.
use Rattle.std.specs.Prelude.{◌≡◌, ℕ, ◌+◌, ◌-◌, ◌<◌, ◌^◌, List, [], ◌∷◌, ◌++◌, Option, Some, None, is_some, length, map, count_by, codes, decimal, Contains}
use Rattle.std.specs.List.{flat_map}
use Rattle.draughts_board.specs.declared.pieces.Value.{Value}
use Rattle.draughts_board.specs.declared.pieces.Value.TheVariants.{BlackWins, WhiteWins, Draw}
use Rattle.draughts_board.specs.Board.{Board, IsLawful}
use Rattle.draughts_board.specs.Game.{HasValue}
use Rattle.draughts_board.specs.Draughts.{draughts}
use Rattle.fen_text.specs.Printed.{fen_of}
use Rattle.proof_tree.specs.Forest.{Forest, Node, nodes, value_of}
use Rattle.opening_report.specs.declared.roots.Root.{Root}
use Rattle.opening_report.specs.Lines.{HasLine}

-- the word for a value, and for none
abbrev pub value_word : Option Value → List ℕ
value_word (Some BlackWins) = codes "black-wins"
value_word (Some WhiteWins) = codes "white-wins"
value_word (Some Draw) = codes "draw"
value_word None = codes "unsolved"

-- `root N F V`: the root's number, its position in the printed FEN, and its value or `unsolved`
abbrev pub root_line : ℕ → Board → Option Value → List ℕ
root_line n p v = codes "root " ++ (decimal n ++ 32 ∷ (fen_of p ++ 32 ∷ (value_word v ++ 10 ∷ [])))

-- the roots' lines, the first of which has this number
abbrev pub root_lines : ℕ → List Root → List (List ℕ)
root_lines n [] = []
root_lines n (r ∷ roots) = root_line n r.position r.value ∷ root_lines (n + 1) roots

abbrev pub settled_count : List Root → ℕ
settled_count = count_by (λ r. is_some r.value)

-- `roots R settled S unsolved U`
abbrev pub summary_line : List Root → List ℕ
summary_line roots =
    codes "roots " ++ (decimal (length roots)
    ++ (codes " settled " ++ (decimal (settled_count roots)
    ++ (codes " unsolved " ++ (decimal (length roots - settled_count roots) ++ 10 ∷ [])))))

-- a line for each root in order, numbered from 1, and the summary
abbrev pub report_lines : List Root → List (List ℕ)
report_lines roots = root_lines 1 roots ++ summary_line roots ∷ []

abbrev pub report_of : List Root → List ℕ
report_of roots = flat_map (λ line. line) (report_lines roots)

-- ---- the roots of a forest

-- a root by its position, with its value where it is settled
abbrev pub root_of : Node → Root
root_of x = record { position = x.own.position; value = value_of x }

abbrev pub forest_roots : Forest → List Root
forest_roots roots = map root_of (nodes roots)

-- ---- what a reader of the text may believe

-- Every value in the text is true: where a whole line of it says `root N F V`, F spells a position,
-- and V is a value and not `unsolved`, then V is what the position is worth.
abbrev pub ValuesAreTrue : List ℕ → Type 0
ValuesAreTrue text =
    (n : ℕ) (p : Board) (v : Value) → n < 2 ^ 64 → IsLawful p
    → HasLine text (root_line n p (Some v)) → HasValue draughts p v

-- each whole line of the text that says `root N F V`, where F spells a position, says one of these
-- roots
abbrev pub SaysRoots : List Root → List ℕ → Type 0
SaysRoots roots text =
    (n : ℕ) (p : Board) (v : Option Value) → n < 2 ^ 64 → IsLawful p
    → HasLine text (root_line n p v) → Contains roots (record { position = p; value = v })

-- no whole line of the text says so of a position
abbrev pub SaysNoRoot : List ℕ → Type 0
SaysNoRoot text = SaysRoots [] text

-- The position stands in exactly one `root` line of the text.
pub record StandsOnce (text : List ℕ) (p : Board) : Type 0 where
  pub number : ℕ
  pub value : Option Value
  pub small : number < 2 ^ 64
  pub stands : HasLine text (root_line number p value)
  pub once : (n : ℕ) (v : Option Value) → n < 2 ^ 64 → HasLine text (root_line n p v)
      → (n ≡ number) × (v ≡ value)

-- the root is a position, and its value is true if it has one
pub record IsTrueRoot (r : Root) : Type 0 where
  pub lawful : IsLawful r.position
  pub right : (v : Value) → r.value ≡ Some v → HasValue draughts r.position v

abbrev pub AreTrueRoots : List Root → Type 0
AreTrueRoots roots = (r : Root) → Contains roots r → IsTrueRoot r

-- no position stands twice among the roots
abbrev pub AreApart : List Root → Type 0
AreApart [] = Unit {0}
AreApart (r ∷ roots) =
    ((q : Root) → Contains roots q → ¬ (r.position ≡ q.position)) × AreApart roots
