-- The lines of roots: what the tree knows of each.
use Rattle.std.specs.Prelude.{ℕ, ◌+◌, List, [], ◌∷◌, ◌++◌, Option, codes, decimal}
use Rattle.draughts_board.specs.declared.pieces.Side.TheVariants.{Black, White}
use Rattle.draughts_board.specs.declared.pieces.Value.{Value}
use Rattle.draughts_board.specs.Board.{Board}
use Rattle.fen_text.specs.Printed.{fen_of}
use Rattle.opening_report.specs.Report.{value_word}
use Rattle.opened_games.specs.Opened.{Opened, games_text}
use Rattle.proof_numbers.specs.declared.numbers.Number.{Number}
use Rattle.proof_numbers.specs.declared.numbers.Number.TheVariants.{Finite, Infinite}
use Rattle.proof_numbers.specs.declared.numbers.Numbers.{Numbers}
use Rattle.proof_tree.specs.Forest.{Node, goal_of, node_numbers, value_of}
use Rattle.tree_census.specs.Censuses.{tree_census}
use Rattle.tree_census.specs.declared.counting.Census.{Census}
use Rattle.journal_pages.specs.declared.roots.RootRow.{RootRow}

abbrev pub number_text : Number → List ℕ
number_text (Finite n) = decimal n
number_text Infinite = codes "inf"

-- a goal's proof number and disproof number
abbrev pub numbers_text : Numbers → List ℕ
numbers_text x = number_text x.proof ++ 32 ∷ number_text x.disproof

-- the numbers for each side's win
abbrev pub goals_text : RootRow → List ℕ
goals_text row =
    codes " black " ++ (numbers_text row.black ++ (codes " white " ++ numbers_text row.white))

-- how many nodes stand in a tree, and how many open leaves
abbrev pub census_text : Census → List ℕ
census_text census =
    codes " nodes " ++ (decimal census.nodes ++ (codes " open " ++ decimal census.open_leaves))

abbrev pub counts_text : RootRow → List ℕ
counts_text row = goals_text row ++ census_text row.census

-- `root N F V black P D white P D nodes M open L`: number, position and value, the numbers for each
-- side's win, and what stands in the tree
abbrev pub row_line : ℕ → RootRow → List ℕ
row_line n row =
    codes "root " ++ (decimal n ++ 32 ∷ (fen_of row.position ++ 32 ∷ (value_word row.value
    ++ (counts_text row ++ 10 ∷ []))))

-- the rows' lines, the first of which has this number, and behind each the lines of the games that lead
-- there
abbrev pub row_lines : Opened → ℕ → List RootRow → List ℕ
row_lines opened n [] = []
row_lines opened n (row ∷ rows) =
    row_line n row ++ (games_text opened row.position ++ row_lines opened (n + 1) rows)

-- what the tree knows of a root
abbrev pub row_of : Node → RootRow
row_of x = record {
  position = x.own.position;
  value = value_of x;
  black = node_numbers Black x;
  white = node_numbers White x;
  census = tree_census (goal_of x) x;
}
