-- The table of roots: a row for each, with its board, its position, its value, numbers and work.
use Rattle.std.specs.Prelude.{ℕ, ◌+◌, max, List, [], ◌∷◌, Option, Some, None, codes, decimal}
use Rattle.draughts_board.specs.declared.pieces.Value.{Value}
use Rattle.draughts_board.specs.declared.pieces.Value.TheVariants.{BlackWins, WhiteWins, Draw}
use Rattle.draughts_board.specs.Board.{Board}
use Rattle.fen_text.specs.Printed.{fen_of}
use Rattle.proof_numbers.specs.declared.numbers.Number.{Number}
use Rattle.proof_numbers.specs.declared.numbers.Number.TheVariants.{Finite, Infinite}
use Rattle.page_text.specs.Markup.{Markup, nothing, text_node, element, beside, attribute}
use Rattle.page_text.specs.Boards.{board}
use Rattle.page_text.specs.declared.roots.RootCells.{RootCells}

-- a value, or none, in words
abbrev pub value_words : Option Value → List ℕ
value_words (Some BlackWins) = codes "Black wins"
value_words (Some WhiteWins) = codes "White wins"
value_words (Some Draw) = codes "Draw"
value_words None = codes "Unsolved"

-- a proof or disproof number: `inf` where nothing will do
abbrev pub number_words : Number → List ℕ
number_words (Finite n) = decimal n
number_words Infinite = codes "inf"

unfoldable pub cell : Markup → Markup
cell within = element (codes "td") [] within

-- how much work it took, and a bar as long as its part of the most
unfoldable pub work_bar : ℕ → ℕ → Markup
work_bar work most =
    element (codes "meter")
    (attribute (codes "max") (decimal most) ∷ attribute (codes "value") (decimal work) ∷ [])
    (text_node (decimal work))

abbrev pub fen_cell : Board → Markup
fen_cell p = cell (element (codes "code") [] (text_node (fen_of p)))

-- for either side's win the proof number and the disproof number
abbrev pub numbers_cells : RootCells → Markup
numbers_cells root =
    beside (cell (text_node (number_words root.black.proof)))
    (beside (cell (text_node (number_words root.black.disproof)))
    (beside (cell (text_node (number_words root.white.proof)))
    (cell (text_node (number_words root.white.disproof)))))

-- the row of the root with this number, where the most work that a root took is this
unfoldable pub root_row : ℕ → ℕ → RootCells → Markup
root_row most n root =
    element (codes "tr") [] (beside (cell (text_node (decimal n)))
    (beside (beside (cell (board root.position)) (fen_cell root.position))
    (beside (cell (text_node (value_words root.value)))
    (beside (numbers_cells root)
    (beside (cell (text_node (decimal root.nodes)))
    (beside (cell (text_node (decimal root.leaves)))
    (cell (beside (text_node (decimal root.work)) (work_bar root.work most)))))))))

-- the rows of roots, the first of which has this number
abbrev pub root_rows : ℕ → ℕ → List RootCells → Markup
root_rows most n [] = nothing
root_rows most n (root ∷ roots) = beside (root_row most n root) (root_rows most (n + 1) roots)

-- the most work that one of the roots took
abbrev pub most_work : List RootCells → ℕ
most_work [] = 0
most_work (root ∷ roots) = max root.work (most_work roots)

unfoldable pub heading : List ℕ → Markup
heading words = element (codes "th") [] (text_node words)

unfoldable pub headings : Markup
headings =
    element (codes "tr") [] (beside (heading (codes "Root"))
    (beside (heading (codes "Board"))
    (beside (heading (codes "Position"))
    (beside (heading (codes "Value"))
    (beside (heading (codes "Black proof"))
    (beside (heading (codes "Black disproof"))
    (beside (heading (codes "White proof"))
    (beside (heading (codes "White disproof"))
    (beside (heading (codes "Nodes"))
    (beside (heading (codes "Open leaves")) (heading (codes "Work"))))))))))))

-- the headings, and a row for each root; the bar of the root that took the most work is full
unfoldable pub root_table : List RootCells → Markup
root_table roots =
    element (codes "table") [] (beside headings (root_rows (most_work roots) 1 roots))
