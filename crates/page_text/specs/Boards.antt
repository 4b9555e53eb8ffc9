-- A position as a board: an SVG image of 8 by 8, which uses the shapes that a page has at its head.
use Rattle.std.specs.Prelude.{ℕ, ◌+◌, List, [], ◌∷◌, codes, decimal}
use Rattle.draughts_board.specs.Board.{Board}
use Rattle.draughts_board.specs.Geometry.{row, column}
use Rattle.draughts_board.specs.declared.pieces.Side.TheVariants.{Black, White}
use Rattle.draughts_board.specs.declared.pieces.Cell.{Cell}
use Rattle.draughts_board.specs.declared.pieces.Cell.TheVariants.{Empty, Man, King}
use Rattle.page_text.specs.Markup.{Markup, nothing, element, beside, attribute}

-- a shape in a column and a row
abbrev pub shape : List ℕ → ℕ → Markup
shape name square =
    element (codes "use") (attribute (codes "href") name
    ∷ attribute (codes "x") (decimal (column square))
    ∷ attribute (codes "y") (decimal (row square)) ∷ []) nothing

-- what stands on a square
abbrev pub piece : Cell → ℕ → Markup
piece Empty square = nothing
piece (Man Black) square = shape (codes "#black-man") square
piece (Man White) square = shape (codes "#white-man") square
piece (King Black) square = shape (codes "#black-king") square
piece (King White) square = shape (codes "#white-king") square

-- what stands on these cells, the first of which is that of this square
abbrev pub pieces : ℕ → List Cell → Markup
pieces square [] = nothing
pieces square (cell ∷ cells) = beside (piece cell square) (pieces (square + 1) cells)

unfoldable pub board : Board → Markup
board p =
    element (codes "svg")
    (attribute (codes "class") (codes "board") ∷ attribute (codes "viewBox") (codes "0 0 8 8") ∷ [])
    (beside (element (codes "use") (attribute (codes "href") (codes "#squares") ∷ []) nothing)
    (pieces 1 p.cells))
