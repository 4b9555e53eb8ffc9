-- A line of play: boards in a row, each with the move that led to it.
use Rattle.std.specs.Prelude.{ℕ, List, [], ◌∷◌, codes}
use Rattle.draughts_board.specs.Board.{Board}
use Rattle.page_text.specs.Markup.{Markup, nothing, text_node, element, beside, classed}
use Rattle.page_text.specs.Boards.{board}
use Rattle.page_text.specs.declared.plays.PageStep.{PageStep}

-- a position of a line of play, and the words below its board
pub record StepWords : Type 0 where
  pub position : Board
  pub words : List ℕ

abbrev pub step_words : PageStep → StepWords
step_words step = record { position = step.position; words = step.words.items }

-- a board with words below it
unfoldable pub figure : StepWords → Markup
figure step =
    element (codes "figure") [] (beside (board step.position)
    (element (codes "figcaption") [] (text_node step.words)))

abbrev pub figures : List StepWords → Markup
figures [] = nothing
figures (step ∷ steps) = beside (figure step) (figures steps)

unfoldable pub play : List StepWords → Markup
play steps = classed (codes "div") (codes "play") (figures steps)
