-- A line of play, step by step.
use Rattle.std.specs.Prelude.{ℕ, List, [], ◌∷◌, codes}
use Rattle.draughts_board.specs.Board.{Board}
use Rattle.draughts_board.specs.Rules.{after}
use Rattle.certificate_text.specs.Lines.{move_text}
use Rattle.page_text.specs.Plays.{StepWords}

-- each position behind a move, with that move
abbrev pub steps_behind : Board → List (List ℕ) → List StepWords
steps_behind p [] = []
steps_behind p (path ∷ moves) =
    record { position = after p path; words = move_text path } ∷ steps_behind (after p path) moves

-- the first position, and those behind the moves
abbrev pub line_steps : Board → List (List ℕ) → List StepWords
line_steps p moves = record { position = p; words = codes "start" } ∷ steps_behind p moves
