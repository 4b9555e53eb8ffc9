-- How a list of moves is written.
use Rattle.std.specs.Prelude.{ℕ, List, [], ◌∷◌, ◌++◌}
use Rattle.std.specs.List.{flat_map}
use Rattle.certificate_text.specs.Lines.{move_text}

-- moves behind others, each behind a comma and a blank
abbrev pub further_moves : List (List ℕ) → List ℕ
further_moves moves = flat_map (λ path. 44 ∷ 32 ∷ move_text path) moves

-- each move by its squares
abbrev pub moves_text : List (List ℕ) → List ℕ
moves_text [] = []
moves_text (path ∷ moves) = move_text path ++ further_moves moves
