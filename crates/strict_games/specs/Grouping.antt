-- Games grouped by the position that they lead to.
use Rattle.std.specs.Prelude.{ℕ, Bool, List, [], ◌∷◌, ◌++◌, if◌then◌else◌}
use Rattle.draughts_board.specs.Board.{Board, same_board}

-- a position, and the numbers of the games that lead to it
abbrev pub Group : Type 0
Group = Board × List ℕ

-- One game more: it joins those of its position, as `same` tells, or a new group at the end.
abbrev pub grouped_by : (Board → Board → Bool) → List Group → Board → ℕ → List Group
grouped_by same [] p game = (p, game ∷ []) ∷ []
grouped_by same (group ∷ groups) p game =
    if same p group.0 then (group.0, group.1 ++ game ∷ []) ∷ groups
    else group ∷ grouped_by same groups p game

abbrev pub grouped_with : List Group → Board → ℕ → List Group
grouped_with groups p game = grouped_by same_board groups p game
