-- Games by the positions that their openings lead to, and their lines.
use Rattle.std.specs.Prelude.{ℕ, ◌-◌, List, [], ◌∷◌, ◌++◌, Option, Some, None, codes, decimal, filter, map, slice_get, if◌then◌else◌}
use Rattle.std.specs.List.{flat_map}
use Rattle.draughts_board.specs.Board.{Board, same_board}
use Rattle.pdn_openings.specs.Beginning.{first_value}
use Rattle.pdn_openings.specs.declared.opening.Opening.{Opening}
use Rattle.pdn_text.specs.declared.game.Game.{Game}
use Rattle.terminal_text.specs.Shown.{quoted}

-- games and their openings
pub record Opened : Type 0 where
  pub games : List Game
  pub openings : List Opening

-- the numbers of the games whose openings stand at the position, in order
abbrev pub games_at : List Opening → Board → List ℕ
games_at openings p = map (λ o. o.game) (filter (λ o. same_board o.position p) openings)

-- the number of an opening's game, if it stands at the position
abbrev pub number_if : Opening → Board → List ℕ
number_if o p = if same_board o.position p then o.game ∷ [] else []

-- ---- lines

-- the value of a tag as a terminal is given it; `?` if there is none
abbrev pub shown_value : Option (List ℕ) → List ℕ
shown_value None = quoted (codes "?")
shown_value (Some value) = quoted value

abbrev pub value_text : Game → List ℕ → List ℕ
value_text game name = shown_value (first_value name game.tags)

-- what a game is called: ` (Club, Ann - Bob)`
abbrev pub names_text : Game → List ℕ
names_text game =
    codes " (" ++ (value_text game (codes "Event") ++ (codes ", " ++ (value_text game (codes "Black")
    ++ (codes " - " ++ (value_text game (codes "White") ++ codes ")\n")))))

-- `  game 3 (Club, Ann - Bob)`; nothing where there is no game
abbrev pub line_of : ℕ → Option Game → List ℕ
line_of n None = []
line_of n (Some game) = codes "  game " ++ (decimal n ++ names_text game)

-- the line of the game with this number, from 1
abbrev pub game_line : List Game → ℕ → List ℕ
game_line games n = line_of n (slice_get games (n - 1))

-- the lines of the games that lead to the position
abbrev pub games_text : Opened → Board → List ℕ
games_text opened p = flat_map (game_line opened.games) (games_at opened.openings p)
