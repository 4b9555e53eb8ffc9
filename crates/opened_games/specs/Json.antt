-- Games as JSON: ASCII alone.
use Rattle.std.specs.Prelude.{ℕ, ◌-◌, List, [], ◌∷◌, ◌++◌, Bool, true, false, ◌||◌, ◌==◌, Option, Some, None, codes, decimal, slice_get, if◌then◌else◌}
use Rattle.std.specs.List.{flat_map}
use Rattle.draughts_board.specs.Board.{Board}
use Rattle.pdn_openings.specs.Beginning.{first_value}
use Rattle.pdn_text.specs.declared.game.Game.{Game}
use Rattle.terminal_text.specs.Shown.{escape, is_printable}
use Rattle.opened_games.specs.Opened.{Opened, games_at}

-- A byte within a JSON string, of which a reader has what a terminal is given of the byte: a quotation mark
-- and a backslash stand behind a backslash.
abbrev pub json_byte : ℕ → List ℕ
json_byte b =
    if (b == 34) || (b == 92) then 92 ∷ b ∷ []
    else (if is_printable b then b ∷ [] else 92 ∷ escape b)

abbrev pub json_string : List ℕ → List ℕ
json_string bytes = 34 ∷ flat_map json_byte bytes ++ 34 ∷ []

-- a text; `null` if there is none
abbrev pub json_text : Option (List ℕ) → List ℕ
json_text None = codes "null"
json_text (Some bytes) = json_string bytes

-- the value of the first tag of this name
abbrev pub json_tag : Game → List ℕ → List ℕ
json_tag game name = json_text (first_value name game.tags)

-- what a game is called, as the end of its object
unfoldable pub json_names : Game → List ℕ
json_names game =
    codes ",\"event\":" ++ (json_tag game (codes "Event")
    ++ (codes ",\"black\":" ++ (json_tag game (codes "Black")
    ++ (codes ",\"white\":" ++ (json_tag game (codes "White") ++ codes "}")))))

-- `{"game":3,"event":"Club","black":"Ann","white":null}`; nothing where there is no game
abbrev pub json_object : ℕ → Option Game → List ℕ
json_object n None = []
json_object n (Some game) = codes "{\"game\":" ++ (decimal n ++ json_names game)

-- the object of the game with this number, from 1
abbrev pub json_game : List Game → ℕ → List ℕ
json_game games n = json_object n (slice_get games (n - 1))

-- a comma before each but the first
abbrev pub comma_before : Bool → List ℕ
comma_before true = []
comma_before false = 44 ∷ []

abbrev pub json_list : List Game → Bool → List ℕ → List ℕ
json_list games first [] = []
json_list games first (n ∷ numbers) =
    comma_before first ++ (json_game games n ++ json_list games false numbers)

-- the games that lead to the position, as a list of JSON
abbrev pub json_games : Opened → Board → List ℕ
json_games opened p =
    91 ∷ json_list opened.games true (games_at opened.openings p) ++ 93 ∷ []
