-- What is shown as JSON: an object a line, ASCII alone. What comes from games is escaped
-- (`opened_games/Json.antt`); no other byte needs an escape.
use Rattle.std.specs.Prelude.{ℕ, ◌+◌, ◌-◌, List, [], ◌∷◌, ◌++◌, Bool, true, false, codes, count_by, decimal, is_some, length, Option}
use Rattle.draughts_board.specs.Board.{Board}
use Rattle.draughts_board.specs.declared.pieces.Value.{Value}
use Rattle.fen_text.specs.Printed.{fen_of}
use Rattle.opened_games.specs.Json.{json_games}
use Rattle.opened_games.specs.Opened.{Opened}
use Rattle.opening_report.specs.Report.{value_word}
use Rattle.proof_numbers.specs.declared.numbers.Number.{Number}
use Rattle.proof_numbers.specs.declared.numbers.Number.TheVariants.{Finite, Infinite}
use Rattle.proof_numbers.specs.declared.numbers.Numbers.{Numbers}
use Rattle.tree_census.specs.declared.counting.Census.{Census}
use Rattle.journal_pages.specs.declared.roots.RootRow.{RootRow}

abbrev pub json_bool : Bool → List ℕ
json_bool true = codes "true"
json_bool false = codes "false"

-- `null` where nothing will do
abbrev pub json_number : Number → List ℕ
json_number (Finite n) = decimal n
json_number Infinite = codes "null"

unfoldable pub json_numbers : Numbers → List ℕ
json_numbers x =
    codes "{\"proof\":" ++ (json_number x.proof ++ (codes ",\"disproof\":" ++ (json_number x.disproof
    ++ codes "}")))

-- the numbers for each side's win
unfoldable pub json_goals : Numbers → Numbers → List ℕ
json_goals black white =
    codes ",\"black\":" ++ (json_numbers black ++ (codes ",\"white\":" ++ json_numbers white))

-- a root's number, and its position
unfoldable pub json_place : ℕ → Board → List ℕ
json_place n p =
    codes "{\"root\":" ++ (decimal n ++ (codes ",\"fen\":\"" ++ (fen_of p ++ codes "\"")))

-- what it is worth
unfoldable pub json_worth : Option Value → List ℕ
json_worth value = codes ",\"value\":\"" ++ (value_word value ++ codes "\"")

-- what stands in its tree
unfoldable pub json_census : Census → List ℕ
json_census census =
    codes ",\"nodes\":" ++ (decimal census.nodes ++ (codes ",\"open\":" ++ (decimal census.open_leaves
    ++ codes "}\n")))

-- the games that lead there
unfoldable pub json_played : Opened → Board → List ℕ
json_played opened p = codes ",\"games\":" ++ json_games opened p

-- `{"root":N,"fen":F,"value":V,"black":{..},"white":{..},"games":[..],"nodes":M,"open":L}`
abbrev pub json_row : Opened → ℕ → RootRow → List ℕ
json_row opened n row =
    json_place n row.position ++ (json_worth row.value ++ (json_goals row.black row.white
    ++ (json_played opened row.position ++ json_census row.census)))

-- the rows' objects, the first of which has this number
abbrev pub json_rows : Opened → ℕ → List RootRow → List ℕ
json_rows opened n [] = []
json_rows opened n (row ∷ rows) = json_row opened n row ++ json_rows opened (n + 1) rows

-- how many rows have a value
abbrev pub settled_rows : List RootRow → ℕ
settled_rows = count_by (λ row. is_some row.value)

-- a count behind its label
unfoldable pub json_count : List ℕ → ℕ → List ℕ
json_count label n = label ++ decimal n

-- `{"roots":R,"settled":S,"unsolved":U}`
abbrev pub json_summary : List RootRow → List ℕ
json_summary rows =
    json_count (codes "{\"roots\":") (length rows) ++ (json_count (codes ",\"settled\":") (settled_rows rows)
    ++ (json_count (codes ",\"unsolved\":") (length rows - settled_rows rows) ++ codes "}\n"))

abbrev pub json_roots : Opened → List RootRow → List ℕ
json_roots opened rows = json_rows opened 1 rows ++ json_summary rows
