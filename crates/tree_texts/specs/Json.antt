-- A tree as JSON: an object a line, ASCII alone; no byte of it needs an escape.
use Rattle.std.specs.Prelude.{ℕ, List, [], ◌∷◌, ◌++◌, Bool, Option, Some, None, codes, decimal, length}
use Rattle.certificate_text.specs.Lines.{move_text}
use Rattle.fen_text.specs.Printed.{fen_of}
use Rattle.proof_numbers.specs.Known.{Known}
use Rattle.journal_pages.specs.Json.{json_bool, json_goals}
use Rattle.journal_trees.specs.Sights.{Sight}
use Rattle.tree_texts.specs.TreeTexts.{mark_word}

-- `null` at the root
abbrev pub json_move : Option (List ℕ) → List ℕ
json_move None = codes "null"
json_move (Some path) = 34 ∷ move_text path ++ 34 ∷ []

-- a truth value behind its label
unfoldable pub json_truth : List ℕ → Bool → List ℕ
json_truth label value = label ++ json_bool value

-- which sides are known to win, as the front of an object
abbrev pub json_wins : Known → List ℕ
json_wins facts =
    json_truth (codes "{\"black-wins\":") facts.black_wins ++ json_truth (codes ",\"white-wins\":") facts.white_wins

-- which sides are known to hold, as its end
abbrev pub json_holds : Known → List ℕ
json_holds facts =
    json_truth (codes ",\"black-holds\":") facts.black_holds
    ++ (json_truth (codes ",\"white-holds\":") facts.white_holds ++ codes "}")

abbrev pub json_facts : Known → List ℕ
json_facts facts = json_wins facts ++ json_holds facts

-- how deep it lies, and its number
unfoldable pub json_spot : Sight → List ℕ
json_spot x =
    codes "{\"depth\":" ++ (decimal x.depth ++ (codes ",\"node\":" ++ decimal x.number))

-- the move that leads there, and where
unfoldable pub json_position : Sight → List ℕ
json_position x =
    codes ",\"move\":" ++ (json_move x.path
    ++ (codes ",\"fen\":\"" ++ (fen_of x.position ++ codes "\"")))

unfoldable pub json_state : Sight → List ℕ
json_state x =
    codes ",\"mark\":\"" ++ (mark_word x.mark ++ (codes "\",\"facts\":" ++ json_facts x.facts))

unfoldable pub json_next : Sight → List ℕ
json_next x = codes ",\"next\":" ++ (json_bool x.is_next ++ codes "}\n")

-- `{"depth":D,"node":N,"move":M,"fen":F,"mark":K,"facts":{..},"black":{..},"white":{..},"next":B}`
abbrev pub json_node : Sight → List ℕ
json_node x =
    json_spot x ++ (json_position x ++ (json_state x ++ (json_goals x.black x.white ++ json_next x)))

abbrev pub json_nodes : List Sight → List ℕ
json_nodes [] = []
json_nodes (x ∷ xs) = json_node x ++ json_nodes xs

-- `{"shown":S,"of":T}`: how many nodes are shown, and of how many
abbrev pub json_count : ℕ → ℕ → List ℕ
json_count shown all =
    codes "{\"shown\":" ++ (decimal shown ++ (codes ",\"of\":" ++ (decimal all ++ codes "}\n")))

abbrev pub json_text : List Sight → ℕ → List ℕ
json_text xs all = json_nodes xs ++ json_count (length xs) all
