-- The records of a journal as JSON: an object a line, ASCII alone; no byte of it needs an escape.
use Rattle.std.specs.Prelude.{ℕ, List, [], ◌∷◌, ◌++◌, Bool, Option, Some, None, codes, decimal}
use Rattle.bench_records.specs.declared.records.BenchRecord.{BenchRecord}
use Rattle.certificate_text.specs.Lines.{claim_word}
use Rattle.draughts_board.specs.Board.{Board}
use Rattle.fen_text.specs.Printed.{fen_of}
use Rattle.journal_pages.specs.Json.{json_bool}
use Rattle.proof_tree.specs.Forest.{Forest}
use Rattle.strategy_certificate.specs.declared.certificates.Certificate.{Certificate}
use Rattle.record_texts.specs.Records.{kind_word, node_of, position_of, shown_by}

abbrev pub json_node : Option ℕ → List ℕ
json_node None = codes "null"
json_node (Some n) = decimal n

abbrev pub json_position : Option Board → List ℕ
json_position None = codes "null"
json_position (Some p) = 34 ∷ fen_of p ++ 34 ∷ []

-- a claim as a text
abbrev pub json_claim : Certificate → List ℕ
json_claim c = 34 ∷ claim_word c.claim ++ 34 ∷ []

-- claims, each behind a comma
abbrev pub json_further : List Certificate → List ℕ
json_further [] = []
json_further (c ∷ cs) = 44 ∷ json_claim c ++ json_further cs

abbrev pub json_claims : List Certificate → List ℕ
json_claims [] = []
json_claims (c ∷ cs) = json_claim c ++ json_further cs

-- which record it is, and what it does
unfoldable pub json_head : ℕ → BenchRecord → List ℕ
json_head place r =
    codes "{\"record\":" ++ (decimal place ++ (codes ",\"kind\":\"" ++ (kind_word r ++ codes "\"")))

-- where it does it
unfoldable pub json_spot : Forest → ℕ → BenchRecord → List ℕ
json_spot roots begun r =
    codes ",\"node\":" ++ (json_node (node_of roots begun r)
    ++ (codes ",\"fen\":" ++ json_position (position_of roots r)))

-- what it shows, and whether it is the last
unfoldable pub json_tail : Bool → BenchRecord → List ℕ
json_tail is_last r =
    codes ",\"shows\":[" ++ (json_claims (shown_by r)
    ++ (codes "],\"last\":" ++ (json_bool is_last ++ codes "}\n")))

-- `{"record":I,"kind":K,"node":N,"fen":F,"shows":[..],"last":B}`
abbrev pub json_record : Forest → ℕ → ℕ → Bool → BenchRecord → List ℕ
json_record roots place begun is_last r =
    json_head place r ++ (json_spot roots begun r ++ json_tail is_last r)

-- `{"records":N}`
abbrev pub json_count : ℕ → List ℕ
json_count n = codes "{\"records\":" ++ (decimal n ++ codes "}\n")
