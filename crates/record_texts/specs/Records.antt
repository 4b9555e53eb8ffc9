-- The records of a journal as text: a line a record, and a line that counts them.
use Rattle.std.specs.Prelude.{ℕ, ◌+◌, ◌==◌, List, [], ◌∷◌, ◌++◌, Bool, true, false, Option, Some, None, codes, decimal, length, slice_get}
use Rattle.std.specs.Option.{option_map}
use Rattle.bench_records.specs.declared.records.BenchRecord.{BenchRecord}
use Rattle.bench_records.specs.declared.records.BenchRecord.TheVariants.{Begin, Solve, Expand}
use Rattle.certificate_text.specs.Lines.{claim_word}
use Rattle.draughts_board.specs.Board.{Board}
use Rattle.fen_text.specs.Printed.{fen_of}
use Rattle.proof_tree.specs.Forest.{Forest, node_at, nodes}
use Rattle.strategy_certificate.specs.declared.certificates.Certificate.{Certificate}

-- what a record does
abbrev pub kind_word : BenchRecord → List ℕ
kind_word (Begin p) = codes "begin"
kind_word (Solve n p shown) = codes "solve"
kind_word (Expand n) = codes "expand"

-- one more root begins with a record that begins one
abbrev pub begun_with : ℕ → BenchRecord → ℕ
begun_with begun (Begin p) = begun + 1
begun_with begun (Solve n p shown) = begun
begun_with begun (Expand n) = begun

-- the number of its node, where this many roots have begun before it
abbrev pub node_of : Forest → ℕ → BenchRecord → Option ℕ
node_of roots begun (Begin p) = option_map (λ x. x.own.number) (slice_get (nodes roots) begun)
node_of roots begun (Solve n p shown) = Some n
node_of roots begun (Expand n) = Some n

-- its node's position
abbrev pub position_of : Forest → BenchRecord → Option Board
position_of roots (Begin p) = Some p
position_of roots (Solve n p shown) = Some p
position_of roots (Expand n) = option_map (λ x. x.own.position) (node_at n roots)

-- the certificates that it shows
abbrev pub shown_by : BenchRecord → List Certificate
shown_by (Begin p) = []
shown_by (Solve n p shown) = shown
shown_by (Expand n) = []

abbrev pub node_text : Option ℕ → List ℕ
node_text None = []
node_text (Some n) = codes " node " ++ decimal n

abbrev pub position_text : Option Board → List ℕ
position_text None = []
position_text (Some p) = 32 ∷ fen_of p

-- what they claim
abbrev pub claims_text : List Certificate → List ℕ
claims_text [] = []
claims_text (c ∷ cs) = 32 ∷ claim_word c.claim ++ claims_text cs

abbrev pub last_text : Bool → List ℕ
last_text true = codes " last"
last_text false = []

-- which record it is, and what it does
unfoldable pub head_text : ℕ → BenchRecord → List ℕ
head_text place r = codes "record " ++ (decimal place ++ 32 ∷ kind_word r)

-- where it does it
unfoldable pub spot_text : Forest → ℕ → BenchRecord → List ℕ
spot_text roots begun r = node_text (node_of roots begun r) ++ position_text (position_of roots r)

-- `record I KIND node N F CLAIMS last`
abbrev pub record_line : Forest → ℕ → ℕ → Bool → BenchRecord → List ℕ
record_line roots place begun is_last r =
    head_text place r ++ (spot_text roots begun r ++ (claims_text (shown_by r) ++ (last_text is_last ++ 10 ∷ [])))

-- no record stands behind it
abbrev pub is_end : List BenchRecord → Bool
is_end [] = true
is_end (r ∷ records) = false

-- `records N`
abbrev pub count_line : ℕ → List ℕ
count_line n = codes "records " ++ (decimal n ++ 10 ∷ [])
