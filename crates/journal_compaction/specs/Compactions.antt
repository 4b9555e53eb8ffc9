-- When one list of records stands for another, in few records. Tables are of k pieces.
use Rattle.std.specs.Prelude.{◌≡◌, ◌⊎◌, ℕ, Bool, true, false, List, [], ◌∷◌, ◌++◌, map, length, get_or, Option, Some, None, IsSome}
use Rattle.draughts_board.specs.Board.{Board}
use Rattle.draughts_board.specs.Draughts.{draughts}
use Rattle.draughts_board.specs.Game.{is_at_sight}
use Rattle.draughts_board.specs.declared.pieces.Value.{Value}
use Rattle.strategy_certificate.specs.declared.certificates.Certificate.{Certificate}
use Rattle.proof_numbers.specs.Known.{value_known}
use Rattle.certificate_checker.specs.Told.{facts_shown}
use Rattle.proof_tree.specs.Forest.{Forest, no_node, nodes, size, value_of}
use Rattle.bench_records.specs.declared.records.BenchRecord.{BenchRecord}
use Rattle.bench_records.specs.declared.records.BenchRecord.TheVariants.{Begin, Solve, Expand}
use Rattle.bench_core.specs.Growing.{GrowsWith, GrowsWithAll, IsForestOf}
use Rattle.journal_compaction.specs.Places.{IsBelow, AreAtOnePlace}

-- the same of node m
abbrev pub renamed : ℕ → BenchRecord → BenchRecord
renamed m (Begin p) = Begin p
renamed m (Solve n p shown) = Solve m p shown
renamed m (Expand n) = Expand m

-- What stands for a Begin, by the value that the root has in the end, and by whether it is decided at sight: the Begin, and
-- straight behind it, where the root is settled and not decided at sight, one Solve whose certificates tell the value.
abbrev pub StandsForBegin : Option Value → Bool → ℕ → Board → List BenchRecord → Type 0
StandsForBegin None sight root p made = made ≡ Begin p ∷ []
StandsForBegin (Some v) true root p made = made ≡ Begin p ∷ []
StandsForBegin (Some v) false root p made =
    (shown : List Certificate) × ((facts_shown shown ≡ value_known v) × (made ≡ Begin p ∷ Solve root p shown ∷ []))

-- What stands for a work record of node n, by the values that roots have in the end: nothing where its root is settled, else
-- the same of the node at the same place.
abbrev pub StandsForWork : (ℕ → Option Value) → Forest → Forest → ℕ → BenchRecord → List BenchRecord → Type 0
StandsForWork ends old new n r made =
    ((i : ℕ) × (IsSome (ends i) × (IsBelow old i n × (made ≡ []))))
    ⊎ ((i : ℕ) × ((m : ℕ) × ((ends i ≡ None) × (AreAtOnePlace old new i n m × (made ≡ renamed m r ∷ [])))))

-- what stands for a record, behind records that made these forests
abbrev pub StandsFor : ℕ → (ℕ → Option Value) → Forest → Forest → BenchRecord → List BenchRecord → Type 0
StandsFor k ends old new (Begin p) made =
    StandsForBegin (ends (length (nodes old))) (is_at_sight draughts k p) (size new) p made
StandsFor k ends old new (Solve n p shown) made = StandsForWork ends old new n (Solve n p shown) made
StandsFor k ends old new (Expand n) made = StandsForWork ends old new n (Expand n) made

-- record by record in order; each is lawful when its turn comes, in both lists
abbrev pub IsCompactionFrom : ℕ → (ℕ → Option Value) → Forest → Forest → List BenchRecord → List BenchRecord → Type 0
IsCompactionFrom k ends old new [] records = records ≡ []
IsCompactionFrom k ends old new (r ∷ more) records =
    (made : List BenchRecord) × ((rest : List BenchRecord) × ((after : Forest) × ((grown : Forest) × ((records ≡ made ++ rest)
    × (GrowsWith k old r after × (GrowsWithAll k new made grown × (StandsFor k ends old new r made
    × IsCompactionFrom k ends after grown more rest)))))))

-- the value of root i of the forest, if there is one
abbrev pub end_in : Forest → ℕ → Option Value
end_in roots i = get_or (map value_of (nodes roots)) i None

-- the second list stands for the first
pub record IsCompaction (k : ℕ) (old new : List BenchRecord) : Type 0 where
  pub roots : Forest
  pub forest : IsForestOf k old roots
  pub made : IsCompactionFrom k (end_in roots) no_node no_node old new
