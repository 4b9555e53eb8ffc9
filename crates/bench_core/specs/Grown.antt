-- What a tree that grew by records is seen as, and how it is kept.
use Rattle.std.specs.Prelude.{◌≡◌, ◌≤◌, ℕ, suc, ◌-◌, ◌^◌, min, Bool, true, false, List, [], ◌∷◌, length, count_by}
use Rattle.proof_tree.specs.Forest.{Forest}
use Rattle.proof_tree.specs.Sound.{TreeState}
use Rattle.certificate_joiner.specs.Shelf.{Put, ShelfState}
use Rattle.bench_records.specs.declared.records.BenchRecord.{BenchRecord}
use Rattle.bench_records.specs.declared.records.BenchRecord.TheVariants as records
use Rattle.bench_core.specs.declared.staged.Applied.{Applied}
use Rattle.bench_core.specs.declared.staged.Applied.TheVariants.{Begin, Solve, Expand}

-- a forest, the records by which it came about, and for how many more nodes and records there is
-- room
pub record GrownState : Type 0 where
  pub forest : Forest
  pub records : List BenchRecord
  pub nodes : ℕ
  pub room : ℕ

-- ---- how it is kept; nobody has to believe this

abbrev pub is_work_applied : Applied → Bool
is_work_applied (Begin p) = false
is_work_applied (Solve p) = true
is_work_applied (Expand n) = true

-- how many of them are of a Solve
abbrev pub solves : List Applied → ℕ
solves [] = 0
solves (Begin p ∷ log) = solves log
solves (Solve p ∷ log) = suc (solves log)
solves (Expand n ∷ log) = solves log

-- the records: what was stored of each, and the batches on the shelf in order
abbrev pub logged : List Applied → List Put → List BenchRecord
logged [] puts = []
logged (Begin p ∷ log) puts = records.Begin p ∷ logged log puts
logged (Expand n ∷ log) puts = records.Expand n ∷ logged log puts
logged (Solve p ∷ log) [] = []
logged (Solve p ∷ log) (put ∷ puts) = records.Solve put.0 p put.1 ∷ logged log puts

-- how many records a log has at most: their number is kept in 64 bits
abbrev pub most_logged : ℕ
most_logged = 2 ^ 64 - 1

abbrev pub grown_state : TreeState → ShelfState → List Applied → GrownState
grown_state tree shelf log =
    record {
      forest = tree.forest;
      records = logged log shelf.puts;
      nodes = tree.spare;
      room = min shelf.spare (most_logged - length log);
    }

-- each batch is of a record, and the records of a search are counted
pub record IsGrown (shelf : ShelfState) (log : List Applied) (work : ℕ) : Type 0 where
  pub shown : solves log ≡ length shelf.puts
  pub counted : work ≡ count_by is_work_applied log
  pub few : work ≤ length log
