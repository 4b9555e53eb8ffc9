-- What a loop over the records keeps, which makes a shorter list of them. Nobody has to believe it.
use Rattle.std.specs.Prelude.{◌≡◌, ℕ, List, ◌++◌, length}
use Rattle.proof_tree.specs.Forest.{Forest, no_node, nodes, size}
use Rattle.bench_records.specs.declared.records.BenchRecord.{BenchRecord}
use Rattle.bench_core.specs.Growing.{GrowsWithAll}
use Rattle.journal_compaction.specs.Compactions.{IsCompactionFrom, end_in}
use Rattle.journal_compaction.specs.Names.{Names, AreInStep}

-- For the records done these were made. `next` is the size of the new forest, and `begun` the number of roots that began.
-- Whatever is made of the records to come, all that is made is made of all of them.
pub record IsMade (k : ℕ) (roots : Forest) (done made : List BenchRecord) (names : Names) (next begun : ℕ) : Type 0 where
  pub old : Forest
  pub new : Forest
  pub grows_old : GrowsWithAll k no_node done old
  pub grows_new : GrowsWithAll k no_node made new
  pub holds : AreInStep k (end_in roots) names old new
  pub next_is : next ≡ size new
  pub begun_is : begun ≡ length (nodes old)
  pub compaction : (rest tail : List BenchRecord) → IsCompactionFrom k (end_in roots) old new rest tail
      → IsCompactionFrom k (end_in roots) no_node no_node (done ++ rest) (made ++ tail)
