-- What is written for the records of a journal that was read. Nobody has to believe it.
use Rattle.std.specs.Prelude.{◌≡◌, ◌⊎◌, ℕ, List, [], length}
use Rattle.bench_disk.specs.declared.disk.Disk.{Ghosts}
use Rattle.bench_disk.specs.Runs.{Leaves}
use Rattle.proof_tree.specs.Forest.{Forest, nodes}
use Rattle.bench_records.specs.declared.records.BenchRecord.{BenchRecord}
use Rattle.tree_manager.specs.Receipts.{ReadsRecords}
use Rattle.journal_compaction.specs.Compactions.{IsCompaction}
use Rattle.journal_shortening.specs.declared.sizes.Sizes.{Sizes}

-- it reads as no record, or as these new ones, which stand for the old ones
abbrev pub ReadsNoneOr : ℕ → List BenchRecord → List BenchRecord → List ℕ → Type 0
ReadsNoneOr k old new image = ReadsRecords k image [] ⊎ (ReadsRecords k image new × IsCompaction k old new)

-- a crash since the calls began leaves no record, or one list, which stands for these records
pub record WritesNoneOrOne {D : Type 0} (g : Ghosts D) (k : ℕ) (old : List BenchRecord) (into done : D) : Type 0 where
  pub new : List BenchRecord
  pub run : Leaves g.moment g.images_since into done (ReadsNoneOr k old new)

-- The file reads as records that stand for these, of which this is the forest, and these are the numbers of roots and records.
pub record IsWritten (k : ℕ) (old : List BenchRecord) (roots : Forest) (file : List ℕ) (sizes : Sizes) : Type 0 where
  pub new : List BenchRecord
  pub stands : IsCompaction k old new
  pub reads : ReadsRecords k file new
  pub roots_are : sizes.roots ≡ length (nodes roots)
  pub before : sizes.before ≡ length old
  pub after : sizes.after ≡ length new
