-- What a shorter journal is, and what a crash leaves of one that is being written.
use Rattle.std.specs.Prelude.{◌≡◌, ◌⊎◌, ℕ, List, [], length}
use Rattle.proof_tree.specs.Forest.{nodes}
use Rattle.bench_records.specs.declared.records.BenchRecord.{BenchRecord}
use Rattle.tree_manager.specs.Receipts.{ReadsRecords}
use Rattle.journal_compaction.specs.Compactions.{IsCompaction}
use Rattle.journal_compaction.specs.Laws.{HaveSameRoots}
use Rattle.journal_shortening.specs.declared.sizes.Sizes.{Sizes}

-- The second file reads as these records, which stand for those that the first one reads as. So both have the same roots in
-- the same order, each with the same numbers for both goals, and so the same value.
pub record StandsForFile (old_file new_file : List ℕ) (new : List BenchRecord) : Type 0 where
  pub pieces : ℕ
  pub old : List BenchRecord
  pub old_reads : ReadsRecords pieces old_file old
  pub new_reads : ReadsRecords pieces new_file new
  pub stands : IsCompaction pieces old new
  pub roots : HaveSameRoots old_reads.lawful.0 new_reads.lawful.0

-- The second file stands for the first one, and these are the numbers of roots and of records.
pub record IsShorter (old_file new_file : List ℕ) (sizes : Sizes) : Type 0 where
  pub new : List BenchRecord
  pub is : StandsForFile old_file new_file new
  pub roots : sizes.roots ≡ length (nodes is.new_reads.lawful.0)
  pub before : sizes.before ≡ length is.old
  pub after : sizes.after ≡ length new

-- the file reads as no record
abbrev pub ReadsNone : List ℕ → Type 0
ReadsNone file = (pieces : ℕ) × ReadsRecords pieces file []

-- Each of these images reads as no record, or as one list, the same of all of them, which stands for the records of the file.
pub record LeavesNoneOrShorter (old_file : List ℕ) (images : List ℕ → Type 0) : Type 0 where
  pub new : List BenchRecord
  pub each : (image : List ℕ) → images image → ReadsNone image ⊎ StandsForFile old_file image new
