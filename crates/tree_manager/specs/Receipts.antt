-- What a disk keeps of a session's line.
use Rattle.std.specs.Prelude.{◌≡◌, ◌≤◌, ℕ, false, cond, List, [], ◌∷◌, ◌++◌, map}
use Rattle.std.specs.List.{AllByRecursion as Each}
use Rattle.bench_disk.specs.declared.disk.Disk.{Ghosts}
use Rattle.bench_disk.specs.Disk.{NothingPending}
use Rattle.disk_journal.specs.Format.{HasPayloads, IsPrefixOf}
use Rattle.proof_tree.specs.Forest.{Forest}
use Rattle.bench_records.specs.declared.records.BenchRecord.{BenchRecord}
use Rattle.bench_records.specs.Texts.{IsText}
use Rattle.bench_core.specs.Growing.{IsForestOf}
use Rattle.tree_manager.specs.declared.entries.Entry.{Entry}
use Rattle.tree_manager.specs.Entries.{record_put, moment_acknowledged}
use Rattle.tree_manager.specs.Lines.{recorded, applied_in, is_failed}

-- ---- what a file reads as

-- each payload is the text of its record, behind these records
abbrev pub SpellsRecords : ℕ → List BenchRecord → List BenchRecord → List (List ℕ) → Type 0
SpellsRecords k before [] [] = Unit {0}
SpellsRecords k before [] (payload ∷ payloads) = ⊥
SpellsRecords k before (r ∷ records) [] = ⊥
SpellsRecords k before (r ∷ records) (payload ∷ payloads) =
    IsText k before r payload × SpellsRecords k (before ++ r ∷ []) records payloads

-- each record is lawful when its turn comes, from an empty forest on
abbrev pub AreLawfulInTurn : ℕ → List BenchRecord → Type 0
AreLawfulInTurn k records = (roots : Forest) × IsForestOf k records roots

-- For tables of k pieces the file reads as these records: its payloads are their texts, and they
-- are lawful in turn.
pub record ReadsRecords (k : ℕ) (file : List ℕ) (records : List BenchRecord) : Type 0 where
  pub payloads : List (List ℕ)
  pub stands : HasPayloads k file payloads
  pub spelled : SpellsRecords k [] records payloads
  pub lawful : AreLawfulInTurn k records

-- it reads as the low list or as more, and as nothing beyond the high list
pub record ReadsBetween (k : ℕ) (low high : List BenchRecord) (file : List ℕ) : Type 0 where
  pub records : List BenchRecord
  pub reads : ReadsRecords k file records
  pub above : IsPrefixOf low records
  pub below : IsPrefixOf records high

-- ---- acknowledgements

-- the moment since which records are durable
pub record Acknowledgement : Type 0 where
  pub moment : ℕ
  pub records : List BenchRecord

-- those of a line that stands behind these records, in order
abbrev pub acknowledged_by : List BenchRecord → List Entry → List Acknowledgement
acknowledged_by before [] = []
acknowledged_by before (e ∷ line) =
    map (λ moment. record { moment = moment; records = before }) (moment_acknowledged e)
    ++ acknowledged_by (before ++ record_put e) line

-- .. of a line
abbrev pub acknowledgements : List Entry → List Acknowledgement
acknowledgements line = acknowledged_by [] line

-- what a crash may leave at most: what is applied, and after a fault what was being committed too
abbrev pub most_left : List Entry → List BenchRecord
most_left line = cond (is_failed line) (recorded line) (applied_in line)

-- Each image since an acknowledgement reads as the records that it names, or as more of the line's;
-- and unless the session has failed nothing is pending.
pub record KeepsReceipts {D : Type 0} (k : ℕ) (g : Ghosts D) (line : List Entry)
    (disk : D) : Type 0 where
  pub moments : Each (λ ack. ack.moment ≤ g.moment disk) (acknowledgements line)
  pub since : Each (λ ack. (image : List ℕ) → g.images_since disk ack.moment image
      → ReadsBetween k ack.records (most_left line) image) (acknowledgements line)
  pub settled : is_failed line ≡ false → NothingPending (g.reads disk) (g.images disk)
