-- What every history keeps, and what a file reads as.
use Rattle.std.specs.Prelude.{◌≡◌, ℕ, true, false, List, [], ◌∷◌, ◌++◌, Some}
use Rattle.proof_tree.specs.Sound.{root_positions}
use Rattle.disk_journal.specs.Refusals.{says_nothing_of_file}
use Rattle.disk_journal.specs.declared.refusal.JournalRefusal.{JournalRefusal}
use Rattle.bench_records.specs.declared.records.BenchRecord.{BenchRecord}
use Rattle.bench_core.specs.Records.{begun}
use Rattle.bench_core.specs.Cores.{Core}
use Rattle.tree_manager.specs.declared.entries.Attachment.{Attachment}
use Rattle.tree_manager.specs.declared.entries.Entry.{Entry}
use Rattle.tree_manager.specs.Entries.{breaks}
use Rattle.tree_manager.specs.Lines.{applied_in, attachment_of, is_failed}
use Rattle.tree_manager.specs.Histories.{IsCoreOf, Enters, IsHistory}
use Rattle.tree_manager.specs.Receipts.{ReadsRecords}
use Rattle.tree_manager.specs.Replaying.{HasUnlawfulPayload, ExplainsAttach}

-- A line leads to the core that it stands for.
abbrev pub LinesTellCores : Type 0
LinesTellCores = (line : List Entry) (core : Core) → IsHistory line core → IsCoreOf line core

-- Each entry behind the Attached came next to the line before it: a lease is the answer there, a
-- work record a result under a lease that lives there.
abbrev pub EntriesCameNext : Type 0
EntriesCameNext =
    (line before behind : List Entry) (core : Core) (e : Entry) (a : Attachment)
    → IsHistory line core → line ≡ before ++ e ∷ behind → attachment_of before ≡ Some a
    → (old new : Core) × (IsHistory before old × Enters old e new)

-- A line that has failed ends with its Broken.
abbrev pub FailedLinesEndBroken : Type 0
FailedLinesEndBroken =
    (line : List Entry) (core : Core) → IsHistory line core → is_failed line ≡ true
    → (before : List Entry) × (e : Entry) × (line ≡ before ++ e ∷ []) × (breaks e ≡ true)

-- The roots of a session's forest are those that its applied records begin, in order.
abbrev pub SessionsHaveRootsBegun : Type 0
SessionsHaveRootsBegun =
    (line : List Entry) (core : Core) → IsHistory line core
    → root_positions core.state.forest ≡ begun (applied_in line)

-- ---- files

-- A file reads as one list of records.
abbrev pub FilesReadAsOneList : Type 0
FilesReadAsOneList =
    (k : ℕ) (file : List ℕ) (one other : List BenchRecord) → ReadsRecords k file one
    → ReadsRecords k file other → one ≡ other

-- One place alone is that of the first payload that is not replayed.
abbrev pub OnePayloadStopsReplay : Type 0
OnePayloadStopsReplay =
    (k : ℕ) (file : List ℕ) (at other : ℕ) → HasUnlawfulPayload k file at
    → HasUnlawfulPayload k file other → at ≡ other

-- A file that a session is refused for reads as no records.
abbrev pub RefusedFilesReadAsNone : Type 0
RefusedFilesReadAsNone =
    (k : ℕ) (file : List ℕ) (e : JournalRefusal) (records : List BenchRecord)
    → ExplainsAttach file k e → says_nothing_of_file e ≡ false → ¬ ReadsRecords k file records
