-- Which records a journal's payloads spell, and where they stop being lawful records.
use Rattle.std.specs.Prelude.{◌≡◌, ◌⊎◌, ℕ, List, [], ◌∷◌, ◌++◌, map, length}
use Rattle.std.specs.Bool.{OnFalse}
use Rattle.proof_tree.specs.Forest.{Forest}
use Rattle.disk_journal.specs.Format.{HasPayloads, HasPlaces}
use Rattle.disk_journal.specs.Refusals.{Explains, says_nothing_of_file}
use Rattle.disk_journal.specs.declared.payload.Payload.{Payload}
use Rattle.disk_journal.specs.declared.refusal.JournalRefusal.{JournalRefusal}
use Rattle.disk_journal.specs.declared.refusal.JournalRefusal.TheVariants.{DiskFault, NotAJournal, OtherTable, Damaged, Memory}
use Rattle.bench_records.specs.declared.records.BenchRecord.{BenchRecord}
use Rattle.bench_records.specs.Texts.{IsText}
use Rattle.bench_core.specs.declared.refusals.ReplayRefusal.{ReplayRefusal}
use Rattle.bench_core.specs.declared.refusals.ReplayRefusal.TheVariants as replay
use Rattle.bench_core.specs.declared.settings.Settings.{Settings}
use Rattle.bench_core.specs.Growing.{IsLawfulRecord, IsForestOf}
use Rattle.bench_core.specs.Cores.{Core, new_core}
use Rattle.tree_manager.specs.Receipts.{SpellsRecords}

-- their bytes
abbrev pub payload_texts : List Payload → List (List ℕ)
payload_texts = map (λ p. p.bytes.items)

-- a bench that has replayed records, and nothing else
pub record IsReplayedCore (s : Settings) (core : Core) : Type 0 where
  pub forest : IsForestOf s.pieces core.records core.state.forest
  pub rest : core ≡ record (new_core s) {
    state = record (new_core s).state { forest = core.state.forest };
    records = core.records;
  }

-- The payloads in front spell records that are lawful in turn. The next one, whose length field
-- stands at this place, spells none that is lawful behind them.
pub record ReplayStopsAt (k : ℕ) (payloads : List Payload) (at : ℕ) : Type 0 where
  pub front : List Payload
  pub payload : Payload
  pub rest : List Payload
  pub all : payloads ≡ front ++ payload ∷ rest
  pub place : at ≡ payload.at
  pub records : List BenchRecord
  pub spelled : SpellsRecords k [] records (payload_texts front)
  pub roots : Forest
  pub forest : IsForestOf k records roots
  pub unlawful : (r : BenchRecord) → IsText k records r payload.bytes.items
      → ¬ IsLawfulRecord k roots r

-- the refusal of a payload at this place that is not replayed
abbrev pub refusal_of_payload : ℕ → ReplayRefusal → JournalRefusal
refusal_of_payload at (replay.Unread fault) = Damaged at
refusal_of_payload at replay.Unlawful = Damaged at
refusal_of_payload at (replay.Memory error) = Memory error

-- why payloads are not replayed; want of memory may come with any
abbrev pub RefusesPayloads : ℕ → List Payload → JournalRefusal → Type 0
RefusesPayloads k payloads DiskFault = ⊥
RefusesPayloads k payloads NotAJournal = ⊥
RefusesPayloads k payloads (OtherTable found asked) = ⊥
RefusesPayloads k payloads (Damaged at) = ReplayStopsAt k payloads at
RefusesPayloads k payloads (Memory error) = Unit {0}

-- ---- of a file

-- The file has these payloads at these places. Those in front spell records that are lawful in
-- turn, and the next one, whose length field stands at this place, spells none that is lawful
-- behind them.
pub record HasUnlawfulPayload (k : ℕ) (file : List ℕ) (at : ℕ) : Type 0 where
  pub front : List (List ℕ)
  pub payload : List ℕ
  pub rest : List (List ℕ)
  pub payloads : HasPayloads k file (front ++ payload ∷ rest)
  pub before : List ℕ
  pub behind : List ℕ
  pub places : HasPlaces k file (before ++ at ∷ behind)
  pub place : length before ≡ length front
  pub records : List BenchRecord
  pub spelled : SpellsRecords k [] records front
  pub roots : Forest
  pub forest : IsForestOf k records roots
  pub unlawful : (r : BenchRecord) → IsText k records r payload → ¬ IsLawfulRecord k roots r

-- a file that is a journal, with a payload that is not replayed
abbrev pub ExplainsReplay : List ℕ → ℕ → JournalRefusal → Type 0
ExplainsReplay file k DiskFault = ⊥
ExplainsReplay file k NotAJournal = ⊥
ExplainsReplay file k (OtherTable found asked) = ⊥
ExplainsReplay file k (Damaged at) = HasUnlawfulPayload k file at
ExplainsReplay file k (Memory error) = ⊥

-- why a session does not begin: for a cause of the journal, or for a payload, unless the refusal
-- says nothing of the file
abbrev pub ExplainsAttach : List ℕ → ℕ → JournalRefusal → Type 0
ExplainsAttach file k refusal =
    OnFalse (says_nothing_of_file refusal) (Explains file k refusal ⊎ ExplainsReplay file k refusal)
