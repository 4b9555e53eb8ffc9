-- A session as its callers see it, what each call does to it, and why it refuses.
use Rattle.std.specs.Prelude.{◌≡◌, ◌⊎◌, ◌↔◌, ◌+◌, ◌<◌, ℕ, true, false, cond, min, ◌-◌, List, [], ◌∷◌, ◌++◌, map, length, count_by, Contains, Result}
use Rattle.std.specs.List.{list_any, AllByRecursion as Each}
use Rattle.bench_disk.specs.declared.disk.Disk.{Ghosts}
use Rattle.draughts_board.specs.Board.{Board, same_board}
use Rattle.bench_disk.specs.Disk.{IsHonest}
use Rattle.shared_words.specs.Counts.{Rose}
use Rattle.lease_table.specs.declared.leases.Lease.{Lease}
use Rattle.bench_records.specs.declared.records.BenchRecord.{BenchRecord}
use Rattle.bench_records.specs.declared.records.BenchRecord.TheVariants.{Begin}
use Rattle.bench_core.specs.declared.settings.Settings.{Settings}
use Rattle.bench_core.specs.declared.refusals.LeaseRefusal.{LeaseRefusal}
use Rattle.bench_core.specs.declared.refusals.LeaseRefusal.TheVariants as lease
use Rattle.bench_core.specs.declared.refusals.ReadyRefusal.{ReadyRefusal}
use Rattle.bench_core.specs.declared.refusals.ReadyRefusal.TheVariants as ready
use Rattle.bench_core.specs.Records.{is_work}
use Rattle.bench_core.specs.States.{CoreState}
use Rattle.bench_core.specs.Cores.{Core, MayStage, IsCommitted}
use Rattle.bench_core.specs.Answers.{RefusesLease, RefusesReady}
use Rattle.tree_manager.specs.declared.entries.Attachment.{Attachment}
use Rattle.tree_manager.specs.declared.entries.Entry.{Entry}
use Rattle.tree_manager.specs.declared.entries.Entry.TheVariants.{Put, Attached, Leased, Released, Acked, Broken}
use Rattle.tree_manager.specs.declared.refusals.StageRefusal.{StageRefusal}
use Rattle.tree_manager.specs.declared.refusals.StageRefusal.TheVariants as stage
use Rattle.tree_manager.specs.declared.refusals.CommitRefusal.{CommitRefusal}
use Rattle.tree_manager.specs.declared.refusals.CommitRefusal.TheVariants as commit
use Rattle.tree_manager.specs.declared.refusals.BeginRefusal.{BeginRefusal}
use Rattle.tree_manager.specs.declared.refusals.BeginRefusal.TheVariants as begin
use Rattle.proof_tree.specs.Sound.{root_positions}
use Rattle.tree_manager.specs.Entries.{faults_told}
use Rattle.tree_manager.specs.Lines.{is_failed}
use Rattle.tree_manager.specs.Histories.{Enters, IsNewCore}
use Rattle.tree_manager.specs.Receipts.{ReadsRecords}
use Rattle.proof_tree.specs.declared.tree.TheConstants.{MOST_ROOTS}
use Rattle.bench_core.specs.declared.settings.TheConstants.{MOST_WORK}

-- its line, the core to which it leads, and its disk
pub record SessionState (D : Type 0) : Type 0 where
  pub line : List Entry
  pub core : Core
  pub disk : D

-- the session goes on by this entry, and its bench by what the entry says
pub record Appends {D : Type 0} (old : SessionState D) (e : Entry)
    (new : SessionState D) : Type 0 where
  pub line : new.line ≡ old.line ++ e ∷ []
  pub enters : Enters old.core e new.core

-- each number is below those behind it
abbrev pub AreRising : List ℕ → Type 0
AreRising [] = Unit {0}
AreRising (id ∷ ids) = Each (λ later. id < later) ids × AreRising ids

-- Leases end without a result, in rising order of their numbers, and then each that lives is kept.
pub record EndsLeases {D : Type 0} (old new : SessionState D) : Type 0 where
  pub ended : List ℕ
  pub line : new.line ≡ old.line ++ map Released ended
  pub rising : AreRising ended
  pub kept : Each (λ row. row.kept ≡ true) new.core.state.leases.rows
  pub staged : new.core.staged ≡ old.core.staged
  pub disk : new.disk ≡ old.disk

-- ---- the beginning

-- what all sessions together leave to one that is to have this budget
abbrev pub session_budget : ℕ → List BenchRecord → ℕ
session_budget budget replayed = min budget (MOST_WORK - count_by is_work replayed)

-- The line is the records as which the disk read, and an Attached of the moment behind the opening
-- sync, of the disk's faults and of these settings. The bench has replayed the records, and nothing
-- else happened.
pub record IsAttachedTo {D : Type 0} (g : Ghosts D)
    (s : Settings) (disk : D) (new : SessionState D) : Type 0 where
  pub replayed : List BenchRecord
  pub attachment : Attachment
  pub line : new.line ≡ map Put replayed ++ Attached attachment ∷ []
  pub read : IsHonest g.TELLS → ReadsRecords s.pieces (g.reads disk) replayed
  pub is : attachment ≡ record {
    opened = g.moment disk + 1;
    faults = g.faults new.disk;
    budget = session_budget s.budget replayed;
    depth = s.depth;
    pieces = s.pieces;
    limit = s.lease;
  }
  pub core : IsNewCore replayed attachment new.core

-- ---- roots

-- the roots, and behind them each of these positions that is none yet
abbrev pub with_roots : List Board → List Board → List Board
with_roots roots [] = roots
with_roots roots (p ∷ more) =
    with_roots (cond (list_any (same_board p) roots) roots (roots ++ p ∷ [])) more

-- no position is one of these roots, or stands before
abbrev pub AreNewRoots : List Board → List Board → Type 0
AreNewRoots roots [] = Unit {0}
AreNewRoots roots (p ∷ more) = (Contains roots p → ⊥) × AreNewRoots (roots ++ p ∷ []) more

-- .. as a core stages them
abbrev pub with_roots_staged : Core → List Board → Core
with_roots_staged core added = record core { staged = core.staged ++ map Begin added }

-- each may be staged when its turn comes
abbrev pub MayStageRoots : Core → List Board → Type 0
MayStageRoots core [] = Unit {0}
MayStageRoots core (p ∷ more) =
    MayStage core (Begin p) × MayStageRoots (with_roots_staged core (p ∷ [])) more

-- ---- refusals

-- the session had failed; else the refusal is the bench's
abbrev pub RefusesLeaseIn : List Entry → Result Lease LeaseRefusal → LeaseRefusal → Type 0
RefusesLeaseIn line answer refusal =
    ((is_failed line ≡ true) × (refusal ≡ lease.Failed))
    ⊎ ((is_failed line ≡ false) × RefusesLease answer refusal)

-- the refusal of a stage that is the bench's
abbrev pub stage_refusal : ReadyRefusal → StageRefusal
stage_refusal (ready.Stale id) = stage.Stale id
stage_refusal (ready.Memory error) = stage.Memory error

abbrev pub RefusesStage : List Entry → CoreState → Lease → StageRefusal → Type 0
RefusesStage line s lease stage.Failed = is_failed line ≡ true
RefusesStage line s lease (stage.Stale id) =
    (is_failed line ≡ false) × RefusesReady s lease (ready.Stale id)
RefusesStage line s lease (stage.Memory error) = is_failed line ≡ false

-- The session had failed; or it fails now, and its disk's faults rose above those of each entry.
abbrev pub RefusesCommit : {D : Type 0} → (D → ℕ) → SessionState D → SessionState D → CommitRefusal
    → Type 0
RefusesCommit faults old new commit.Failed = (is_failed old.line ≡ true) × (new ≡ old)
RefusesCommit faults old new commit.Disk =
    (is_failed old.line ≡ false)
    × (Appends old (Broken (faults new.disk)) new
    × (Each (λ e. Rose (faults_told e) (faults new.disk)) old.line
    × Rose (faults old.disk) (faults new.disk)))

-- The session goes on by the Puts of roots at those of the positions that are none yet, in order,
-- and then by these entries. The forest stays, unless they acknowledge.
pub record BeginsRoots {D : Type 0} (old : SessionState D) (positions : List Board)
    (last : List Entry) (new : SessionState D) : Type 0 where
  pub added : List Board
  pub all : root_positions old.core.state.forest ++ added
      ≡ with_roots (root_positions old.core.state.forest) positions
  pub line : new.line ≡ old.line ++ (map (λ p. Put (Begin p)) added ++ last)

-- .. and by an acknowledgement, exactly where there was something to commit: roots that were added, or
-- what was staged before. The bench has staged the roots, and applied what was staged.
pub record HasBegun {D : Type 0} (old : SessionState D) (positions : List Board) (moment : ℕ)
    (new : SessionState D) : Type 0 where
  pub last : List Entry
  pub roots : BeginsRoots old positions last new
  pub acknowledged : (last ≡ []) ⊎ (last ≡ Acked moment ∷ [])
  pub exactly : (last ≡ []) ↔ ((with_roots_staged old.core roots.added).staged ≡ [])
  pub applied : (new.core ≡ with_roots_staged old.core roots.added)
      ⊎ IsCommitted (with_roots_staged old.core roots.added) new.core
  pub none_staged : new.core.staged ≡ []

abbrev pub RefusesBegin : {D : Type 0} → (D → ℕ) → SessionState D → List Board → SessionState D
    → BeginRefusal → Type 0
RefusesBegin faults old positions new begin.Failed = (is_failed old.line ≡ true) × (new ≡ old)
RefusesBegin faults old positions new begin.TooManyRoots =
    (is_failed old.line ≡ false)
    × ((MOST_ROOTS < length (with_roots (root_positions old.core.state.forest) positions))
    × (new ≡ old))
RefusesBegin faults old positions new begin.Disk =
    (is_failed old.line ≡ false)
    × (BeginsRoots old positions (Broken (faults new.disk) ∷ []) new
    × ((new.core.state.forest ≡ old.core.state.forest)
    × Rose (faults old.disk) (faults new.disk)))
RefusesBegin faults old positions new (begin.Memory error) =
    (is_failed old.line ≡ false) × (new ≡ old)

-- ---- turns

-- what a turn may add: every entry but the Attached and the Put of a root
abbrev pub MayAddInTurn : Entry → Type 0
MayAddInTurn (Put r) = is_work r ≡ true
MayAddInTurn (Attached a) = ⊥
MayAddInTurn (Leased lease) = Unit {0}
MayAddInTurn (Released id) = Unit {0}
MayAddInTurn (Acked moment) = Unit {0}
MayAddInTurn (Broken faults) = Unit {0}
