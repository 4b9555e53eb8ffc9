-- What one turn of a shared session does, said of the line that it found and of the line that it
-- left, which is the front of its pass.
use Rattle.std.specs.Prelude.{◌≡◌, ◌≢◌, ◌⊎◌, ℕ, false, List, [], ◌∷◌, ◌++◌, Contains, length, count_by, is_some, Result, Ok, Err}
use Rattle.turn_lock.specs.Growth.{GrowsTo}
use Rattle.draughts_board.specs.Draughts.{draughts}
use Rattle.draughts_board.specs.Game.{is_at_sight}
use Rattle.proof_tree.specs.Forest.{Forest, nodes, value_of}
use Rattle.certificate_checker.specs.declared.outcomes.Outcome.{Outcome}
use Rattle.disk_journal.specs.declared.journal.Receipt.{Receipt}
use Rattle.lease_table.specs.declared.leases.Lease.{Lease}
use Rattle.lease_table.specs.declared.leases.Stale.{Stale}
use Rattle.bench_core.specs.declared.refusals.LeaseRefusal.{LeaseRefusal}
use Rattle.bench_core.specs.declared.refusals.LeaseRefusal.TheVariants as lease
use Rattle.bench_core.specs.States.{CoreState, HasRow, lease_answer}
use Rattle.bench_core.specs.Cores.{Core, record_of}
use Rattle.bench_core.specs.Answers.{unkept}
use Rattle.tree_manager.specs.declared.counting.RootCounts.{RootCounts}
use Rattle.tree_manager.specs.declared.entries.Entry.{Entry}
use Rattle.tree_manager.specs.declared.entries.Entry.TheVariants.{Put, Leased, Released, Acked, Broken}
use Rattle.tree_manager.specs.declared.refusals.StageRefusal.{StageRefusal}
use Rattle.tree_manager.specs.declared.refusals.StageRefusal.TheVariants as stage
use Rattle.tree_manager.specs.declared.refusals.CommitRefusal.{CommitRefusal}
use Rattle.tree_manager.specs.declared.refusals.CommitRefusal.TheVariants as commit
use Rattle.tree_manager.specs.Lines.{recorded, unapplied_in, session_pieces, session_depth, EndsBroken}
use Rattle.tree_manager.specs.Histories.{IsCoreOf}
use Rattle.tree_manager.specs.Sessions.{MayAddInTurn}

-- ---- turns

-- the new line is the old one and then entries that turns may add
abbrev pub GrowsByTurns : List Entry → List Entry → Type 0
GrowsByTurns = GrowsTo MayAddInTurn

-- The turn found a line that goes on from the front before. It did this to it, and left the front
-- after, which goes on from what was found.
pub record InOneTurn (old new : List Entry) (did : List Entry → List Entry → Type 0) : Type 0 where
  pub found : List Entry
  pub grows : GrowsByTurns old found
  pub goes_on : GrowsByTurns found new
  pub does : did found new

-- ---- what a line says

-- The line stands for a core, and of its state this holds.
pub record InStateOf (line : List Entry) (P : CoreState → Type 0) : Type 0 where
  pub core : Core
  pub stands : IsCoreOf line core
  pub holds : P core.state

-- so a worker who asks for a leaf is answered
abbrev pub AnswersWorker : ℕ → Result Lease LeaseRefusal → List Entry → Type 0
AnswersWorker worker answer line = InStateOf line (λ s. lease_answer s worker ≡ answer)

-- The lease is for a search by the settings of the line's session. Its position is not decided at
-- sight.
pub record AsksForSearch (line : List Entry) (given : Lease) : Type 0 where
  pub pieces : given.pieces ≡ session_pieces line
  pub depth : given.depth ≡ session_depth line
  pub undecided : is_at_sight draughts given.pieces given.position ≡ false

-- this very lease lives, and no result of it is staged
abbrev pub AwaitsResult : Lease → List Entry → Type 0
AwaitsResult lease line = InStateOf line (λ s. Contains s.leases.rows (unkept lease))

abbrev pub AwaitsNoResult : Lease → List Entry → Type 0
AwaitsNoResult lease line = InStateOf line (λ s. ¬ Contains s.leases.rows (unkept lease))

-- a lease of this number lives, and no result of it is staged
abbrev pub MayRelease : ℕ → List Entry → Type 0
MayRelease id line = InStateOf line (λ s. HasRow (λ row. row.kept ≡ false) s id)

abbrev pub MayNotRelease : ℕ → List Entry → Type 0
MayNotRelease id line = InStateOf line (λ s. ¬ HasRow (λ row. row.kept ≡ false) s id)

-- the number of the roots, and of those that are settled
pub record AreRootCounts (counts : RootCounts) (roots : Forest) : Type 0 where
  pub all : counts.all ≡ length (nodes roots)
  pub settled : counts.settled ≡ count_by (λ root. is_some (value_of root)) (nodes roots)

-- ---- what each call does, by its answer

module _ (found new : List Entry) where
  abbrev pub AddsEntry : Entry → Type 0
  AddsEntry e = new ≡ found ++ e ∷ []

  -- `lease`
  abbrev pub Leases : ℕ → Result Lease LeaseRefusal → Type 0
  Leases worker (Ok given) = AddsEntry (Leased given) × AnswersWorker worker (Ok given) found
  Leases worker (Err lease.Failed) = (new ≡ found) × EndsBroken new
  Leases worker (Err lease.Done) = (new ≡ found) × AnswersWorker worker (Err lease.Done) new
  Leases worker (Err (lease.Spent records budget)) =
      (new ≡ found) × AnswersWorker worker (Err (lease.Spent records budget)) new
  Leases worker (Err (lease.NoLeaf live)) =
      (new ≡ found) × AnswersWorker worker (Err (lease.NoLeaf live)) new
  Leases worker (Err (lease.Memory error)) = new ≡ found

  -- `stage`
  abbrev pub Stages : Lease → Outcome → Result (Unit {0}) StageRefusal → Type 0
  Stages given outcome (Ok _) =
      AddsEntry (Put (record_of given outcome)) × AwaitsResult given found
  Stages given outcome (Err stage.Failed) = (new ≡ found) × EndsBroken new
  Stages given outcome (Err (stage.Stale id)) =
      (new ≡ found) × ((id ≡ given.id) × AwaitsNoResult given new)
  Stages given outcome (Err (stage.Memory error)) = new ≡ found

  -- `stage` of a shared session: and this is the number of the line's records, of which it is the last
  abbrev pub StagesNumbered : Lease → Outcome → Result ℕ StageRefusal → Type 0
  StagesNumbered given outcome (Ok number) =
      Stages given outcome (Ok tt) × (number ≡ length (recorded new))
  StagesNumbered given outcome (Err refusal) = Stages given outcome (Err refusal)

  -- `release`
  abbrev pub Releases : ℕ → Result (Unit {0}) Stale → Type 0
  Releases id (Ok _) = AddsEntry (Released id) × MayRelease id found
  Releases id (Err stale) =
      (new ≡ found) × ((stale.0 ≡ id) × (MayNotRelease id new ⊎ EndsBroken new))

  -- All that was staged is acknowledged, by one entry where there was something.
  pub record AllAcknowledged (receipt : Receipt) : Type 0 where
    pub none_staged : unapplied_in new ≡ []
    pub idle : unapplied_in found ≡ [] → new ≡ found
    pub acked : unapplied_in found ≢ [] → AddsEntry (Acked receipt.moment)
    pub number : receipt.number ≡ length (recorded new)

  -- `commit`
  abbrev pub Commits : Result Receipt CommitRefusal → Type 0
  Commits (Ok receipt) = AllAcknowledged receipt
  Commits (Err commit.Failed) = (new ≡ found) × EndsBroken new
  Commits (Err commit.Disk) = ((faults : ℕ) × AddsEntry (Broken faults)) × EndsBroken new

  -- `count_roots`
  abbrev pub Counts : RootCounts → Type 0
  Counts counts = (new ≡ found) × InStateOf new (λ s. AreRootCounts counts s.forest)
