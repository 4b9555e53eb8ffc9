-- How the work on a session ends, and what it has come to by then.
use Rattle.std.specs.Prelude.{◌≡◌, ◌≤◌, ◌<◌, ℕ, Bool, true, false, List, [], ◌++◌, length}
use Rattle.std.specs.List.{AllByRecursion as Each}
use Rattle.draughts_board.specs.Board.{Board}
use Rattle.disk_journal.specs.Refusals.{says_nothing_of_file}
use Rattle.disk_journal.specs.declared.refusal.JournalRefusal.TheVariants as journal
use Rattle.proof_tree.specs.Forest.{Forest, nodes}
use Rattle.proof_tree.specs.Sound.{root_positions}
use Rattle.bench_records.specs.declared.records.BenchRecord.{BenchRecord}
use Rattle.bench_core.specs.States.{are_settled}
use Rattle.tree_manager.specs.declared.entries.Attachment.{Attachment}
use Rattle.tree_manager.specs.declared.entries.Entry.{Entry}
use Rattle.tree_manager.specs.Lines.{is_failed}
use Rattle.tree_manager.specs.Histories.{IsCoreOf, IsNewCore}
use Rattle.tree_manager.specs.Sessions.{SessionState, HasBegun, session_budget, with_roots}
use Rattle.tree_manager.specs.Turns.{GrowsByTurns}
use Rattle.worker_gate.specs.declared.worker.Ended.{Ended}
use Rattle.worker_gate.specs.declared.worker.Ended.TheVariants.{Done, Spent, Failed, Memory}
use Rattle.journal_runs.specs.declared.refusals.RunRefusal.{RunRefusal}
use Rattle.journal_runs.specs.declared.refusals.RunRefusal.TheVariants as refusal
use Rattle.journal_runs.specs.Ample.{IsAmple, IsReached, IsRoomForEach}
use Rattle.journal_runs.specs.FirstPass.{HasSearched}
use Rattle.proof_tree.specs.declared.tree.TheConstants.{MOST_ROOTS}

-- ---- a session's work

-- The session has not failed, nothing is staged, and no lease lives.
pub record IsIdle {D : Type 0} (s : SessionState D) : Type 0 where
  pub unfailed : is_failed s.line ≡ false
  pub none_staged : s.core.staged ≡ []
  pub unleased : s.core.state.leases.rows ≡ []

-- With `Done` and `Spent` the session is idle. After want of memory nothing is said.
abbrev pub IsEndedBy : {D : Type 0} → Ended → SessionState D → Type 0
IsEndedBy Done s = IsIdle s × (are_settled s.core.state.forest ≡ true)
IsEndedBy Spent s =
    IsIdle s × ((are_settled s.core.state.forest ≡ false)
    × (s.core.state.settings.budget ≤ s.core.state.work))
IsEndedBy Failed s = is_failed s.line ≡ true
IsEndedBy Memory s = Unit {0}

-- the line goes on from the old one
abbrev pub GoesOnFrom : List Entry → List Entry → Type 0
GoesOnFrom old new = (rest : List Entry) × (new ≡ old ++ rest)

-- The roots were begun, all that was added is applied, and the text is that of the forest. A root
-- is unsettled only where the session's budget is spent, and none where the budget was ample. Where
-- there was room for a search of each root, each that looking ahead shows has its value. The line
-- stands for the core.
pub record HasWorked {D : Type 0} (text_of : Forest → List ℕ) (lease : ℕ) (old : SessionState D)
    (positions : List Board) (new : SessionState D) (text : List ℕ)
    (is_settled : Bool) : Type 0 where
  pub idle : IsIdle new
  pub stands : IsCoreOf new.line new.core
  pub text_is : text ≡ text_of new.core.state.forest
  pub roots_are : root_positions new.core.state.forest
      ≡ with_roots (root_positions old.core.state.forest) positions
  pub settled_is : is_settled ≡ are_settled new.core.state.forest
  pub spent : is_settled ≡ false → new.core.state.settings.budget ≤ new.core.state.work
  pub ample : (replayed : List BenchRecord) (a : Attachment) (budget : ℕ)
      → IsNewCore replayed a old.core → a.budget ≡ session_budget budget replayed
      → IsAmple a.pieces a.depth budget positions replayed → is_settled ≡ true
  pub reached : (replayed : List BenchRecord) (a : Attachment) (budget : ℕ)
      → IsNewCore replayed a old.core → a.budget ≡ session_budget budget replayed → a.limit ≡ lease
      → IsRoomForEach a.pieces budget lease positions replayed
      → Each (IsReached a.pieces a.depth) (nodes new.core.state.forest)

-- The roots were begun, the first pass and the work behind it went on from there, and nothing is left
-- to do: the session is idle, and it is known whether each root is settled.
pub record HasRun {D : Type 0} (lease : ℕ) (old : SessionState D) (positions : List Board)
    (new : SessionState D) (is_settled : Bool) : Type 0 where
  pub begun : SessionState D
  pub moment : ℕ
  pub begins : HasBegun old positions moment begun
  pub stood : IsCoreOf begun.line begun.core
  pub grows : GrowsByTurns begun.line new.line
  pub searched : HasSearched lease begun.core new.line
  pub idle : IsIdle new
  pub settled_is : is_settled ≡ are_settled new.core.state.forest
  pub spent : is_settled ≡ false → new.core.state.settings.budget ≤ new.core.state.work

-- ---- refusals

-- memory ran out
abbrev pub out_of_memory : RunRefusal
out_of_memory = refusal.Journal (journal.Memory (record {}))

-- Why a session's work is refused: the disk failed or memory ran out, or there would be too many roots.
abbrev pub IsWorkRefusal : {D : Type 0} → SessionState D → List Board → RunRefusal → Type 0
IsWorkRefusal s positions (refusal.Journal cause) = says_nothing_of_file cause ≡ true
IsWorkRefusal s positions refusal.TooManyRoots =
    MOST_ROOTS < length (with_roots (root_positions s.core.state.forest) positions)
