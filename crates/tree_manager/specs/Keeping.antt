-- What a session keeps among its fields. Nobody has to believe it.
use Rattle.std.specs.Prelude.{◌≡◌, ◌≤◌, ◌+◌, ◌*◌, ◌++◌, [], ℕ, true, false, not, ◌^◌, ◌-◌, List, length, count_by, IfSome}
use Rattle.std.specs.List.{AllByRecursion as Each}
use Rattle.bench_disk.specs.declared.disk.Disk.{Ghosts}
use Rattle.bench_disk.specs.Disk.{IsHonest}
use Rattle.shared_words.specs.Counts.{Rose}
use Rattle.disk_journal.specs.Log.{Log}
use Rattle.lease_table.specs.declared.leases.Row.{Row}
use Rattle.bench_core.specs.Cores.{CanApplyAll, Core}
use Rattle.bench_core.specs.Records.{begun}
use Rattle.tree_manager.specs.declared.entries.Entry.{Entry}
use Rattle.tree_manager.specs.declared.marks.Mark.{Mark}
use Rattle.tree_manager.specs.Entries.{faults_told}
use Rattle.tree_manager.specs.Lines.{attachment_of, is_failed, EndsBroken}
use Rattle.tree_manager.specs.Histories.{IsHistory}
use Rattle.tree_manager.specs.Synced.{IsSynced}
use Rattle.tree_manager.specs.Weaving.{puts_marked, woven}
use Rattle.tree_manager.specs.Sessions.{SessionState}

-- how many leases live that are not kept
abbrev pub waiting_leases : List Row → ℕ
waiting_leases rows = count_by (λ row. not row.kept) rows

-- For how many entries there has to be room without taking memory: a lease that waits is owed the
-- entry that ends it and its commit's, and what is staged is owed its commit's.
abbrev pub entries_owed : Core → ℕ
entries_owed core = 2 * waiting_leases core.state.leases.rows + length core.staged

-- Its line leads to its bench's core, and its journal says the same; until it fails there is room
-- for what is owed.
pub record IsSession {D : Type 0} (g : Ghosts D) (line : List Entry) (marks : List Mark) (capacity due : ℕ)
    (core : Core) (log : Log D) : Type 0 where
  pub filled : puts_marked marks ≡ length core.records + length core.staged
  pub history : IsHistory line core
  pub grows : CanApplyAll core
  pub failed : log.failed ≡ is_failed line
  pub pieces : log.pieces ≡ core.state.settings.pieces
  pub counted : log.failed ≡ false → log.count ≡ length core.records
  pub as_many : log.failed ≡ false → length log.staged ≡ length core.staged
  pub owed : log.failed ≡ false → entries_owed core ≤ due
  pub room : log.failed ≡ false → length marks + due ≤ capacity
  pub not_more : Each (λ e. faults_told e ≤ g.faults log.disk) line
  pub broken : is_failed line ≡ true
      → IfSome (attachment_of line) (λ a. Rose a.faults (g.faults log.disk))
  pub ended : is_failed line ≡ true → EndsBroken line
  pub synced : IsHonest g.TELLS → IsSynced g line log

-- The fields of a session, as a call that has not ended finds them.
pub record Parts (D : Type 0) : Type 0 where
  pub marks : List Mark
  pub capacity : ℕ
  pub due : ℕ
  pub core : Core
  pub log : Log D

-- how many entries a line has at most
abbrev pub most_entries : ℕ
most_entries = 2 ^ 63 - 1

abbrev pub parts_of : {D : Type 0} → List Mark → ℕ → Core → Log D → Parts D
parts_of marks due core log = record {
  marks = marks;
  capacity = most_entries;
  due = due;
  core = core;
  log = log;
}

abbrev pub line_in : {D : Type 0} → Parts D → List Entry
line_in parts = woven parts.marks (parts.core.records ++ parts.core.staged)

-- the session that its callers see
abbrev pub state_of : {D : Type 0} → Parts D → SessionState D
state_of parts = record { line = line_in parts; core = parts.core; disk = parts.log.disk }

-- what holds within a call too, where roots may be staged
abbrev pub HoldsWithinCall : {D : Type 0} → Ghosts D → Parts D → Type 0
HoldsWithinCall g parts =
    IsSession g (line_in parts) parts.marks parts.capacity parts.due parts.core parts.log

-- What holds between calls: unless it has failed, no root is staged.
pub record HoldsBetweenCalls {D : Type 0} (g : Ghosts D) (parts : Parts D) : Type 0 where
  pub within : HoldsWithinCall g parts
  pub rootless : is_failed (line_in parts) ≡ false → begun parts.core.staged ≡ []
