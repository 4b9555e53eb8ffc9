-- How a line comes about, and the core that it stands for.
use Rattle.std.specs.Prelude.{◌≡◌, ◌≤◌, false, List, [], ◌∷◌, ◌++◌, map, Ok, Some}
use Rattle.lease_table.specs.Rows.{without}
use Rattle.bench_records.specs.declared.records.BenchRecord.{BenchRecord}
use Rattle.bench_core.specs.Growing.{IsForestOf}
use Rattle.bench_core.specs.States.{CoreState, SessionSettings, HasRow, lease_answer, with_lease, with_lease_rows}
use Rattle.bench_core.specs.Cores.{Core, MayStage, with_staged, IsCommitted}
use Rattle.tree_manager.specs.declared.entries.Attachment.{Attachment}
use Rattle.tree_manager.specs.declared.entries.Entry.{Entry}
use Rattle.tree_manager.specs.declared.entries.Entry.TheVariants.{Put, Attached, Leased, Released, Acked, Broken}
use Rattle.tree_manager.specs.Lines.{applied_in, unapplied_in, attachment_of, work_applied, leases_given, is_failed}
use Rattle.tree_manager.specs.LiveLeases.{rows_left}

-- ---- what a line stands for

-- the settings that a session began with
abbrev pub settings_of : Attachment → SessionSettings
settings_of a = record { budget = a.budget; depth = a.depth; pieces = a.pieces }

-- The state of a line: the forest of the records that are applied, and the leases that live.
pub record IsStateOf (line : List Entry) (s : CoreState) : Type 0 where
  pub forest : IsForestOf s.settings.pieces (applied_in line) s.forest
  pub rows : s.leases.rows ≡ rows_left s.leases.limit s.given line
  pub given : s.given ≡ leases_given line
  pub work : s.work ≡ work_applied line
  pub attachment : Attachment
  pub attached : attachment_of line ≡ Some attachment
  pub settings : s.settings ≡ settings_of attachment
  pub limit : s.leases.limit ≡ attachment.limit

-- .. and with it the records that are applied and those that are staged
pub record IsCoreOf (line : List Entry) (core : Core) : Type 0 where
  pub state : IsStateOf line core.state
  pub records : core.records ≡ applied_in line
  pub staged : core.staged ≡ unapplied_in line

-- ---- how it comes about

-- The session began: these records were replayed, and nothing else happened.
pub record IsNewCore (replayed : List BenchRecord) (a : Attachment) (core : Core) : Type 0 where
  pub forest : IsForestOf a.pieces replayed core.state.forest
  pub leases : core.state.leases ≡ record { limit = a.limit; rows = [] }
  pub lasts : 1 ≤ a.limit
  pub given : core.state.given ≡ 0
  pub work : core.state.work ≡ 0
  pub settings : core.state.settings ≡ settings_of a
  pub records : core.records ≡ replayed
  pub staged : core.staged ≡ []

-- The entry may come next, and leads from the one core to the other.
abbrev pub Enters : Core → Entry → Core → Type 0
Enters old (Put r) new = MayStage old r × (new ≡ with_staged old r)
Enters old (Attached a) new = ⊥
Enters old (Leased lease) new =
    (lease_answer old.state lease.worker ≡ Ok lease)
    × (new ≡ record old { state = with_lease old.state lease })
Enters old (Released id) new =
    HasRow (λ row. row.kept ≡ false) old.state id
    × (new
    ≡ record old { state = with_lease_rows old.state (without id old.state.leases.rows) })
Enters old (Acked moment) new = IsCommitted old new
Enters old (Broken faults) new = new ≡ old

-- A line begins with the records replayed and the Attached, and goes on by entries that may come
-- next, up to a Broken. It leads to this core.
pub data IsHistory : List Entry → Core → Type 0 where
  Opens : (line : List Entry) (core : Core) (replayed : List BenchRecord) (a : Attachment)
      → line ≡ map Put replayed ++ Attached a ∷ [] → IsNewCore replayed a core
      → IsHistory line core
  Follows : (line : List Entry) (core : Core) (before : List Entry) (old : Core) (e : Entry)
      → line ≡ before ++ e ∷ [] → IsHistory before old → is_failed before ≡ false
      → Enters old e core → IsHistory line core
