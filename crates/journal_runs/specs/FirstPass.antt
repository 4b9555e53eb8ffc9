-- The first pass of a run: what it adds to its session's line before the last root is leased, the states
-- that it goes through, and what it leaves.
use Rattle.std.specs.Prelude.{◌≡◌, ◌≤◌, ◌<◌, ◌⊎◌, ◌+◌, ℕ, true, List, [], ◌∷◌, ◌++◌, map, length, Option, Some, None, IsSome}
use Rattle.std.specs.List.{list_any, AllByRecursion as Each}
use Rattle.proof_tree.specs.Forest.{Forest, no_node, node, nodes, value_of}
use Rattle.lease_table.specs.declared.leases.Lease.{Lease}
use Rattle.lease_table.specs.Rows.{is_of}
use Rattle.bench_core.specs.Records.{begun}
use Rattle.bench_core.specs.States.{CoreState, IsSoundState}
use Rattle.bench_core.specs.Cores.{Core, IsCommitted}
use Rattle.bench_core.specs.Answers.{unkept}
use Rattle.bench_core.specs.Results.{ResultState}
use Rattle.bench_records.specs.declared.records.BenchRecord.TheVariants.{Begin, Solve, Expand}
use Rattle.turn_lock.specs.Growth.{GrowsTo}
use Rattle.tree_manager.specs.declared.entries.Entry.{Entry}
use Rattle.tree_manager.specs.declared.entries.Entry.TheVariants.{Put, Attached, Leased, Released, Acked, Broken}
use Rattle.tree_manager.specs.Histories.{IsCoreOf}
use Rattle.tree_manager.specs.Sessions.{SessionState}
use Rattle.tree_manager.specs.Turns.{GrowsByTurns}
use Rattle.tree_manager.specs.Lines.{is_failed}
use Rattle.worker_gate.specs.declared.found.LeafFound.{LeafFound}
use Rattle.worker_gate.specs.declared.worker.Ended.{Ended}
use Rattle.worker_gate.specs.declared.worker.Ended.TheVariants.{Done, Spent, Failed, Memory}
use Rattle.journal_runs.specs.Ample.{IsSettledOrFresh, IsReached, unsettled_roots}
use Rattle.journal_runs.specs.declared.first_pass.TheConstants.{MOST_FIRST}

-- ---- what it adds

-- what a turn may add while no root grows: it puts certificates alone
abbrev pub MayAddUngrown : Entry → Type 0
MayAddUngrown (Put (Begin p)) = ⊥
MayAddUngrown (Put (Solve n p shown)) = Unit {0}
MayAddUngrown (Put (Expand n)) = ⊥
MayAddUngrown (Attached a) = ⊥
MayAddUngrown (Leased lease) = Unit {0}
MayAddUngrown (Released id) = Unit {0}
MayAddUngrown (Acked moment) = Unit {0}
MayAddUngrown (Broken faults) = Unit {0}

-- the new line is the old one and then entries by which no root grows
abbrev pub GrowsNoRoot : List Entry → List Entry → Type 0
GrowsNoRoot = GrowsTo MayAddUngrown

-- ---- what it goes through

-- a root with this number has no value
abbrev pub IsUnsettledRoot : ℕ → Forest → Type 0
IsUnsettledRoot n no_node = ⊥
IsUnsettledRoot n (node own children others) =
    ((own.number ≡ n) × (value_of (record { own = own; children = children }) ≡ None))
    ⊎ IsUnsettledRoot n others

-- Each root without a value is unexpanded, and each lease is of one of them. For each there is a work
-- record, and a lease that was given or one of the `rest` that are still to come, by which none runs out.
pub record IsPassing (s : CoreState) (rest : ℕ) : Type 0 where
  pub sound : IsSoundState s
  pub fresh : Each IsSettledOrFresh (nodes s.forest)
  pub rows : Each (λ row. IsUnsettledRoot row.lease.node s.forest) s.leases.rows
  pub enough : unsettled_roots s.forest + s.work ≤ s.settings.budget
  pub few : unsettled_roots s.forest ≤ length s.leases.rows + rest
  pub lives : Each (λ row. s.given + rest < row.lease.id + s.leases.limit) s.leases.rows
  pub lasts : rest ≤ s.leases.limit

-- .. where nothing is staged, and these leases live
pub record IsPassingWith (core : Core) (leased : List Lease) (rest : ℕ) : Type 0 where
  pub passing : IsPassing core.state rest
  pub none_staged : core.staged ≡ []
  pub rows_are : core.state.leases.rows ≡ map unkept leased

-- each root without a value is leased
abbrev pub AreAllLeased : CoreState → Type 0
AreAllLeased s =
    Each (λ root. IsSome (value_of root) ⊎ (list_any (is_of root.own.number) s.leases.rows ≡ true))
    (nodes s.forest)

-- .. where nothing is staged, and these leases live
pub record IsAllLeased (core : Core) (leased : List Lease) : Type 0 where
  pub sound : IsSoundState core.state
  pub none_staged : core.staged ≡ []
  pub rows_are : core.state.leases.rows ≡ map unkept leased
  pub all : AreAllLeased core.state

-- of results that wait, and of what searches found, the leases
abbrev pub leases_waiting : List ResultState → List Lease
leases_waiting waiting = map (λ result. result.lease) waiting

abbrev pub leases_found : List LeafFound → List Lease
leases_found found = map (λ leaf. leaf.result.lease) found

-- one lease more was given, or all were
abbrev pub LeasesNext : Core → List Lease → ℕ → Option Lease → Type 0
LeasesNext core leased rest (Some lease) = IsPassingWith core (leased ++ lease ∷ []) rest
LeasesNext core leased rest None = IsAllLeased core leased

-- what was staged, if anything was, is applied
abbrev pub Applies : Core → Core → Type 0
Applies old new = IsCommitted old new ⊎ ((old.staged ≡ []) × (new ≡ old))

-- the pass ends before its time: the disk failed, or memory ran out
abbrev pub IsStoppedBy : {D : Type 0} → Ended → SessionState D → Type 0
IsStoppedBy Done s = ⊥
IsStoppedBy Spent s = ⊥
IsStoppedBy Failed s = is_failed s.line ≡ true
IsStoppedBy Memory s = Unit {0}

-- ---- what it leaves

-- Nothing is staged, and no lease lives. Each root without a value is unexpanded, there is a work
-- record for each, and all of them may be leased, and live, at one time.
pub record HasRoomForEach (core : Core) (lease : ℕ) : Type 0 where
  pub none_staged : core.staged ≡ []
  pub unleased : core.state.leases.rows ≡ []
  pub limit : core.state.leases.limit ≡ lease
  pub fresh : Each IsSettledOrFresh (nodes core.state.forest)
  pub enough : unsettled_roots core.state.forest + core.state.work ≤ core.state.settings.budget
  pub few : unsettled_roots core.state.forest ≤ MOST_FIRST
  pub together : unsettled_roots core.state.forest ≤ lease

-- Each root of which looking ahead shows a value has its value. No root is staged.
pub record IsSearched (core : Core) : Type 0 where
  pub sound : IsSoundState core.state
  pub rootless : begun core.staged ≡ []
  pub reached : Each (IsReached core.state.settings.pieces core.state.settings.depth)
      (nodes core.state.forest)

-- The line goes on from one that stands for a core that was searched so, if there was room at the start.
pub record HasSearched (lease : ℕ) (start : Core) (line : List Entry) : Type 0 where
  pub front : List Entry
  pub core : Core
  pub stands : IsCoreOf front core
  pub goes_on : GrowsByTurns front line
  pub searched : HasRoomForEach start lease → IsSearched core
