-- What a bench is seen as: a state, the records that are applied, and those that are staged.
use Rattle.std.specs.Prelude.{◌≡◌, ◌≤◌, ℕ, Bool, true, false, not, cond, List, [], ◌∷◌, ◌++◌, All, Contains, filter, map, length}
use Rattle.std.specs.List.{list_any, IsDistinct, AllByRecursion as Each}
use Rattle.draughts_board.specs.Board.{IsLawful, same_board}
use Rattle.proof_tree.specs.Forest.{Forest, no_node}
use Rattle.proof_tree.specs.Sound.{root_positions}
use Rattle.lease_table.specs.declared.leases.Lease.{Lease}
use Rattle.lease_table.specs.declared.leases.Row.{Row}
use Rattle.lease_table.specs.Rows.{is_live_row}
use Rattle.certificate_checker.specs.declared.outcomes.Outcome.{Outcome}
use Rattle.certificate_checker.specs.declared.outcomes.Outcome.TheVariants.{Solved, Exhausted}
use Rattle.certificate_checker.specs.Answers.{IsAnswer}
use Rattle.bench_records.specs.declared.records.BenchRecord.{BenchRecord}
use Rattle.bench_records.specs.declared.records.BenchRecord.TheVariants.{Begin, Solve, Expand}
use Rattle.bench_core.specs.declared.settings.Settings.{Settings}
use Rattle.bench_core.specs.Records.{is_work, is_work_on, begun}
use Rattle.bench_core.specs.Growing.{MayBegin, GrowsWithAll}
use Rattle.bench_core.specs.States.{CoreState, Event, Finds, BeginsRoot, AsksLease, Releases, with_lease_rows, IsFoundUnder, IsRun, IsSoundBy}
use Rattle.proof_tree.specs.declared.tree.TheConstants.{MOST_ROOTS}

pub record Core : Type 0 where
  pub state : CoreState
  -- those by which the forest came about
  pub records : List BenchRecord
  pub staged : List BenchRecord

-- without roots, at these settings
abbrev pub new_core : Settings → Core
new_core s =
    record {
      state = record {
        forest = no_node;
        leases = record { limit = s.lease; rows = [] };
        given = 0;
        work = 0;
        settings = record { budget = s.budget; depth = s.depth; pieces = s.pieces };
      };
      records = [];
      staged = [];
    }

-- a session that has applied nothing, with this budget
abbrev pub with_budget : ℕ → Core → Core
with_budget budget core =
    record core {
      state = record core.state {
        work = 0;
        settings = record core.state.settings { budget = budget };
      };
    }

-- the forest grew by one more record
abbrev pub with_record : Core → BenchRecord → Forest → Core
with_record core r forest =
    record core {
      state = record core.state { forest = forest };
      records = core.records ++ r ∷ [];
    }

-- ---- staging

-- the row is kept from now on, if the record is of its node; or no longer
abbrev pub keep_for : Bool → BenchRecord → Row → Row
keep_for kept r row =
    cond (is_work_on row.lease.node r) (record row { kept = kept }) row

-- the record is staged, and the lease of its node is kept
abbrev pub with_staged : Core → BenchRecord → Core
with_staged core r =
    record core {
      state = with_lease_rows core.state (map (keep_for true r) core.state.leases.rows);
      staged = core.staged ++ r ∷ [];
    }

-- what a search under a live lease that is not kept may give
pub record IsResult (core : Core) (r : BenchRecord) : Type 0 where
  pub row : Row
  pub there : Contains core.state.leases.rows row
  pub unkept : row.kept ≡ false
  pub found : IsFoundUnder core.state row.lease r

-- the record may be staged: of a root that neither is there nor is staged, or a result
abbrev pub MayStage : Core → BenchRecord → Type 0
MayStage core (Begin p) = MayBegin p (root_positions core.state.forest ++ begun core.staged)
MayStage core (Solve n p shown) = IsResult core (Solve n p shown)
MayStage core (Expand n) = IsResult core (Expand n)

-- what is staged last is staged no more; the lease that was kept for it lives on while its number
-- has not run out
pub record IsForgotten (old new : Core) : Type 0 where
  pub last : BenchRecord
  pub staged : old.staged ≡ new.staged ++ last ∷ []
  pub rest : new
      ≡ record old {
        state = with_lease_rows old.state
            (filter (is_live_row old.state.leases.limit old.state.given)
            (map (keep_for false last) old.state.leases.rows));
        staged = new.staged;
      }

-- ---- outcomes

-- the record of an outcome of the lease's search
abbrev pub record_of : Lease → Outcome → BenchRecord
record_of lease (Solved found) = Solve lease.node lease.position found
record_of lease (Exhausted e) = Expand lease.node

-- the outcome is of the lease's search
abbrev pub IsOutcomeOf : Lease → Outcome → Type 0
IsOutcomeOf lease (Solved found) =
    IsAnswer lease.pieces lease.goal lease.depth lease.position found
IsOutcomeOf lease (Exhausted e) =
    (e.position ≡ lease.position) × ((e.goal ≡ lease.goal)
    × ((e.depth ≡ lease.depth) × (e.pieces ≡ lease.pieces)))

-- ---- applying

-- the record that the event applies
abbrev pub applied_by : Event → List BenchRecord
applied_by (AsksLease worker) = []
applied_by (Finds id r) = r ∷ []
applied_by (BeginsRoot p) = Begin p ∷ []
applied_by (Releases id) = []

abbrev pub applied_by_all : List Event → List BenchRecord
applied_by_all [] = []
applied_by_all (e ∷ events) = applied_by e ++ applied_by_all events

-- What is staged is applied in order, each record by its event; no kept lease is left, and no lease
-- is given.
pub record IsCommitted (old new : Core) : Type 0 where
  pub events : List Event
  pub in_order : applied_by_all events ≡ old.staged
  pub run : IsRun old.state events new.state
  pub ended : new.state.leases.rows ≡ filter (λ row. not row.kept) old.state.leases.rows
  pub records : new.records ≡ old.records ++ old.staged
  pub staged : new.staged ≡ []
  pub given : new.state.given ≡ old.state.given

-- all that is staged may be applied, in order
abbrev pub CanApplyAll : Core → Type 0
CanApplyAll core =
    (roots : Forest)
    × GrowsWithAll core.state.settings.pieces core.state.forest core.staged roots

-- ---- sound benches

-- the lease that is kept for a work record, under which it was found
pub record HasKeptRow (core : Core) (r : BenchRecord) : Type 0 where
  pub row : Row
  pub there : Contains core.state.leases.rows row
  pub kept : row.kept ≡ true
  pub found : IsFoundUnder core.state row.lease r

-- no two work records are of one node
abbrev pub AreOfOwnNodes : List BenchRecord → Type 0
AreOfOwnNodes [] = Unit {0}
AreOfOwnNodes (r ∷ records) =
    ((n : ℕ) → is_work_on n r ≡ true → list_any (is_work_on n) records ≡ false)
    × AreOfOwnNodes records

-- What every bench keeps: a sound state; what is staged may be applied, in any order of nodes; a
-- lease is kept exactly while a record of its node is staged.
pub record IsSoundCore (core : Core) : Type 0 where
  pub state : IsSoundBy core.records core.state
  pub kept : Each (λ r. is_work r ≡ true → HasKeptRow core r) core.staged
  pub awaited : Each (λ row. row.kept ≡ true
      → list_any (is_work_on row.lease.node) core.staged ≡ true) core.state.leases.rows
  pub own : AreOfOwnNodes core.staged
  pub lawful : All IsLawful (begun core.staged)
  pub distinct : IsDistinct same_board (root_positions core.state.forest ++ begun core.staged)
  pub room : length (root_positions core.state.forest ++ begun core.staged) ≤ MOST_ROOTS
