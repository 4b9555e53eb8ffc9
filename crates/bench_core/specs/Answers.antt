-- Which refusal comes with which answer.
use Rattle.std.specs.Prelude.{◌≡◌, ℕ, false, List, [], Contains, Result, Err}
use Rattle.lease_table.specs.declared.leases.Lease.{Lease}
use Rattle.lease_table.specs.declared.leases.Row.{Row}
use Rattle.bench_core.specs.declared.refusals.LeaseRefusal.{LeaseRefusal}
use Rattle.bench_core.specs.declared.refusals.LeaseRefusal.TheVariants as lease
use Rattle.bench_core.specs.declared.refusals.ReadyRefusal.{ReadyRefusal}
use Rattle.bench_core.specs.declared.refusals.ReadyRefusal.TheVariants as ready
use Rattle.bench_core.specs.declared.refusals.ReplayRefusal.{ReplayRefusal}
use Rattle.bench_core.specs.declared.refusals.ReplayRefusal.TheVariants as replay
use Rattle.bench_records.specs.declared.records.BenchRecord.{BenchRecord}
use Rattle.bench_records.specs.Refusals.{IsRecordRefusal}
use Rattle.bench_records.specs.Texts.{IsText, named_in}
use Rattle.bench_core.specs.Growing.{IsLawfulRecord, GrowsWith}
use Rattle.bench_core.specs.States.{CoreState}
use Rattle.bench_core.specs.Cores.{Core, with_record}

-- the refusal is the answer; want of memory may come with any
abbrev pub RefusesLease : Result Lease LeaseRefusal → LeaseRefusal → Type 0
RefusesLease answer lease.Failed = ⊥
RefusesLease answer lease.Done = answer ≡ Err lease.Done
RefusesLease answer (lease.Spent records budget) = answer ≡ Err (lease.Spent records budget)
RefusesLease answer (lease.NoLeaf live) = answer ≡ Err (lease.NoLeaf live)
RefusesLease answer (lease.Memory error) = Unit {0}

-- the row of a lease that is not kept
abbrev pub unkept : Lease → Row
unkept lease = record { lease = lease; kept = false }

-- no live row that is not kept is this lease; want of memory may come with any
abbrev pub RefusesReady : CoreState → Lease → ReadyRefusal → Type 0
RefusesReady s lease (ready.Stale id) = (id ≡ lease.id) × (¬ Contains s.leases.rows (unkept lease))
RefusesReady s lease (ready.Memory error) = Unit {0}

-- ---- replaying a payload

-- it is the text of this record behind the records of the bench, and the forest grew by it
pub record HasReplayed (old : Core) (payload : List ℕ) (new : Core) : Type 0 where
  pub last : BenchRecord
  pub text : IsText old.state.settings.pieces old.records last payload
  pub grown : GrowsWith old.state.settings.pieces old.state.forest last new.state.forest
  pub rest : new ≡ with_record old last new.state.forest

-- it is the text of this record, which is not lawful
pub record IsUnlawful (core : Core) (payload : List ℕ) : Type 0 where
  pub last : BenchRecord
  pub text : IsText core.state.settings.pieces core.records last payload
  pub unlawful : ¬ IsLawfulRecord core.state.settings.pieces core.state.forest last

-- Behind the positions that the records name it is no record's text, for this fault; or its record
-- is not lawful. Want of memory may come with any.
abbrev pub RefusesReplay : Core → List ℕ → ReplayRefusal → Type 0
RefusesReplay core payload (replay.Unread fault) =
    IsRecordRefusal (named_in [] core.records) core.state.settings.pieces payload fault
RefusesReplay core payload replay.Unlawful = IsUnlawful core payload
RefusesReplay core payload (replay.Memory error) = Unit {0}
