-- The result of a lease's search, and what of it is staged.
use Rattle.std.specs.Prelude.{◌≡◌, ℕ, All}
use Rattle.strategy_certificate.specs.Certificates.{IsGood}
use Rattle.proof_numbers.specs.Facts.{known}
use Rattle.lease_table.specs.declared.leases.Lease.{Lease}
use Rattle.certificate_checker.specs.Told.{facts_shown}
use Rattle.certificate_checker.specs.declared.outcomes.Outcome.{Outcome}
use Rattle.certificate_checker.specs.declared.outcomes.Outcome.TheVariants as outcomes
use Rattle.bench_records.specs.Names.{Sheet}
use Rattle.bench_records.specs.Texts.{ShowsEnough, IsSoundRecord, short_kind, record_sheet}
use Rattle.bench_core.specs.declared.results.Found.{Found}
use Rattle.bench_core.specs.declared.results.Found.TheVariants.{Solved, Exhausted}
use Rattle.bench_core.specs.declared.staged.Staged.{Staged}
use Rattle.bench_core.specs.declared.staged.Staged.TheVariants as staged
use Rattle.bench_core.specs.Cores.{IsOutcomeOf, record_of}

-- a lease, and what its search came to
pub record ResultState : Type 0 where
  pub lease : Lease
  pub outcome : Outcome

-- ---- how it is kept; nobody has to believe this

abbrev pub outcome_of : Found → Outcome
outcome_of (Solved facts shown) = outcomes.Solved shown
outcome_of (Exhausted e) = outcomes.Exhausted e

-- the certificates are good, and the facts are what they tell
abbrev pub IsTold : Found → Type 0
IsTold (Solved facts shown) = All IsGood shown × (known facts ≡ facts_shown shown)
IsTold (Exhausted e) = Unit {0}

-- What is found is of the lease's search. Its record has texts, and these are its kind and its
-- sheet.
pub record IsResultOf (lease : Lease) (found : Found) (kind : ℕ) (sheet : Sheet) : Type 0 where
  pub own : IsOutcomeOf lease (outcome_of found)
  pub told : IsTold found
  pub shows : ShowsEnough lease.pieces (record_of lease (outcome_of found))
  pub sound : IsSoundRecord (record_of lease (outcome_of found))
  pub of_kind : kind ≡ short_kind (record_of lease (outcome_of found))
  pub has : sheet ≡ record_sheet (record_of lease (outcome_of found))

-- what is staged of it, for the node of this number
abbrev pub staged_of : Lease → ℕ → Found → Staged
staged_of lease n (Solved facts shown) = staged.Solve lease.id n lease.position facts shown
staged_of lease n (Exhausted e) = staged.Expand lease.id n e.children
