-- What searches of leaves found.
use Rattle.std.specs.Prelude.{◌≡◌, List, map, All}
use Rattle.lease_table.specs.declared.leases.Lease.{Lease}
use Rattle.bench_core.specs.Cores.{IsOutcomeOf}
use Rattle.worker_gate.specs.declared.found.LeafFound.{LeafFound}

-- There is one result for each of these leases, in their order, and it is of the lease's own search.
pub record AreFoundOf (leases : List Lease) (found : List LeafFound) : Type 0 where
  pub each : map (λ leaf. leaf.result.lease) found ≡ leases
  pub own : All (λ leaf. IsOutcomeOf leaf.result.lease leaf.result.outcome) found
