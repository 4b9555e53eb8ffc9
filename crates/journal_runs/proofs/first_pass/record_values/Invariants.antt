use Rattle.std.proofs.Common.{◌++◌, ℕ, length}
use Rattle.std.specs.List.{AllByRecursion as Each}
use Rattle.journal_runs.specs.FirstPass.{GrowsNoRoot, IsPassingWith, leases_found, leases_waiting}
use Rattle.journal_runs.proofs.FirstRuns.{TellsValue}
use Rattle.journal_runs.proofs.FirstStaging.{IsStagedSoFar}
use Rattle.journal_runs.proofs.first_pass.record_values.Given as goal

abbrev pub invariant-loop-result : goal.invariant-loop-result
invariant-loop-result g l = record {
  ungrown : GrowsNoRoot l.initial.session.line l.session.line;
  staged : (rest : ℕ) → IsPassingWith l.initial.session.core (leases_waiting l.initial.waiting.items ++ leases_found l.initial.found.items) rest
      → IsStagedSoFar l.initial.session.core l.session.core (leases_waiting l.waiting.items) (leases_found l.found.items) × Each TellsValue l.session.core.staged;
}

abbrev pub decreases-loop-result : goal.decreases-loop-result
decreases-loop-result g l = length l.found.items
