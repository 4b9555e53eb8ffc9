use Rattle.std.proofs.Common.{[], length}
use Rattle.tree_manager.specs.Turns.{GrowsByTurns}
use Rattle.journal_runs.specs.FirstPass.{IsAllLeased, leases_waiting}
use Rattle.journal_runs.proofs.FirstStaging.{IsStagedSoFar}
use Rattle.journal_runs.proofs.first_pass.record_rest.Given as goal

abbrev pub invariant-loop-result : goal.invariant-loop-result
invariant-loop-result g l = record {
  grows : GrowsByTurns l.initial.session.line l.session.line;
  staged : IsAllLeased l.initial.session.core (leases_waiting l.initial.waiting.items) → IsStagedSoFar l.initial.session.core l.session.core [] (leases_waiting l.waiting.items);
}

abbrev pub decreases-loop-result : goal.decreases-loop-result
decreases-loop-result g l = length l.waiting.items
