use Rattle.std.proofs.Common.{[]}
use Rattle.journal_runs.specs.FirstPass.{GrowsNoRoot, IsPassingWith, leases_waiting}
use Rattle.journal_runs.proofs.first_pass.search_roots.Given as goal

abbrev pub invariant-loop-left : goal.invariant-loop-left
invariant-loop-left g l = record {
  ungrown : GrowsNoRoot l.initial.session.line l.session.line;
  passes : IsPassingWith l.initial.session.core [] l.fn.most → IsPassingWith l.session.core (leases_waiting l.waiting.items) l.left;
}

abbrev pub decreases-loop-left : goal.decreases-loop-left
decreases-loop-left g l = l.left
