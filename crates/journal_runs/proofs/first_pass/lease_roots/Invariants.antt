use Rattle.std.proofs.Common.{◌≤◌, ◌-◌, ◌++◌, ℕ, List, length, All}
use Rattle.lease_table.specs.declared.leases.Lease.{Lease}
use Rattle.tree_manager.specs.Turns.{AsksForSearch}
use Rattle.journal_runs.specs.FirstPass.{GrowsNoRoot, IsPassingWith}
use Rattle.journal_runs.proofs.first_pass.lease_roots.Given as goal

abbrev pub invariant-loop-roots : goal.invariant-loop-roots
invariant-loop-roots g l = record {
  ungrown : GrowsNoRoot l.initial.session.line l.session.line;
  leases : All (AsksForSearch l.session.line) l.roots.items;
  few : length l.roots.items ≤ l.most;
  passes : (leased : List Lease) (rest : ℕ) → l.most ≤ rest → IsPassingWith l.initial.session.core leased rest → IsPassingWith l.session.core (leased ++ l.roots.items) (rest - length l.roots.items);
}

abbrev pub decreases-loop-roots : goal.decreases-loop-roots
decreases-loop-roots g l = l.most - length l.roots.items
