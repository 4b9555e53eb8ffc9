use Rattle.tree_manager.specs.Keeping.{waiting_leases}
use Rattle.tree_manager.proofs.IdLemmas.{EndedSoFar}
use Rattle.tree_manager.proofs.session.Session.end_leases.Given as goal

abbrev pub invariant-loop-id : goal.invariant-loop-id
invariant-loop-id g l = EndedSoFar l.fn.self l.self

abbrev pub decreases-loop-id : goal.decreases-loop-id
decreases-loop-id g l = waiting_leases l.self.core.state.leases.rows
