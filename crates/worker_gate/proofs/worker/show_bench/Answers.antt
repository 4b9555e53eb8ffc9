use Rattle.tree_manager.proofs.TurnLemmas.{grows_then}
use Rattle.worker_gate.proofs.worker.show_bench.Goals as goal

pub returns-clause-grows : goal.returns-clause-grows
returns-clause-grows g c = grows_then _ _ _ c.enter-turn.ensures.grows c.leave.ensures.grows
