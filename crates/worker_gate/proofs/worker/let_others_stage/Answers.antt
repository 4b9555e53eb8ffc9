use Rattle.tree_manager.proofs.TurnLemmas.{grows_then}
use Rattle.worker_gate.proofs.worker.let_others_stage.Goals as goal

pub returns-clause-grows : goal.returns-clause-grows
returns-clause-grows g c = grows_then _ _ _ c.leave.ensures.grows c.enter.ensures.grows
