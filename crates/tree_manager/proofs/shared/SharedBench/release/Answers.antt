use Rattle.tree_manager.proofs.TakenLemmas.{has_turn_on}
use Rattle.tree_manager.proofs.TurnLemmas.{grows_then}
use Rattle.tree_manager.proofs.shared.SharedBench.release.Goals as goal

pub leave-requires : goal.leave-requires
leave-requires g c = record { turn = has_turn_on _ _ _ _ c.enter-turn.ensures.turn c.release-answer.ensures.goes_on }

pub returns-clause-grows : goal.returns-clause-grows
returns-clause-grows g c = grows_then _ _ _ c.enter-turn.ensures.grows c.leave.ensures.grows
