use Rattle.tree_manager.proofs.NumberLemmas.{number_stays}
use Rattle.tree_manager.proofs.TakenLemmas.{has_turn_on}
use Rattle.tree_manager.proofs.TurnLemmas.{grows_then}
use Rattle.worker_gate.proofs.worker.trade.Goals as goal

pub leave-requires : goal.leave-requires
leave-requires g c = record { turn = has_turn_on _ _ _ _ c.enter-turn.ensures.turn c.stage_results.ensures.goes_on }

pub returns-in-Err-clause-grows : goal.returns-in-Err-clause-grows
returns-in-Err-clause-grows g c = grows_then _ _ _ c.enter-turn.ensures.grows c.leave.ensures.grows

pub let_others_stage-turn-requires : goal.let_others_stage-turn-requires
let_others_stage-turn-requires g c = record { turn = has_turn_on _ _ _ _ c.enter-turn.ensures.turn c.stage_results.ensures.goes_on }

pub commit_and_take-traded-requires-clause-number : goal.commit_and_take-traded-requires-clause-number
commit_and_take-traded-requires-clause-number g c = number_stays _ _ _ c.in-Ok.ensures.number c.let_others_stage-turn.ensures.goes_on

pub leave-requires-2 : goal.leave-requires-2
leave-requires-2 g c = record { turn = has_turn_on _ _ _ _ c.let_others_stage-turn.ensures.turn c.commit_and_take-traded.ensures.goes_on }

pub returns-clause-grows : goal.returns-clause-grows
returns-clause-grows g c =
    grows_then _ _ _ c.enter-turn.ensures.grows (grows_then _ _ _ c.let_others_stage-turn.ensures.grows c.leave-2.ensures.grows)
