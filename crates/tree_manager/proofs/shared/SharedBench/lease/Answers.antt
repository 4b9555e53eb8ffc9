use Rattle.tree_manager.proofs.SearchLemmas.{leased_asks_for_search}
use Rattle.tree_manager.proofs.TakenLemmas.{has_turn_on}
use Rattle.tree_manager.proofs.TurnLemmas.{grows_then}
use Rattle.tree_manager.proofs.shared.SharedBench.lease.Goals as goal

pub leave-requires : goal.leave-requires
leave-requires g c = record { turn = has_turn_on _ _ _ _ c.enter-turn.ensures.turn c.lease-answer.ensures.goes_on }

pub returns-clause-grows : goal.returns-clause-grows
returns-clause-grows g c = grows_then _ _ _ c.enter-turn.ensures.grows c.leave.ensures.grows

pub returns-clause-settings : goal.returns-clause-settings
returns-clause-settings g c =
    leased_asks_for_search _ _ _ _ c.enter-turn.result.session.core.state _ _ c.enter-turn.ensures.grows c.enter-turn.ensures.whole c.lease-answer.ensures.turn c.lease-answer.ensures.answer c.lease-answer.ensures.sight
