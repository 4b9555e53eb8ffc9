use Rattle.std.proofs.Common.{ap, ◌∙◌}
use Rattle.std.specs.Prelude.{Err}
use Rattle.std.proofs.lemmas.Result.{err_from_is_err_and}
use Rattle.tree_manager.proofs.TakenLemmas.{has_turn_on}
use Rattle.tree_manager.proofs.TurnLemmas.{grows_then}
use Rattle.tree_manager.proofs.SharedLemmas.{stages_nothing}
use Rattle.tree_manager.proofs.shared.SharedBench.stage.Goals as goal

pub leave-requires : goal.leave-requires
leave-requires g c = record { turn = has_turn_on _ _ _ _ c.enter-turn.ensures.turn c.stage_numbered-answer.ensures.goes_on }

pub returns-clause-grows : goal.returns-clause-grows
returns-clause-grows g c = grows_then _ _ _ c.enter-turn.ensures.grows c.leave.ensures.grows

pub returns-in_err-found-clause-turn : goal.returns-in_err-found-clause-turn
returns-in_err-found-clause-turn g c =
    let answer = err_from_is_err_and c.from_residual.result c.from_residual.ensures.1 in
    stages_nothing c.args.pass.now.front c.args.lease.now c.args.outcome _ _ (answer.1 ∙ ap Err answer.2)
