use Rattle.tree_manager.proofs.NumberLemmas.{all_applied}
use Rattle.worker_gate.proofs.hand.commit_unless_applied.Goals as goal

pub returns-in-Ok-clause-applied : goal.returns-in-Ok-clause-applied
returns-in-Ok-clause-applied g c = all_applied _ _ _ c.requires c.commit_in_turn.ensures.goes_on.line c.in-Ok.ensures.turn.none_staged
