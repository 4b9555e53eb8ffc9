use Rattle.worker_gate.proofs.SearchingLemmas.{can_search_attached}
use Rattle.worker_trial.proofs.runs.share.Goals as goal

pub returns-in-Ok-new-clause-settings : goal.returns-in-Ok-new-clause-settings
returns-in-Ok-new-clause-settings c = can_search_attached _ _ _ c.in-Ok.session 2 _ c.in-Ok.ensures.attached c.settings.ensures c.in-Ok-new.ensures.front
