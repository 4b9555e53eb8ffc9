use Rattle.root_pages.proofs.StepLemmas.{IsUnderWay}
use Rattle.root_pages.proofs.steps.play_steps.Given as goal

abbrev pub invariant-loop-path : goal.invariant-loop-path
invariant-loop-path l = IsUnderWay l.start l.moves l.path-index l.steps.items l.position
