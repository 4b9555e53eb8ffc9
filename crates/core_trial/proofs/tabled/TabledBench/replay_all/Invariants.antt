use Rattle.core_trial.specs.Fresh.{IsFresh}
use Rattle.core_trial.proofs.tabled.TabledBench.replay_all.Given as goal

abbrev pub invariant-loop-text : goal.invariant-loop-text
invariant-loop-text l = IsFresh l.self
