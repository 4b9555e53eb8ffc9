use Rattle.std.proofs.Common.{ap, ◌∙◌}
use Rattle.bench_core.specs.States.{SessionSettings}
use Rattle.core_trial.proofs.KeptSettings.{run_keeps}
use Rattle.core_trial.proofs.tabled.TabledBench.apply.Goals as goal

pub invariant_of-self : goal.invariant_of-self
invariant_of-self c =
    let applied = c.apply_staged.ensures in
    ap (λ (s : SessionSettings). s.pieces) (run_keeps c.self.inside.bench.state c.apply_staged.new.self.state applied.events applied.run) ∙ c.self.invariant
