use Rattle.std.proofs.Common.{◌∙◌}
use Rattle.swift_moves.proofs.legal_test.is_step.Goals as goal

pub returns : goal.returns
returns c = c.holds.ensures.value ∙ c.step_targets.ensures c.args.to c.holds.ensures.square
