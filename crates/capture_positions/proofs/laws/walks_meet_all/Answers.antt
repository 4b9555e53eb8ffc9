use Rattle.capture_positions.proofs.CountLemmas.{enough}
use Rattle.capture_positions.proofs.WalkLemmas.{step_to, step_within, step_meets}
use Rattle.capture_positions.proofs.laws.walks_meet_all.Goals as goal

pub returns-clause-met : goal.returns-clause-met
returns-clause-met c seed i l = (step_to seed i, (step_within seed i, step_meets seed i l))

pub returns-clause-enough : goal.returns-clause-enough
returns-clause-enough c = enough
