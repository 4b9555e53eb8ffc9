use Rattle.capture_positions.proofs.CaptureLemmas.{three_stand, must_capture}
use Rattle.capture_positions.proofs.laws.openings_are_captures.Goals as goal

pub returns-clause-pieces : goal.returns-clause-pieces
returns-clause-pieces c = three_stand

pub returns-clause-captures : goal.returns-clause-captures
returns-clause-captures c = must_capture
