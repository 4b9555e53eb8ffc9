use Rattle.certificate_joiner.proofs.Joined.{settled_roots_are_shown, settled_values_are_true}
use Rattle.certificate_joiner.proofs.laws.settled_roots_are_shown.Goals as goal

pub returns-clause-shown : goal.returns-clause-shown
returns-clause-shown c = settled_roots_are_shown

pub returns-clause-values : goal.returns-clause-values
returns-clause-values c = settled_values_are_true
