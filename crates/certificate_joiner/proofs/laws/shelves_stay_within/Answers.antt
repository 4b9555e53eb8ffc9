use Rattle.certificate_joiner.proofs.Within.{shelf_stays_within}
use Rattle.certificate_joiner.proofs.laws.shelves_stay_within.Goals as goal

pub returns : goal.returns
returns c = shelf_stays_within
