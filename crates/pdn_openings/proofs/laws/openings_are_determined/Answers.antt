use Rattle.pdn_openings.proofs.Determined.{one_list, as_many}
use Rattle.pdn_openings.proofs.laws.openings_are_determined.Goals as goal

pub returns : goal.returns
returns c = record { one = one_list; count = as_many }
