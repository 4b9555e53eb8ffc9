use Rattle.pdn_openings.proofs.Lawful.{lawful_openings}
use Rattle.pdn_openings.proofs.laws.openings_are_lawful.Goals as goal

pub returns : goal.returns
returns c = lawful_openings
