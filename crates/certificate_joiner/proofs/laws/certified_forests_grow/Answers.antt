use Rattle.certificate_joiner.proofs.Growth.{roots_stay_certified, children_stay_certified, facts_stay_certified}
use Rattle.certificate_joiner.proofs.laws.certified_forests_grow.Goals as goal

pub returns-clause-root : goal.returns-clause-root
returns-clause-root c = roots_stay_certified

pub returns-clause-children : goal.returns-clause-children
returns-clause-children c = children_stay_certified

pub returns-clause-facts : goal.returns-clause-facts
returns-clause-facts c = facts_stay_certified
