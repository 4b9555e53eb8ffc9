use Rattle.certificate_checker.proofs.RefusalLemmas.{refused_is_not_good, one_refusal}
use Rattle.certificate_checker.proofs.laws.refusals_are_exact.Goals as goal

pub returns-clause-not_good : goal.returns-clause-not_good
returns-clause-not_good c = refused_is_not_good

pub returns-clause-one : goal.returns-clause-one
returns-clause-one c = one_refusal
