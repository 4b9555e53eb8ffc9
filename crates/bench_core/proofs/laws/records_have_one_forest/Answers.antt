use Rattle.bench_core.proofs.GrownForests.{records_settle_what_they_resolve}
use Rattle.bench_core.proofs.OneForest.{records_have_one_forest, roots_are_those_begun}
use Rattle.bench_core.proofs.laws.records_have_one_forest.Goals as goal

pub returns-clause-forest : goal.returns-clause-forest
returns-clause-forest c = records_have_one_forest

pub returns-clause-roots : goal.returns-clause-roots
returns-clause-roots c = roots_are_those_begun

pub returns-clause-settled : goal.returns-clause-settled
returns-clause-settled c = records_settle_what_they_resolve
