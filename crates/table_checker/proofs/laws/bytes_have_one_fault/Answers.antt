use Rattle.table_checker.proofs.FaultLemmas.{one_fault}
use Rattle.table_checker.proofs.laws.bytes_have_one_fault.Goals as goal

pub returns : goal.returns
returns c = one_fault
