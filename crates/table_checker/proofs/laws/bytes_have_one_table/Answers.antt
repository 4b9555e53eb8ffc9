use Rattle.table_checker.proofs.FaultLemmas.{one_table_of_bytes}
use Rattle.table_checker.proofs.laws.bytes_have_one_table.Goals as goal

pub returns : goal.returns
returns c = one_table_of_bytes
