use Rattle.table_checker.proofs.FaultLemmas.{faulty_bytes_are_no_table}
use Rattle.table_checker.proofs.laws.faulty_bytes_are_no_table.Goals as goal

pub returns : goal.returns
returns c = faulty_bytes_are_no_table
