use Rattle.table_checker.specs.Faults.{AreBytesOf, IsTableFault, table_wants_memory}
use Rattle.table_checker.proofs.FaultLemmas.{one_table, table_or_fault, one_fault}
use Rattle.table_checker.proofs.check.check_table.Goals as goal
use Rattle.shared_words.proofs.Exactness.{exact_from_one}

pub returns : goal.returns
returns c =
    let bytes = c.args.bytes.now in
    exact_from_one table_wants_memory (AreBytesOf bytes) (IsTableFault bytes) c.read_table.result c.read_table.ensures.table c.read_table.ensures.refused
    (one_table bytes) (table_or_fault bytes) (one_fault bytes)
