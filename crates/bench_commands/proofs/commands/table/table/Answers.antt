use Rattle.bench_commands.proofs.TableLemmas.{table_says}
use Rattle.bench_commands.proofs.commands.table.table.Goals as goal

pub returns-clause-says : goal.returns-clause-says
returns-clause-says c =
    table_says c.in_ok-table.table.pieces c.in_ok-table.table.numbers c.settled.result.text.items c.in_ok-table.ensures.small
    (rw c.settled.ensures.text c.in_ok-table_bytes.ensures)
