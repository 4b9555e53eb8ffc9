use Rattle.std.proofs.Common.{length}
use Rattle.std.proofs.lemmas.Result.{err_from_is_err_and}
use Rattle.bench_commands.proofs.TableLemmas.{table_refused, table_accepted, sound_says}
use Rattle.bench_commands.proofs.commands.table_check.table_check.Goals as goal

pub returns-in_err-table-clause-refused : goal.returns-in_err-table-clause-refused
returns-in_err-table-clause-refused c =
    let p = err_from_is_err_and c.from_residual.result c.from_residual.ensures.1 in
    rw (p.1, p.2) (table_refused c.args.bytes.now c.in_err-table.field-0.0 c.in_err-table.ensures.fault)

pub returns-in_err-table-clause-accepted : goal.returns-in_err-table-clause-accepted
returns-in_err-table-clause-accepted c =
    let p = err_from_is_err_and c.from_residual.result c.from_residual.ensures.1 in
    rw (p.1, p.2) (λ good. table_accepted c.args.bytes.now c.in_err-table.field-0.0 c.in_err-table.ensures.fault good)

pub returns-clause-says : goal.returns-clause-says
returns-clause-says c =
    sound_says c.in_ok-table.table.pieces (length c.in_ok-table.table.numbers) c.settled.result.text.items c.in_ok-sound_text.ensures.line
    (rw c.settled.ensures.text c.in_ok-sound_text.ensures.text)

pub returns-clause-answers : goal.returns-clause-answers
returns-clause-answers c = (
  record {
    pieces = c.in_ok-table.table.pieces;
    numbers = c.in_ok-table.table.numbers;
    table = c.in_ok-table.ensures.good.0;
    read = c.in_ok-table.ensures.good.1;
    text_is = rw c.settled.ensures.text c.in_ok-sound_text.ensures.text;
  },
  c.settled.ensures.settled,
)
