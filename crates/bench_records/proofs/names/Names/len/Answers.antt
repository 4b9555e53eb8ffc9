use Rattle.std.proofs.Common.{arith, length-append}
use Rattle.position_rows.specs.Rows.{positions_of}
use Rattle.position_rows.proofs.ApartLemmas.{as_many}
use Rattle.bench_records.proofs.names.Names.len.Goals as goal

pub overflow_cast-own : goal.overflow_cast-own
overflow_cast-own c =
    omega (arith, as_many c.self.inside.own.entries, length-append c.self.inside.before.now (positions_of c.self.inside.own.entries))

pub overflow_add-result : goal.overflow_add-result
overflow_add-result c =
    omega (arith, as_many c.self.inside.own.entries, length-append c.self.inside.before.now (positions_of c.self.inside.own.entries))

pub returns-clause-value : goal.returns-clause-value
returns-clause-value c =
    rw (← c.self.view_is)
    (omega (arith, as_many c.self.inside.own.entries, length-append c.self.inside.before.now (positions_of c.self.inside.own.entries)))
