use Rattle.std.proofs.Common.{◌∙◌, ap, arith, length, sym}
use Rattle.position_rows.proofs.ApartLemmas.{as_many}
use Rattle.bench_records.proofs.named.Named.len.Goals as goal

pub overflow_cast-result : goal.overflow_cast-result
overflow_cast-result c = omega (arith, as_many c.self.inside.positions.entries)

pub returns-clause-value : goal.returns-clause-value
returns-clause-value c = c.len.ensures.value ∙ (sym (as_many c.self.inside.positions.entries) ∙ ap length c.self.view_is)
