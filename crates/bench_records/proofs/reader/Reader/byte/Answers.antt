use Rattle.std.proofs.Common.{◌+◌, refl}
use Rattle.bench_records.specs.Formats.{byte}
use Rattle.bench_records.specs.Orders.{is_between}
use Rattle.bench_records.proofs.Texts.{is-between}
use Rattle.bench_records.proofs.Spots.{field_read}
use Rattle.bench_records.proofs.reader.Reader.byte.Goals as goal

pub returns-clause-ok : goal.returns-clause-ok
returns-clause-ok c =
    rw (← c.self.view_is)
    (field_read (byte (is_between c.args.least c.args.most)) (record { left = c.self.inside.left.now; at = c.self.inside.at; named = c.self.inside.names; by_number = c.self.inside.by_number })
    (record { left = c.in-Some.rest.now; at = c.self.inside.at + 1; named = c.self.inside.names; by_number = c.self.inside.by_number }) c.in-Some.n.now tt
    (is-between c.args.least c.args.most c.in-Some.n.now c.if-n-least.false c.if-n-most.false) c.in-Some.ensures.cases.0 refl refl refl)
