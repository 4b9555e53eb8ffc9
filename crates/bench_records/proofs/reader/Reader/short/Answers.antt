use Rattle.std.proofs.Common.{refl, ◌+◌, arith, ap, sym, length, length-append}
use Rattle.bench_records.specs.Formats.{short}
use Rattle.bench_records.specs.Positions.{short_text}
use Rattle.bench_records.proofs.Numbers.{short_whole, length-short_text}
use Rattle.bench_records.proofs.Spots.{field_read, field_fails}
use Rattle.bench_records.proofs.reader.Reader.short.Goals as goal

pub returns-in_default-clause-err : goal.returns-in_default-clause-err
returns-in_default-clause-err c =
    rw (← c.self.view_is)
    (field_fails short (record { left = c.self.inside.left.now; at = c.self.inside.at; named = c.self.inside.names; by_number = c.self.inside.by_number }) tt (λ n rest allowed spelled. short_whole c.self.inside.left.now n rest spelled c.in_default.ensures.none))

pub overflow_add-self : goal.overflow_add-self
overflow_add-self c =
    omega (arith, c.self.invariant, ap length c.in-Some.ensures.some.1, length-append (short_text c.in-Some.n) c.in-Some.rest.now, length-short_text c.in-Some.n)

pub invariant_of-self : goal.invariant_of-self
invariant_of-self c =
    omega (arith, c.self.invariant, ap length c.in-Some.ensures.some.1, length-append (short_text c.in-Some.n) c.in-Some.rest.now, length-short_text c.in-Some.n)

pub returns-clause-ok : goal.returns-clause-ok
returns-clause-ok c =
    rw (← c.self.view_is)
    (field_read short (record { left = c.self.inside.left.now; at = c.self.inside.at; named = c.self.inside.names; by_number = c.self.inside.by_number }) (record { left = c.in-Some.rest.now; at = c.self.inside.at + 4; named = c.self.inside.names; by_number = c.self.inside.by_number }) c.in-Some.n tt
    c.in-Some.ensures.some.0 c.in-Some.ensures.some.1 (ap (λ n. c.self.inside.at + n) (sym (length-short_text c.in-Some.n))) refl refl)
