use Rattle.std.proofs.Common.{refl, ◌+◌, arith, sym, ◌∙◌, ap, length, length-append}
use Rattle.bench_records.specs.Formats.{long}
use Rattle.bench_records.specs.Positions.{long_text}
use Rattle.bench_records.proofs.Numbers.{long_whole, length-long_text, one_long}
use Rattle.bench_records.proofs.Spots.{field_read, field_fails}
use Rattle.bench_records.proofs.reader.Reader.long.Goals as goal

pub returns-in_default-clause-err : goal.returns-in_default-clause-err
returns-in_default-clause-err c =
    rw (← c.self.view_is)
    (field_fails (long c.args.most) (record { left = c.self.inside.left.now; at = c.self.inside.at; named = c.self.inside.names; by_number = c.self.inside.by_number }) tt (λ n rest allowed spelled. long_whole c.self.inside.left.now n rest spelled c.in_default.ensures.none))

pub returns-then-n-most-clause-err : goal.returns-then-n-most-clause-err
returns-then-n-most-clause-err c =
    rw (← c.self.view_is)
    (field_fails (long c.args.most) (record { left = c.self.inside.left.now; at = c.self.inside.at; named = c.self.inside.names; by_number = c.self.inside.by_number }) tt
    (λ n rest allowed spelled.
    let same = one_long n c.in-Some.n rest c.in-Some.rest.now allowed.0 c.in-Some.ensures.some.0 (sym spelled ∙ c.in-Some.ensures.some.1) in
    omega (arith, same.0, allowed.1, c.if-n-most.true)))

pub overflow_add-self : goal.overflow_add-self
overflow_add-self c =
    omega (arith, c.self.invariant, ap length c.in-Some.ensures.some.1, length-append (long_text c.in-Some.n) c.in-Some.rest.now, length-long_text c.in-Some.n)

pub invariant_of-self : goal.invariant_of-self
invariant_of-self c =
    omega (arith, c.self.invariant, ap length c.in-Some.ensures.some.1, length-append (long_text c.in-Some.n) c.in-Some.rest.now, length-long_text c.in-Some.n)

pub returns-clause-ok : goal.returns-clause-ok
returns-clause-ok c =
    rw (← c.self.view_is)
    (field_read (long c.args.most) (record { left = c.self.inside.left.now; at = c.self.inside.at; named = c.self.inside.names; by_number = c.self.inside.by_number }) (record { left = c.in-Some.rest.now; at = c.self.inside.at + 8; named = c.self.inside.names; by_number = c.self.inside.by_number }) c.in-Some.n tt
    (c.in-Some.ensures.some.0, c.if-n-most.false) c.in-Some.ensures.some.1 (ap (λ n. c.self.inside.at + n) (sym (length-long_text c.in-Some.n))) refl refl)
