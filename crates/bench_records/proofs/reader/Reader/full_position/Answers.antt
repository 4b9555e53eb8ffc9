use Rattle.std.proofs.Common.{refl, ◌∙◌, ◌+◌, arith, sym, ap, subst, length, length-append}
use Rattle.std.specs.Prelude.{Contains}
use Rattle.bench_records.specs.Positions.{position_text}
use Rattle.bench_records.specs.Reading.{Spot}
use Rattle.bench_records.proofs.Masks.{length-position_text, one_position}
use Rattle.bench_records.proofs.Spots.{full_read, full_fails}
use Rattle.bench_records.proofs.reader.Reader.full_position.Goals as goal

pub overflow_add-self : goal.overflow_add-self
overflow_add-self c =
    omega (arith, c.self.invariant, ap length c.in-Some.ensures.some.1, length-append (position_text c.in-Some.cut.0) c.in-Some.cut.1.now, length-position_text c.in-Some.cut.0)

pub invariant_of-self : goal.invariant_of-self
invariant_of-self c =
    omega (arith, c.self.invariant, ap length c.in-Some.ensures.some.1, length-append (position_text c.in-Some.cut.0) c.in-Some.cut.1.now, length-position_text c.in-Some.cut.0)

pub returns-in-Some-clause-read : goal.returns-in-Some-clause-read
returns-in-Some-clause-read c others absent =
    rw (← c.self.view_is)
    (full_read others (record { left = c.self.inside.left.now; at = c.self.inside.at; named = c.self.inside.names; by_number = c.self.inside.by_number }) (record { left = c.in-Some.cut.1.now; at = c.self.inside.at + 17; named = c.self.inside.names; by_number = c.self.inside.by_number }) c.in-Some.cut.0
    (ap (λ (s : Spot). s.by_number) c.self.view_is ∙ c.requires) c.in-Some.ensures.some.0 absent c.in-Some.ensures.some.1
    (ap (λ n. c.self.inside.at + n) (sym (length-position_text c.in-Some.cut.0))) refl refl)

pub returns-in-Some-clause-taken : goal.returns-in-Some-clause-taken
returns-in-Some-clause-taken c others there =
    rw (← c.self.view_is)
    (full_fails others (record { left = c.self.inside.left.now; at = c.self.inside.at; named = c.self.inside.names; by_number = c.self.inside.by_number }) (ap (λ (s : Spot). s.by_number) c.self.view_is ∙ c.requires) (λ p rest lawful absent spelled.
    let same = one_position p c.in-Some.cut.0 rest c.in-Some.cut.1.now lawful c.in-Some.ensures.some.0 (sym spelled ∙ c.in-Some.ensures.some.1) in
    absent (subst (Contains others) (sym same.0) there)))
