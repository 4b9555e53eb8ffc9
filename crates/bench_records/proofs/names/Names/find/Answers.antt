use Rattle.std.proofs.Common.{◌+◌, ◌∙◌, ap, arith, length-append, sym}
use Rattle.std.specs.Prelude.{is_some}
use Rattle.position_rows.specs.Rows.{positions_of}
use Rattle.bench_records.proofs.Numbering.{found_first, found_second}
use Rattle.bench_records.proofs.Rowed.{none_of_both, place_inside, tells_there}
use Rattle.bench_records.proofs.names.Names.find.Goals as goal

pub returns-in-Some-clause-some : goal.returns-in-Some-clause-some
returns-in-Some-clause-some c =
    rw (← c.self.view_is)
    (found_first c.self.inside.before.now (positions_of c.self.inside.own.entries) c.args.p.now c.in-Some.n c.in-Some.ensures.some.0 c.in-Some.ensures.some.1)

pub overflow_cast-result : goal.overflow_cast-result
overflow_cast-result c =
    let own = positions_of c.self.inside.own.entries in
    omega (arith, place_inside own c.args.p.now c.in_ok-n.n c.in_ok-n.ensures, length-append c.self.inside.before.now own)

pub overflow_add-result : goal.overflow_add-result
overflow_add-result c =
    let own = positions_of c.self.inside.own.entries in
    omega (arith, place_inside own c.args.p.now c.in_ok-n.n c.in_ok-n.ensures, length-append c.self.inside.before.now own)

pub returns-clause-some : goal.returns-clause-some
returns-clause-some c =
    let own = positions_of c.self.inside.own.entries in
    let there = ap is_some c.in_ok-n.ensures ∙ tells_there own c.args.p.now in
    let both = found_second c.self.inside.before.now own c.args.p.now c.in_ok-n.n c.in_default.ensures.none there c.in_ok-n.ensures in
    rw (← c.self.view_is) (both.0, ap (λ k. k + c.in_ok-n.n) c.self.invariant.1 ∙ both.1)

pub returns-in_err-n-clause-none : goal.returns-in_err-n-clause-none
returns-in_err-n-clause-none c =
    let own = positions_of c.self.inside.own.entries in
    let none = sym (ap is_some c.in_err-n.ensures ∙ tells_there own c.args.p.now) in
    rw (c.from_residual.ensures, ← c.self.view_is) (none_of_both c.self.inside.before.now own c.args.p.now c.in_default.ensures.none none)
