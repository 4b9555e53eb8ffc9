use Rattle.std.proofs.Common.{◌+◌, ◌<◌, ◌^◌, ◌∙◌, List, ap, arith, not, sym, subst, length}
use Rattle.draughts_board.specs.Board.{Board, same_board}
use Rattle.std.specs.List.{IsDistinct}
use Rattle.position_rows.specs.Rows.{positions_of}
use Rattle.position_rows.proofs.ApartLemmas.{as_many}
use Rattle.bench_records.specs.Names.{IsNamed, with_name}
use Rattle.bench_records.proofs.Numbering.{IsNumber, named_with, number_of_there, with_name-there}
use Rattle.bench_records.proofs.Rowed.{names_noted, place_bound}
use Rattle.bench_records.proofs.named.Named.note.Goals as goal
use Rattle.bench_records.proofs.named.Named.note.Goals.{In-Some}

noted : (c : In-Some) → IsNumber c.args.self.now c.args.p c.in-Some.n
noted c = number_of_there c.args.self.now c.args.p c.in-Some.n (subst (IsDistinct same_board) c.self.view_is c.self.invariant.distinct) c.in-Some.ensures

pub returns-in-Some-clause-number : goal.returns-in-Some-clause-number
returns-in-Some-clause-number c = sym (noted (goal.at.returns-in-Some-clause-number c).In-Some).number

pub returns-in-Some-clause-new : goal.returns-in-Some-clause-new
returns-in-Some-clause-new c = sym (ap not (noted (goal.at.returns-in-Some-clause-new c).In-Some).there)

pub returns-in-Some-clause-names : goal.returns-in-Some-clause-names
returns-in-Some-clause-names c = sym (with_name-there c.args.self.now c.args.p (noted (goal.at.returns-in-Some-clause-names c).In-Some).there)

pub overflow_cast-number : goal.overflow_cast-number
overflow_cast-number c =
    let old = c.self.inside.positions.entries in
    omega (arith, c.in_ok-noted.ensures.place, place_bound (positions_of old) c.args.p, as_many old, c.if-len.false, c.len.ensures.value)

pub invariant_of-self-2 : goal.invariant_of-self-2
invariant_of-self-2 c =
    let old = c.self.inside.positions.entries in
    let names = names_noted _ _ _ _ _ c.in_ok-noted.ensures.new c.in_ok-noted.ensures.rows in
    let few : length (positions_of old) + 1 < 2 ^ 32 = omega (arith, as_many old, c.if-len.false, c.len.ensures.value) in
    subst IsNamed (sym names) (named_with (positions_of old) c.args.p c.self.invariant c.note_rule.ensures few)

pub returns-clause-names : goal.returns-clause-names
returns-clause-names c =
    let names = names_noted _ _ _ _ _ c.in_ok-noted.ensures.new c.in_ok-noted.ensures.rows in
    names ∙ ap (λ (l : List Board). with_name l c.args.p) c.self.view_is

pub returns-clause-named : goal.returns-clause-named
returns-clause-named c =
    let old = c.self.inside.positions.entries in
    let names = names_noted _ _ _ _ _ c.in_ok-noted.ensures.new c.in_ok-noted.ensures.rows in
    let few : length (positions_of old) + 1 < 2 ^ 32 = omega (arith, as_many old, c.if-len.false, c.len.ensures.value) in
    subst IsNamed (sym names) (named_with (positions_of old) c.args.p c.self.invariant c.note_rule.ensures few)
