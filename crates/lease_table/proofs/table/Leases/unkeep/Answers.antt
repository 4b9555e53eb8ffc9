use Rattle.std.proofs.Common.{◌≡◌, ◌∙◌, ap, sym, List, false, Some}
use Rattle.lease_table.specs.declared.leases.Row.{Row}
use Rattle.lease_table.specs.Rows.{LeaseRows, row_with}
use Rattle.lease_table.specs.Tables.{rows_of}
use Rattle.lease_table.proofs.Marks.{IsMarkedTable, marked_call, marked_place}
use Rattle.lease_table.proofs.table.Leases.unkeep.Goals as goal
use Rattle.lease_table.proofs.table.Leases.unkeep.Goals.{After-put, In-Some}

row_found : (c : In-Some) → row_with c.args.id (rows_of c.self.inside.rows.entries) ≡ Some c.in-Some.row
row_found c =
    sym (c.in-Some.ensures ∙ ap (λ (t : LeaseRows). row_with c.number.result t.rows) (sym c.self.view_is)
    ∙ ap (λ k. row_with k (rows_of c.self.inside.rows.entries)) c.number.ensures)

row_marked : (c : After-put) → row_with c.args.id (rows_of c.self.inside.rows.entries) ≡ Some c.in-Some.row
    → IsMarkedTable c.args.id false c.self.inside.rows.entries c.put.new.rows.entries c.self.inside.numbers.items
row_marked c found =
    marked_call false c.args.id c.number-2.result c.self.inside.rows.entries c.put.new.rows.entries c.in-Some.row c.self.inside.numbers.items
    c.self.invariant found c.number-2.ensures c.put.ensures.unique c.put.ensures.entries

pub put-requires : goal.put-requires
put-requires c =
    marked_place c.args.id c.number-2.result c.self.inside.rows.entries c.in-Some.row c.self.inside.numbers.items c.self.invariant
    (row_found (goal.at.put-requires c).In-Some) c.number-2.ensures

pub invariant_of-self : goal.invariant_of-self
invariant_of-self c = (row_marked (goal.at.invariant_of-self c).After-put (row_found (goal.at.invariant_of-self c).In-Some)).table

pub returns : goal.returns
returns c =
    let Make : List Row → LeaseRows = λ rs. record { limit = c.self.inside.limit; rows = rs } in
    rw (← c.self.view_is) (ap Make (row_marked (goal.at.returns c).After-put (row_found (goal.at.returns c).In-Some)).rows)
