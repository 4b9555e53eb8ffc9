use Rattle.std.proofs.Common.{◌≡◌, ◌∙◌, ap, sym, subst, List, true, false, None}
use Rattle.std.specs.Prelude.{eqb, is_some}
use Rattle.std.specs.Map.{lookup}
use Rattle.std.specs.Option.{option_map_or}
use Rattle.indexmap.specs.IndexMap.{insert_entry}
use Rattle.lease_table.specs.declared.leases.Row.{Row}
use Rattle.lease_table.specs.Rows.{LeaseRows, is_live_row, row_with, without}
use Rattle.lease_table.specs.Tables.{rows_of}
use Rattle.lease_table.proofs.Marks.{ended_is, ended_table}
use Rattle.lease_table.proofs.Giving.{live_stands}
use Rattle.lease_table.proofs.table.Leases.end.Goals as goal

pub put-requires : goal.put-requires
put-requires c =
    let es = c.self.inside.rows.entries in
    let live = subst (λ (t : LeaseRows). option_map_or (is_live_row t.limit c.args.now) (row_with c.args.id t.rows) false ≡ true) (sym c.self.view_is) (sym c.is_live.ensures ∙ c.if-not-is_live.false) in
    ap (λ k. is_some (lookup (eqb k) es)) c.number.ensures ∙ live_stands (is_live_row c.self.inside.limit c.args.now) c.args.id es c.self.invariant.unique c.self.invariant.keyed live

pub invariant_of-self : goal.invariant_of-self
invariant_of-self c =
    let es = c.self.inside.rows.entries in
    let same : c.put.new.rows.entries ≡ insert_entry eqb es c.args.id None = c.put.ensures.entries ∙ ap (λ k. insert_entry eqb es k None) c.number.ensures in
    ended_table c.args.id es c.put.new.rows.entries c.self.inside.numbers.items c.self.invariant c.put.ensures.unique same

pub returns-clause-ok : goal.returns-clause-ok
returns-clause-ok c =
    let es = c.self.inside.rows.entries in
    let same : c.put.new.rows.entries ≡ insert_entry eqb es c.args.id None = c.put.ensures.entries ∙ ap (λ k. insert_entry eqb es k None) c.number.ensures in
    let rows : rows_of c.put.new.rows.entries ≡ without c.args.id (rows_of es) = ap rows_of same ∙ ended_is c.args.id es c.self.invariant.unique c.self.invariant.keyed in
    let Make : List Row → LeaseRows = λ rs. record { limit = c.self.inside.limit; rows = rs } in
    rw (← c.self.view_is) (ap Make rows)
