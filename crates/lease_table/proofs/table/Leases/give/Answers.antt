use Rattle.std.proofs.Common.{◌≡◌, ◌∙◌, ◌++◌, ◌∷◌, [], ap, sym, subst, refl, List, false, Some, None}
use Rattle.std.specs.Prelude.{eqb, slice_get, length}
use Rattle.std.specs.Map.{lookup}
use Rattle.std.proofs.lemmas.Option.{slice_get_read}
use Rattle.indexmap.proofs.CallerLemmas.{insert_entry-new}
use Rattle.lease_table.specs.declared.leases.Row.{Row}
use Rattle.lease_table.specs.Rows.{LeaseRows, row_with, without_node}
use Rattle.lease_table.specs.Tables.{Entry, rows_of, IsLeaseTable}
use Rattle.lease_table.proofs.ByNumber.{row_found}
use Rattle.lease_table.proofs.Giving.{roomy_rows, roomy_table, given_rows, given_table, freed, freed_absent, on_err}
use Rattle.lease_table.proofs.table.Leases.give.Goals as goal

pub make_room-requires-clause-none : goal.make_room-requires-clause-none
make_room-requires-clause-none c =
    let es = c.self.inside.rows.entries in
    sym (row_found c.args.now es c.self.invariant.unique c.self.invariant.keyed) ∙ subst (λ (t : LeaseRows). row_with c.args.now t.rows ≡ None) (sym c.self.view_is) c.requires.new

pub invariant_of-self : goal.invariant_of-self
invariant_of-self c =
    roomy_table c.self.inside.rows.entries c.make_room.new.rows.entries c.self.inside.numbers.items c.self.inside.numbers.items c.self.invariant c.make_room.ensures.unique c.make_room.ensures.entries (λ k n known. known)

pub returns-in_err-make_room-clause-err : goal.returns-in_err-make_room-clause-err
returns-in_err-make_room-clause-err c =
    let Make : List Row → LeaseRows = λ rs. record { limit = c.self.inside.limit; rows = rs } in
    rw (← c.self.view_is) (on_err _ c.from_residual.result (ap Make (roomy_rows c.self.inside.rows.entries c.make_room.new.rows.entries c.make_room.ensures.entries)))

pub invariant_of-self-in_err-reach : goal.invariant_of-self-in_err-reach
invariant_of-self-in_err-reach c =
    roomy_table c.self.inside.rows.entries c.make_room.new.rows.entries c.self.inside.numbers.items c.reach.new.numbers.items c.self.invariant c.make_room.ensures.unique c.make_room.ensures.entries c.reach.ensures.kept

pub returns-in_err-reach-clause-err : goal.returns-in_err-reach-clause-err
returns-in_err-reach-clause-err c =
    let Make : List Row → LeaseRows = λ rs. record { limit = c.self.inside.limit; rows = rs } in
    rw (← c.self.view_is) (on_err _ c.from_residual-in_err-reach.result (ap Make (roomy_rows c.self.inside.rows.entries c.make_room.new.rows.entries c.make_room.ensures.entries)))

pub invariant_of-self-2 : goal.invariant_of-self-2
invariant_of-self-2 c =
    let es = c.self.inside.rows.entries in
    let roomy = c.make_room.new.rows.entries in
    let numbers = c.reach.new.numbers.items in
    let node = c.args.lease.node in
    let now = c.args.now in
    let row : Row = record { lease = c.args.lease; kept = false } in
    let table : IsLeaseTable roomy numbers = roomy_table es roomy c.self.inside.numbers.items numbers c.self.invariant c.make_room.ensures.unique c.make_room.ensures.entries c.reach.ensures.kept in
    let last = c.index.result.now in
    let known : slice_get numbers node ≡ Some last = slice_get_read numbers (length numbers) node last refl c.in_ok-reach.ensures.there c.index.ensures in
    let left : c.end_last_of.new.rows.entries ≡ freed node last roomy = c.end_last_of.ensures.entries in
    let absent : lookup (eqb now) c.end_last_of.new.rows.entries ≡ None = ap (lookup (eqb now)) left ∙ freed_absent node last now roomy c.make_room.ensures.absent in
    let same : c.insert.new.self.entries ≡ freed node last roomy ++ (now, Some row) ∷ [] =
    c.in-Ok.ensures.entries ∙ insert_entry-new eqb c.end_last_of.new.rows now (Some row) absent ∙ ap (λ (l : List Entry). l ++ (now, Some row) ∷ []) left in
    given_table node last now row roomy c.insert.new.self.entries numbers table known c.in-Ok.ensures.unique c.requires.number refl same

pub returns-clause-ok : goal.returns-clause-ok
returns-clause-ok c =
    let es = c.self.inside.rows.entries in
    let roomy = c.make_room.new.rows.entries in
    let numbers = c.reach.new.numbers.items in
    let node = c.args.lease.node in
    let now = c.args.now in
    let row : Row = record { lease = c.args.lease; kept = false } in
    let table : IsLeaseTable roomy numbers = roomy_table es roomy c.self.inside.numbers.items numbers c.self.invariant c.make_room.ensures.unique c.make_room.ensures.entries c.reach.ensures.kept in
    let last = c.index.result.now in
    let known : slice_get numbers node ≡ Some last = slice_get_read numbers (length numbers) node last refl c.in_ok-reach.ensures.there c.index.ensures in
    let left : c.end_last_of.new.rows.entries ≡ freed node last roomy = c.end_last_of.ensures.entries in
    let absent : lookup (eqb now) c.end_last_of.new.rows.entries ≡ None = ap (lookup (eqb now)) left ∙ freed_absent node last now roomy c.make_room.ensures.absent in
    let same : c.insert.new.self.entries ≡ freed node last roomy ++ (now, Some row) ∷ [] =
    c.in-Ok.ensures.entries ∙ insert_entry-new eqb c.end_last_of.new.rows now (Some row) absent ∙ ap (λ (l : List Entry). l ++ (now, Some row) ∷ []) left in
    let rows : rows_of c.insert.new.self.entries ≡ without_node node (rows_of es) ++ row ∷ [] =
    given_rows node last now row roomy c.insert.new.self.entries numbers table known same ∙ ap (λ (rs : List Row). without_node node rs ++ row ∷ []) (roomy_rows es roomy c.make_room.ensures.entries) in
    let Make : List Row → LeaseRows = λ rs. record { limit = c.self.inside.limit; rows = rs } in
    rw (← c.self.view_is) (ap Make rows)
