use Rattle.std.proofs.Common.{◌≡◌, ◌∙◌, ap, sym, refl, true, false, Some, None}
use Rattle.std.specs.Prelude.{◌&&◌, slice_get, length}
use Rattle.std.proofs.lemmas.Bool.{eq-eqb, ne_eqb}
use Rattle.std.proofs.lemmas.Option.{slice_get_read, slice_get_past}
use Rattle.lease_table.specs.Rows.{LeaseRows, is_live_row, is_of, row_with}
use Rattle.lease_table.specs.Tables.{rows_of}
use Rattle.lease_table.proofs.ByNumber.{ids_distinct}
use Rattle.lease_table.proofs.ByNode.{leased_is, noted_lives, node_lives}
use Rattle.lease_table.proofs.table.Leases.leased.Goals as goal

pub returns-in_default : goal.returns-in_default
returns-in_default c =
    let es = c.self.inside.rows.entries in
    let numbers = c.self.inside.numbers.items in
    rw (← c.self.view_is)
    (ap (noted_lives c.self.inside.limit c.args.now c.args.node (rows_of es)) (sym (slice_get_past c.deref.result.now c.args.node c.in_default.ensures.lookup.3) ∙ ap (λ l. slice_get l c.args.node) c.deref.ensures.value)
    ∙ sym (leased_is c.self.inside.limit c.args.now c.args.node numbers (rows_of es) (ids_distinct es c.self.invariant.unique c.self.invariant.keyed) c.self.invariant.noted))

pub returns-in-None : goal.returns-in-None
returns-in-None c =
    let es = c.self.inside.rows.entries in
    let numbers = c.self.inside.numbers.items in
    let none : None ≡ row_with c.in-Some.number.now (rows_of es) = c.in-None.ensures ∙ ap (λ (t : LeaseRows). row_with c.in-Some.number.now t.rows) (sym c.self.view_is) in
    rw (← c.self.view_is)
    (ap (node_lives c.self.inside.limit c.args.now c.args.node) none
    ∙ ap (noted_lives c.self.inside.limit c.args.now c.args.node (rows_of es)) (sym (slice_get_read c.deref.result.now (length c.deref.result.now) c.args.node c.in-Some.number.now refl c.in-Some.ensures.lookup.3.0 c.in-Some.ensures.lookup.1)
    ∙ ap (λ l. slice_get l c.args.node) c.deref.ensures.value)
    ∙ sym (leased_is c.self.inside.limit c.args.now c.args.node numbers (rows_of es) (ids_distinct es c.self.invariant.unique c.self.invariant.keyed) c.self.invariant.noted))

pub returns-then-node-row : goal.returns-then-node-row
returns-then-node-row c =
    let es = c.self.inside.rows.entries in
    let numbers = c.self.inside.numbers.items in
    let row = c.in-Some-numbered.row in
    let own : is_of c.args.node row ≡ true = eq-eqb c.args.node row.lease.node c.if-node-row.true in
    let found : Some row ≡ row_with c.in-Some.number.now (rows_of es) = c.in-Some-numbered.ensures ∙ ap (λ (t : LeaseRows). row_with c.in-Some.number.now t.rows) (sym c.self.view_is) in
    rw (← c.self.view_is)
    (c.is_live.ensures ∙ ap (λ b. b && is_live_row c.self.inside.limit c.args.now row) (sym own)
    ∙ ap (node_lives c.self.inside.limit c.args.now c.args.node) found
    ∙ ap (noted_lives c.self.inside.limit c.args.now c.args.node (rows_of es)) (sym (slice_get_read c.deref.result.now (length c.deref.result.now) c.args.node c.in-Some.number.now refl c.in-Some.ensures.lookup.3.0 c.in-Some.ensures.lookup.1)
    ∙ ap (λ l. slice_get l c.args.node) c.deref.ensures.value)
    ∙ sym (leased_is c.self.inside.limit c.args.now c.args.node numbers (rows_of es) (ids_distinct es c.self.invariant.unique c.self.invariant.keyed) c.self.invariant.noted))

pub returns-else-node-row : goal.returns-else-node-row
returns-else-node-row c =
    let es = c.self.inside.rows.entries in
    let numbers = c.self.inside.numbers.items in
    let row = c.in-Some-numbered.row in
    let other : is_of c.args.node row ≡ false = ne_eqb c.args.node row.lease.node c.if-node-row.false in
    let found : Some row ≡ row_with c.in-Some.number.now (rows_of es) = c.in-Some-numbered.ensures ∙ ap (λ (t : LeaseRows). row_with c.in-Some.number.now t.rows) (sym c.self.view_is) in
    rw (← c.self.view_is)
    (other ∙ ap (λ b. b && is_live_row c.self.inside.limit c.args.now row) (sym other)
    ∙ ap (node_lives c.self.inside.limit c.args.now c.args.node) found
    ∙ ap (noted_lives c.self.inside.limit c.args.now c.args.node (rows_of es)) (sym (slice_get_read c.deref.result.now (length c.deref.result.now) c.args.node c.in-Some.number.now refl c.in-Some.ensures.lookup.3.0 c.in-Some.ensures.lookup.1)
    ∙ ap (λ l. slice_get l c.args.node) c.deref.ensures.value)
    ∙ sym (leased_is c.self.inside.limit c.args.now c.args.node numbers (rows_of es) (ids_distinct es c.self.invariant.unique c.self.invariant.keyed) c.self.invariant.noted))
