use Rattle.std.proofs.Common.{◌∙◌, ap, sym}
use Rattle.std.specs.Prelude.{eqb}
use Rattle.std.specs.Map.{lookup}
use Rattle.std.specs.Option.{option_flatten}
use Rattle.lease_table.proofs.ByNumber.{row_found}
use Rattle.lease_table.proofs.table.Leases.numbered.Goals as goal

pub returns-then-found-number : goal.returns-then-found-number
returns-then-found-number c =
    let es = c.self.inside.rows.entries in
    rw (← c.self.view_is)
    (ap option_flatten (sym c.in-Some-get_index.ensures.value ∙ ap (λ k. lookup (eqb k) es) c.if-found-number.true)
    ∙ sym (row_found c.args.number es c.self.invariant.unique c.self.invariant.keyed))

pub returns-in-Some-get : goal.returns-in-Some-get
returns-in-Some-get c =
    rw (← c.self.view_is)
    (ap option_flatten c.in-Some-get.ensures.value ∙ sym (row_found c.args.number c.self.inside.rows.entries c.self.invariant.unique c.self.invariant.keyed))

pub returns-in-None : goal.returns-in-None
returns-in-None c =
    rw (← c.self.view_is)
    (ap option_flatten c.in-None.ensures.value ∙ sym (row_found c.args.number c.self.inside.rows.entries c.self.invariant.unique c.self.invariant.keyed))
