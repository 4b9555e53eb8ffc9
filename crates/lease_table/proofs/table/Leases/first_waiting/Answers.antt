use Rattle.std.proofs.Common.{◌∙◌, ap}
use Rattle.std.specs.Option.{option_map, option_flatten}
use Rattle.lease_table.specs.declared.leases.Row.{Row}
use Rattle.lease_table.specs.Rows.{is_waiting_row}
use Rattle.lease_table.proofs.Standing.{first_found}
use Rattle.lease_table.proofs.table.Leases.first_waiting.Goals as goal

pub returns-in-Some : goal.returns-in-Some
returns-in-Some c =
    rw (← c.self.view_is)
    (ap (option_map (λ (row : Row). row.lease.id)) (c.in-Some.ensures ∙ ap option_flatten (c.copied.ensures ∙ c.find_waiting-found.ensures) ∙ first_found (is_waiting_row c.self.inside.limit c.args.now) c.self.inside.rows.entries))

pub returns-in-None : goal.returns-in-None
returns-in-None c =
    rw (← c.self.view_is)
    (ap (option_map (λ (row : Row). row.lease.id)) (c.in-None.ensures ∙ ap option_flatten (c.copied.ensures ∙ c.find_waiting-found.ensures) ∙ first_found (is_waiting_row c.self.inside.limit c.args.now) c.self.inside.rows.entries))
