use Rattle.std.proofs.Common.{◌∙◌}
use Rattle.lease_table.specs.Rows.{is_live_row}
use Rattle.lease_table.proofs.Standing.{rows_counted}
use Rattle.lease_table.proofs.table.Leases.live.Goals as goal

pub returns : goal.returns
returns c = rw (← c.self.view_is) (c.count_live.ensures ∙ rows_counted (is_live_row c.self.inside.limit c.args.now) c.self.inside.rows.entries)
