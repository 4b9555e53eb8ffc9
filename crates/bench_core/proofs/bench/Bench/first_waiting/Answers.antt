use Rattle.std.proofs.Common.{◌≡◌, ap, ◌∙◌}
use Rattle.std.specs.Option.{option_map}
use Rattle.lease_table.specs.declared.leases.Row.{Row}
use Rattle.lease_table.specs.Rows.{first_unkept}
use Rattle.bench_core.specs.Cores.{Core}
use Rattle.bench_core.proofs.WaitingLemmas.{waits_first}
use Rattle.bench_core.proofs.bench.Bench.first_waiting.Goals as goal

pub returns : goal.returns
returns c =
    let b = c.self.inside in
    c.first_waiting.ensures
    ∙ (ap (option_map (λ (row : Row). row.lease.id)) (waits_first b.leases b.given)
    ∙ ap (λ (x : Core). option_map (λ (row : Row). row.lease.id) (first_unkept x.state.leases.rows)) c.self.view_is)
