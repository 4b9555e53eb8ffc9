use Rattle.std.proofs.Common.{◌-◌, min, ap, ◌∙◌}
use Rattle.std.specs.Prelude.{count_by}
use Rattle.bench_core.specs.Records.{is_work}
use Rattle.bench_core.specs.Cores.{Core, with_budget}
use Rattle.bench_core.specs.Benches.{seen}
use Rattle.bench_core.proofs.StageLemmas.{bench_budget}
use Rattle.bench_core.proofs.bench.Bench.start_session.Goals as goal

pub invariant_of-self : goal.invariant_of-self
invariant_of-self c =
    let b = c.self.inside in
    record {
      bench = bench_budget (seen b.grown b.leases b.staged.items b.given b.work b.settings) b.grown b.leases b.staged.items b.nodes_due c.min.result c.self.invariant.bench;
      names = c.self.invariant.names;
    }

pub returns : goal.returns
returns c =
    let b = c.self.inside in
    let left = c.min.ensures ∙ ap (λ n. min b.settings.budget n) (c.saturating_sub-left.ensures ∙ ap (λ n. 1000000 - n) c.work_records-replayed.ensures) in
    ap (λ n. with_budget n (seen b.grown b.leases b.staged.items b.given b.work b.settings)) left
    ∙ ap (λ (x : Core). with_budget (min x.state.settings.budget (1000000 - count_by is_work x.records)) x) c.self.view_is
