use Rattle.std.proofs.Common.{◌≡◌, refl, ap, sym, ◌∙◌, subst}
use Rattle.std.specs.Prelude.{false}
use Rattle.lease_table.specs.Rows.{LeaseRows, without}
use Rattle.bench_core.specs.States.{HasRow, with_lease_rows}
use Rattle.bench_core.specs.Cores.{Core}
use Rattle.bench_core.specs.Benches.{seen, IsBench}
use Rattle.bench_core.proofs.BenchLemmas.{bench_released, released_is, can_release, no_release_of_dead, no_release_of_kept}
use Rattle.bench_core.proofs.bench.Bench.release.Goals as goal

pub returns-then-not-is_live-clause-stale : goal.returns-then-not-is_live-clause-stale
returns-then-not-is_live-clause-stale c =
    let b = c.self.inside in (
      refl,
      subst (λ (x : Core). ¬ HasRow (λ row. row.kept ≡ false) x.state c.args.id) c.self.view_is
          (no_release_of_dead b.grown b.leases b.staged.items b.given b.work b.nodes_due b.settings c.args.id c.self.invariant.bench (sym c.if-not-is_live.ensures)),
    )

pub returns-then-is_kept-clause-stale : goal.returns-then-is_kept-clause-stale
returns-then-is_kept-clause-stale c =
    let b = c.self.inside in (
      refl,
      subst (λ (x : Core). ¬ HasRow (λ row. row.kept ≡ false) x.state c.args.id) c.self.view_is
          (no_release_of_kept b.grown b.leases b.staged.items b.given b.work b.nodes_due b.settings c.args.id c.self.invariant.bench (sym c.if-is_kept.ensures)),
    )

pub invariant_of-self : goal.invariant_of-self
invariant_of-self c =
    let b = c.self.inside in
    let can = can_release b.grown b.leases b.staged.items b.given b.work b.nodes_due b.settings c.args.id (sym c.if-not-is_live.ensures) (sym c.if-is_kept.ensures) in
    record {
      bench = subst (λ (t : LeaseRows). IsBench (seen b.grown t b.staged.items b.given b.work b.settings) b.grown t b.staged.items b.nodes_due) (sym c.end.ensures)
          (bench_released b.grown b.leases b.staged.items b.given b.work b.nodes_due b.settings c.args.id can c.self.invariant.bench);
      names = c.self.invariant.names;
    }

pub returns-clause-row : goal.returns-clause-row
returns-clause-row c =
    let b = c.self.inside in
    subst (λ (x : Core). HasRow (λ row. row.kept ≡ false) x.state c.args.id) c.self.view_is
    (can_release b.grown b.leases b.staged.items b.given b.work b.nodes_due b.settings c.args.id (sym c.if-not-is_live.ensures) (sym c.if-is_kept.ensures))

pub returns-clause-event : goal.returns-clause-event
returns-clause-event c =
    let b = c.self.inside in
    ap (λ (t : LeaseRows). seen b.grown t b.staged.items b.given b.work b.settings) c.end.ensures
    ∙ (released_is b.grown b.leases b.staged.items b.given b.work b.nodes_due b.settings c.args.id
    ∙ ap (λ (x : Core). record x { state = with_lease_rows x.state (without c.args.id x.state.leases.rows) }) c.self.view_is)
