use Rattle.std.proofs.Common.{◌≡◌, ap, sym, ◌∙◌, subst, Option, ⊎_elim}
use Rattle.std.specs.Prelude.{true, false, Some, IsTrue, Contains, ◌↔◌}
use Rattle.std.proofs.lemmas.Bool.{false≢true, true≢false}
use Rattle.lease_table.specs.declared.leases.Lease.{Lease}
use Rattle.bench_core.specs.Answers.{unkept}
use Rattle.bench_core.specs.Cores.{Core}
use Rattle.bench_core.proofs.OpenLeases.{looked_up, not_dead, not_kept, stands}
use Rattle.bench_core.proofs.bench.Bench.is_open.Goals as goal

pub returns-in-None : goal.returns-in-None
returns-in-None c =
    let b = c.self.inside in
    subst (λ (x : Core). IsTrue false ↔ Contains x.state.leases.rows (unkept c.args.lease.now)) c.self.view_is (
      (λ t. absurd (false≢true t)),
      (λ there. ⊎_elim
          (λ dead. absurd (not_dead b.leases b.given c.args.lease.now c.self.invariant.bench.apart there dead))
          (λ kept. absurd (true≢false (sym kept ∙ not_kept b.leases b.given c.args.lease.now c.self.invariant.bench.apart there)))
          c.in-None.ensures.none),
    )

pub returns-in-Some : goal.returns-in-Some
returns-in-Some c =
    let b = c.self.inside in
    let found = c.in-Some.ensures.lease in
    let waits = c.in-Some.ensures.waits in
    subst (λ (x : Core). IsTrue c.is_same_lease.result ↔ Contains x.state.leases.rows (unkept c.args.lease.now)) c.self.view_is (
      (λ t.
          let same : c.in-Some.waiting ≡ c.args.lease.now = c.is_same_lease.ensures.0 t in
          stands b.leases b.given c.args.lease.now c.self.invariant.bench.apart (found ∙ ap Some same) waits.0 waits.1),
      (λ there.
          let both : Some c.in-Some.waiting ≡ Some c.args.lease.now = sym found ∙ looked_up b.leases b.given c.args.lease.now c.self.invariant.bench.apart there in
          let same : c.in-Some.waiting ≡ c.args.lease.now = cc in
          c.is_same_lease.ensures.1 same),
    )
