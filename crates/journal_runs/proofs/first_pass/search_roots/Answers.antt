use Rattle.std.proofs.Common.{rules, ◌≡◌, ◌≤◌, ◌-◌, ◌++◌, [], List, All, length, sym, ◌∙◌, subst, arith}
use Rattle.std.specs.Prelude.{Ok}
use Rattle.std.proofs.lemmas.Bool.Decides.{nat_tests}
use Rattle.lease_table.specs.declared.leases.Lease.{Lease}
use Rattle.bench_core.specs.Cores.{Core}
use Rattle.worker_gate.specs.Work.{CanSearchLeaf}
use Rattle.worker_gate.proofs.SearchingLemmas.{can_search_on, leaves_can_be}
use Rattle.journal_runs.specs.FirstPass.{IsAllLeased, IsPassingWith, leases_found, leases_waiting}
use Rattle.journal_runs.proofs.FirstLeases.{all_given}
use Rattle.journal_runs.proofs.FirstPassLemmas.{by_turns, ungrown_then}
use Rattle.journal_runs.proofs.FirstStaging.{nil_of, on_ok}
use Rattle.journal_runs.proofs.first_pass.search_roots.Goals as goal
use Rattle.journal_runs.proofs.first_pass.search_roots.Goals.{else-loop-left-test, then-loop-left-test+in_ok-roots+then-is_empty}

pub search_together-requires-after_bounds : goal.search_together-requires-after_bounds
search_together-requires-after_bounds g c κs within =
    let can = can_search_on _ _ _ c.requires (by_turns _ _ (ungrown_then _ _ _ c.loop-left.invariant.ungrown c.lease_roots.ensures.ungrown)) in
    subst (λ (leases : List Lease). All (CanSearchLeaf (g.O.Oracle.piece_limit c.args.oracle.now)) leases) (sym c.deref.ensures.value) (leaves_can_be _ _ _ can c.in_ok-roots.ensures.leases)

pub returns-in_err-record_values-clause-ungrown : goal.returns-in_err-record_values-clause-ungrown
returns-in_err-record_values-clause-ungrown g c =
    ungrown_then _ _ _ c.loop-left.invariant.ungrown (ungrown_then _ _ _ c.lease_roots.ensures.ungrown c.record_values.ensures.ungrown)

pub loop-left-preserved : goal.loop-left-preserved
loop-left-preserved g c =
    let roots : List Lease = c.in_ok-roots.roots.items in
    let waiting = leases_waiting c.loop-left.waiting.items in
    let left = c.loop-left.left in
    let core : Core = c.lease_roots.new.session.core in
    let within : c.min.result ≤ left = omega (arith, c.min.ensures) in
    let done : c.lease_roots.result ≡ Ok c.in_ok-roots.roots = search (rules, c.in_ok-roots.was) in
    let done_values : c.record_values.result ≡ Ok c.in_ok-record_values.field-0 = search (rules, c.in_ok-record_values.was) in
    let leases : leases_found c.in-Ok.found.items ≡ roots = c.in-Ok.ensures.each ∙ c.deref.ensures.value in
    let whole = c.in_ok-roots.roots.ok.0 in
    let count : left - length roots ≡ left - c.len-left.result = omega (arith, whole, c.len-left.ensures) in
    record {
      ungrown = ungrown_then _ _ _ c.loop-left.invariant.ungrown (ungrown_then _ _ _ c.lease_roots.ensures.ungrown c.record_values.ensures.ungrown);
      passes = λ h.
          let leased : IsPassingWith core (waiting ++ roots) (left - length roots) = rw done at (c.lease_roots.ensures.passes waiting left within (c.loop-left.invariant.passes h)) in
          let found : IsPassingWith core (waiting ++ leases_found c.in-Ok.found.items) (left - length roots) = subst (λ (ls : List Lease). IsPassingWith core (waiting ++ ls) (left - length roots)) (sym leases) leased in
          subst (IsPassingWith c.record_values.new.session.core (leases_waiting c.record_values.new.waiting.items)) count
          (on_ok _ c.record_values.result c.in_ok-record_values.field-0 done_values (c.record_values.ensures.passes (left - length roots) found));
    }

pub returns-clause-all : goal.returns-clause-all
returns-clause-all g c =
    let waiting = leases_waiting c.loop-left.waiting.items in
    let left = c.loop-left.left in
    elim c.loop-left-test.branch [
      | else-loop-left-test w ↦ rw w.session-is
          (λ h.
          let over : left ≡ 0 = omega (arith, w.loop-left-test.false) in
          all_given c.loop-left.session.core waiting (subst (IsPassingWith c.loop-left.session.core waiting) over (c.loop-left.invariant.passes h)))
      | then-loop-left-test+in_ok-roots+then-is_empty w ↦ rw w.session-is
          (λ h.
          let done : w.lease_roots.result ≡ Ok w.in_ok-roots.roots = search (rules, w.in_ok-roots.was) in
          let within : w.min.result ≤ left = omega (arith, w.min.ensures) in
          let some : 1 ≤ w.min.result = omega (arith, w.min.ensures, w.loop-left-test.true, c.max-most_together.ensures) in
          let long : length w.in_ok-roots.roots.items ≡ 0 = grind (arith, nat_tests, w.is_empty.ensures, w.if-is_empty.true, w.in_ok-roots.roots.ok.0) in
          let all : w.in_ok-roots.roots.items ≡ [] → IsAllLeased w.lease_roots.new.session.core waiting = rw done at (w.lease_roots.ensures.all waiting left some within (c.loop-left.invariant.passes h)) in
          all (nil_of w.in_ok-roots.roots.items long))
    ]
