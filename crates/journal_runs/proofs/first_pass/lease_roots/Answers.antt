use Rattle.std.proofs.Common.{rules, ◌≡◌, ◌≤◌, ◌<◌, ◌++◌, ◌∷◌, [], ℕ, List, All, length, ap, sym, ◌∙◌, subst, arith, length-append}
use Rattle.std.specs.Prelude.{IfNone, IfSome, None, Ok, Option, Some}
use Rattle.lease_table.specs.declared.leases.Lease.{Lease}
use Rattle.bench_core.specs.Cores.{Core}
use Rattle.tree_manager.specs.Sessions.{SessionState}
use Rattle.tree_manager.specs.Turns.{AsksForSearch}
use Rattle.worker_gate.proofs.SearchingLemmas.{one_more_asks}
use Rattle.journal_runs.specs.FirstPass.{IsAllLeased, IsPassingWith, LeasesNext}
use Rattle.journal_runs.proofs.FirstLeases.{all_when_none, passes_one}
use Rattle.journal_runs.proofs.FirstPassLemmas.{asks_still, by_turns, ungrown_then}
use Rattle.journal_runs.proofs.FirstStaging.{if_ok_at}
use Rattle.journal_runs.proofs.first_pass.lease_roots.Goals as goal
use Rattle.journal_runs.proofs.first_pass.lease_roots.Goals.{else-loop-roots-test, then-loop-roots-test+else-is_err+in_ok-root+in-None}

pub loop-roots-preserved : goal.loop-roots-preserved
loop-roots-preserved g c =
    let root = c.in-Some.root in
    let now = c.lease_root.new.session.line in
    let items : c.push_reserved.new.self.items ≡ c.loop-roots.roots.items ++ root ∷ [] = c.push_reserved.ensures.items ∙ ap (λ (roots : List Lease). roots ++ root ∷ []) c.reserve.ensures.items in
    let asks : AsksForSearch now root = subst (λ (o : Option Lease). IfSome o (AsksForSearch now)) c.in-Some.is c.in_ok-root.ensures.lease in
    let more = ap length items in
    let one = length-append c.loop-roots.roots.items (root ∷ []) in
    let full = c.loop-roots.roots.ok.0 in
    let below : length c.loop-roots.roots.items < c.args.most = omega (arith, full, c.len.ensures, c.loop-roots-test.true) in
    let done : c.lease_root.result ≡ Ok c.in_ok-root.field-0 = search (rules, c.in_ok-root.was) in
    record {
      ungrown = ungrown_then _ _ _ c.loop-roots.invariant.ungrown c.lease_root.ensures.ungrown;
      leases = one_more_asks c.loop-roots.session.line now c.loop-roots.roots.items _ root (by_turns _ _ c.lease_root.ensures.ungrown) c.loop-roots.invariant.leases asks items;
      few = omega (arith, more, one, full, c.len.ensures, c.loop-roots-test.true);
      passes = λ leased rest within h.
          passes_one c.loop-roots.session.core c.lease_root.new.session.core leased c.loop-roots.roots.items c.push_reserved.new.self.items rest c.args.most root c.in_ok-root.field-0
          (c.loop-roots.invariant.passes leased rest within h) below within
          (λ left k. if_ok_at (LeasesNext c.lease_root.new.session.core (leased ++ c.loop-roots.roots.items) left) c.lease_root.result c.in_ok-root.field-0 done (c.lease_root.ensures.next (leased ++ c.loop-roots.roots.items) left k))
          c.in-Some.is items;
    }

pub returns-clause-leases : goal.returns-clause-leases
returns-clause-leases g c = elim c.loop-roots-test.branch [
  | else-loop-roots-test w ↦ rw (w.session-is, w.roots-is) c.loop-roots.invariant.leases
  | then-loop-roots-test+else-is_err+in_ok-root+in-None w ↦ rw (w.session-is, w.roots-is)
      (subst (λ (roots : List Lease). All (AsksForSearch w.lease_root.new.session.line) roots) (sym w.reserve.ensures.items)
      (asks_still _ _ _ w.lease_root.ensures.ungrown c.loop-roots.invariant.leases))
]

pub returns-clause-passes : goal.returns-clause-passes
returns-clause-passes g c = elim c.loop-roots-test.branch [
  | else-loop-roots-test w ↦ rw (w.session-is, w.roots-is) c.loop-roots.invariant.passes
  | then-loop-roots-test+else-is_err+in_ok-root+in-None w ↦ rw (w.session-is, w.roots-is)
      (λ leased rest within h.
      let same : w.lease_root.new.session ≡ c.loop-roots.session = subst (λ (o : Option Lease). IfNone o (w.lease_root.new.session ≡ c.loop-roots.session)) w.in-None.is w.in_ok-root.ensures.unchanged in
      rw w.reserve.ensures.items
      (subst (λ (s : SessionState g.row.D.Denot). IsPassingWith s.core (leased ++ c.loop-roots.roots.items) _) (sym same) (c.loop-roots.invariant.passes leased rest within h)))
]

pub returns-clause-all : goal.returns-clause-all
returns-clause-all g c = elim c.loop-roots-test.branch [
  | else-loop-roots-test w ↦ rw (w.session-is, w.roots-is)
      (λ leased rest some within h none.
      let count : length c.loop-roots.roots.items ≡ 0 = ap length none in
      let full = c.loop-roots.roots.ok.0 in
      absurd (omega (arith, count, full, c.len.ensures, w.loop-roots-test.false, some)))
  | then-loop-roots-test+else-is_err+in_ok-root+in-None w ↦ rw (w.session-is, w.roots-is)
      (λ leased rest some within h none.
      let done : w.lease_root.result ≡ Ok w.in_ok-root.field-0 = search (rules, w.in_ok-root.was) in
      all_when_none c.loop-roots.session.core w.lease_root.new.session.core leased c.loop-roots.roots.items rest c.args.most w.in_ok-root.field-0
      (c.loop-roots.invariant.passes leased rest within h) some within
      (λ left k. if_ok_at (LeasesNext w.lease_root.new.session.core (leased ++ c.loop-roots.roots.items) left) w.lease_root.result w.in_ok-root.field-0 done (w.lease_root.ensures.next (leased ++ c.loop-roots.roots.items) left k))
      w.in-None.is (sym w.reserve.ensures.items ∙ none))
]
