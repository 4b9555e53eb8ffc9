use Rattle.std.proofs.Common.{rules, ◌≡◌, ◌++◌, ◌∷◌, [], List, length, true, refl, ap, sym, ◌∙◌, subst}
use Rattle.std.specs.Prelude.{Ok, IfOk}
use Rattle.std.specs.List.{AllByRecursion as Each}
use Rattle.std.proofs.lemmas.List.{map-append}
use Rattle.lease_table.specs.declared.leases.Lease.{Lease}
use Rattle.bench_core.specs.Cores.{Core}
use Rattle.bench_core.specs.Results.{ResultState}
use Rattle.worker_gate.specs.declared.found.LeafFound.{LeafFound}
use Rattle.worker_gate.specs.Work.{is_value_told}
use Rattle.journal_runs.specs.FirstPass.{Applies, IsPassingWith, leases_found, leases_waiting}
use Rattle.journal_runs.proofs.FirstPassLemmas.{ungrown_same, ungrown_then}
use Rattle.journal_runs.proofs.FirstRuns.{TellsValue}
use Rattle.journal_runs.proofs.FirstStaging.{nil_of, on_ok, on_ok_map, so_far_first, so_far_staged, so_far_there, so_far_values, so_far_waits, told_more}
use Rattle.journal_runs.proofs.first_pass.record_values.Goals as goal

pub loop-result-init : goal.loop-result-init
loop-result-init g c = record {
  ungrown = ungrown_same _ _ refl;
  staged = λ rest h. (so_far_first c.args.session.now.core (leases_waiting c.args.waiting.now.items) (leases_found c.args.found.items) h.passing.sound h.none_staged h.rows_are, subst (Each TellsValue) (sym h.none_staged) tt);
}

pub loop-result-preserved-then-tells_value : goal.loop-result-preserved-then-tells_value
loop-result-preserved-then-tells_value g c =
    let leaf : LeafFound = c.in-Some.field-0 in
    let result : ResultState = leaf.result in
    let tells : leaf.tells_value ≡ true = search (rules, c.if-tells_value.true) in
    let told : is_value_told result.outcome ≡ true = sym leaf.value ∙ tells in
    let items : c.loop-result.found.items ≡ leaf ∷ c.pop_front.new.self.items = c.in-Some.ensures.items in
    let is : leases_found c.loop-result.found.items ≡ result.lease ∷ leases_found c.pop_front.new.self.items = ap leases_found items in
    let old : Core = c.args.session.now.core in
    let core : Core = c.loop-result.session.core in
    let new : Core = c.stage.new.session.core in
    let waiting = leases_waiting c.loop-result.waiting.items in
    let all = leases_found c.loop-result.found.items in
    let left = leases_found c.pop_front.new.self.items in
    let done : c.stage.result ≡ Ok c.in_ok-stage.field-0 = search (rules, c.in_ok-stage.was) in
    record {
      ungrown = ungrown_then _ _ _ c.loop-result.invariant.ungrown (c.stage.ensures.ungrown told);
      staged = λ rest h.
          let so = c.loop-result.invariant.staged rest h in
          let appended = on_ok _ c.stage.result c.in_ok-stage.field-0 done (c.stage.ensures.staged (so_far_there old core waiting all left result.lease so.0 is)) in (
            so_far_staged old core waiting all left result.lease so.0 is result.outcome new appended.enters.1,
            told_more core new result.lease result.outcome so.1 told appended.enters.1,
          );
    }

pub loop-result-preserved : goal.loop-result-preserved
loop-result-preserved g c =
    let leaf : LeafFound = c.in-Some.field-0 in
    let result : ResultState = leaf.result in
    let items : c.loop-result.found.items ≡ leaf ∷ c.pop_front.new.self.items = c.in-Some.ensures.items in
    let is : leases_found c.loop-result.found.items ≡ result.lease ∷ leases_found c.pop_front.new.self.items = ap leases_found items in
    let pushed : c.push_back_reserved.new.self.items ≡ c.loop-result.waiting.items ++ result ∷ [] =
    c.push_back_reserved.ensures.items ∙ ap (λ (rs : List ResultState). rs ++ result ∷ []) c.reserve.ensures.items in
    let more : leases_waiting c.push_back_reserved.new.self.items ≡ leases_waiting c.loop-result.waiting.items ++ result.lease ∷ [] =
    ap leases_waiting pushed ∙ map-append (λ (r : ResultState). r.lease) c.loop-result.waiting.items (result ∷ []) in
    record {
      ungrown = c.loop-result.invariant.ungrown;
      staged = λ rest h.
          let so = c.loop-result.invariant.staged rest h in (
            so_far_waits c.args.session.now.core c.loop-result.session.core (leases_waiting c.loop-result.waiting.items) (leases_found c.loop-result.found.items) (leases_found c.pop_front.new.self.items) result.lease so.0 is
                (leases_waiting c.push_back_reserved.new.self.items) more,
            so.1,
          );
    }

pub returns-clause-passes : goal.returns-clause-passes
returns-clause-passes g c = λ rest h.
    let so = c.loop-result.invariant.staged rest h in
    let long : length c.loop-result.found.items ≡ 0 = search (rules, c.in_default.ensures.cases) in
    let none : leases_found c.loop-result.found.items ≡ [] = ap leases_found (nil_of c.loop-result.found.items long) in
    on_ok_map (Applies c.loop-result.session.core c.commit.new.session.core) (IsPassingWith c.commit.new.session.core (leases_waiting c.loop-result.waiting.items) rest) c.commit.result
    (λ applies. so_far_values c.args.session.now.core c.loop-result.session.core c.commit.new.session.core (leases_waiting c.loop-result.waiting.items) (leases_found c.loop-result.found.items) rest h.passing so.0 none so.1 applies)
    c.commit.ensures.applies
