use Rattle.std.proofs.Common.{rules, ◌≡◌, ◌∷◌, [], length, ap}
use Rattle.std.specs.Prelude.{Ok}
use Rattle.bench_core.specs.Cores.{Core}
use Rattle.bench_core.specs.Results.{ResultState}
use Rattle.tree_manager.proofs.TurnLemmas.{grows_then}
use Rattle.journal_runs.specs.FirstPass.{Applies, IsSearched, leases_waiting}
use Rattle.journal_runs.proofs.FirstStaging.{nil_of, on_ok, on_ok_map, so_far_all, so_far_staged, so_far_there}
use Rattle.journal_runs.proofs.first_pass.record_rest.Goals as goal

pub loop-result-preserved : goal.loop-result-preserved
loop-result-preserved g c =
    let result : ResultState = c.in-Some.result in
    let items : c.loop-result.waiting.items ≡ result ∷ c.pop_front.new.self.items = c.in-Some.ensures.items in
    let is : leases_waiting c.loop-result.waiting.items ≡ result.lease ∷ leases_waiting c.pop_front.new.self.items = ap leases_waiting items in
    let old : Core = c.args.session.now.core in
    let core : Core = c.loop-result.session.core in
    let all = leases_waiting c.loop-result.waiting.items in
    let left = leases_waiting c.pop_front.new.self.items in
    let done : c.stage.result ≡ Ok c.in_ok-stage.field-0 = search (rules, c.in_ok-stage.was) in
    record {
      grows = grows_then _ _ _ c.loop-result.invariant.grows c.stage.ensures.grows;
      staged = λ h.
          let so = c.loop-result.invariant.staged h in
          let appended = on_ok _ c.stage.result c.in_ok-stage.field-0 done (c.stage.ensures.staged (so_far_there old core [] all left result.lease so is)) in
          so_far_staged old core [] all left result.lease so is result.outcome c.stage.new.session.core appended.enters.1;
    }

pub returns-clause-searched : goal.returns-clause-searched
returns-clause-searched g c = λ h.
    let so = c.loop-result.invariant.staged h in
    let long : length c.loop-result.waiting.items ≡ 0 = search (rules, c.in_default.ensures.cases) in
    let none : leases_waiting c.loop-result.waiting.items ≡ [] = ap leases_waiting (nil_of c.loop-result.waiting.items long) in
    on_ok_map (Applies c.loop-result.session.core c.commit.new.session.core) (IsSearched c.commit.new.session.core) c.commit.result
    (λ applies. so_far_all c.args.session.now.core c.loop-result.session.core c.commit.new.session.core (leases_waiting c.loop-result.waiting.items) so none h.all applies)
    c.commit.ensures.applies
