use Rattle.std.proofs.Common.{rules, ◌≡◌, ◌≤◌, ◌<◌, ◌++◌, [], length, sym, ap, ◌∙◌, subst, arith, true, false}
use Rattle.bench_records.specs.declared.records.BenchRecord.{BenchRecord}
use Rattle.bench_records.specs.Texts.{IsText}
use Rattle.bench_core.specs.Records.{begun}
use Rattle.bench_core.specs.Cores.{Core, IsForgotten, record_of}
use Rattle.tree_manager.specs.Keeping.{most_entries}
use Rattle.tree_manager.proofs.ForgetLemmas.{forgotten_back}
use Rattle.tree_manager.proofs.KeptLemmas.{line_put}
use Rattle.tree_manager.proofs.RootlessLemmas.{result_rootless}
use Rattle.tree_manager.proofs.CallLemmas.{appends_from, keeps_back, kept_result, outcome_result, seen_back, text_some}
use Rattle.tree_manager.specs.Histories.{IsHistory}
use Rattle.tree_manager.specs.Lines.{is_failed, EndsBroken}
use Rattle.tree_manager.specs.Sessions.{SessionState}
use Rattle.std.specs.Prelude.{Ok, Err, Contains}
use Rattle.bench_core.specs.Answers.{unkept}
use Rattle.tree_manager.specs.Weaving.{woven}
use Rattle.tree_manager.specs.declared.refusals.StageRefusal.TheVariants as stage
use Rattle.tree_manager.proofs.TurnLemmas.{stage_turn, stages_grow}
use Rattle.tree_manager.proofs.session.Session.stage_result.Goals as goal

pub stage-requires-clause-some : goal.stage-requires-clause-some
stage-requires-clause-some g c =
    let text : c.deref.result.now ≡ c.in_ok-text.text.items = c.deref.ensures.value in
    subst (λ t. 0 < length t) (sym text) (text_some c.self.inside.bench.state.settings.pieces (c.self.inside.bench.records ++ c.self.inside.bench.staged) (record_of c.args.found.lease c.args.found.outcome) c.in_ok-text.text.items c.in_ok-text.ensures.text)

pub invariant_of-self-in-Err : goal.invariant_of-self-in-Err
invariant_of-self-in-Err g c =
    let core : Core = c.self.inside.bench in
    let r : BenchRecord = record_of c.args.found.lease c.args.found.outcome in
    let back : c.forget_ready.new.self ≡ core = forgotten_back _ core c.forget_ready.new.self r c.self.invariant.within.history c.in_ok-text.ensures.may (subst (λ x. IsForgotten x c.forget_ready.new.self) c.in_ok-text.ensures.staged c.forget_ready.ensures) in
    record {
      within = keeps_back g.D.Disk c.self.inside.marks most_entries c.self.inside.due core c.forget_ready.new.self c.self.inside.journal c.stage.new.self back c.in-Err.ensures.err c.self.invariant.within;
      rootless = λ whole. rw back (c.self.invariant.rootless (sym c.self.invariant.within.failed ∙ cc (c.if-is_failed.false, c.is_failed.ensures)));
    }

pub returns-in-Err-clause-unchanged : goal.returns-in-Err-clause-unchanged
returns-in-Err-clause-unchanged g c =
    let core : Core = c.self.inside.bench in
    let r : BenchRecord = record_of c.args.found.lease c.args.found.outcome in
    let back : c.forget_ready.new.self ≡ core = forgotten_back _ core c.forget_ready.new.self r c.self.invariant.within.history c.in_ok-text.ensures.may (subst (λ x. IsForgotten x c.forget_ready.new.self) c.in_ok-text.ensures.staged c.forget_ready.ensures) in
    seen_back c.self.inside.marks core c.forget_ready.new.self c.self.inside.journal c.stage.new.self back c.in-Err.ensures.err ∙ c.self.view_is

pub invariant_of-self-2 : goal.invariant_of-self-2
invariant_of-self-2 g c =
    let unfailed : c.self.inside.journal.failed ≡ false = cc (c.if-is_failed.false, c.is_failed.ensures) in
    let core : Core = c.self.inside.bench in
    let r : BenchRecord = record_of c.args.found.lease c.args.found.outcome in
    let text : c.deref.result.now ≡ c.in_ok-text.text.items = c.deref.ensures.value in
    let more : most_entries ≤ most_entries = omega arith in
    record {
      within = kept_result g.D.Disk c.self.inside.marks c.push.new.self most_entries most_entries c.self.inside.due core c.ready_result.new.self r c.deref.result.now c.self.inside.journal c.stage.new.self c.self.invariant.within unfailed c.push.ensures c.in_ok-text.ensures.may (outcome_result core c.args.found.lease c.args.found.outcome c.in_ok-text.ensures.may) (subst (λ t. IsText core.state.settings.pieces (core.records ++ core.staged) r t) (sym text) c.in_ok-text.ensures.text) c.in_ok-text.ensures.staged c.in_ok-text.ensures.grows c.in_default.ensures.ok more;
      rootless = λ whole. ap (λ (x : Core). begun x.staged) c.in_ok-text.ensures.staged
          ∙ result_rootless core.staged c.args.found.lease c.args.found.outcome (c.self.invariant.rootless (sym c.self.invariant.within.failed ∙ unfailed));
    }

pub returns-clause-appends : goal.returns-clause-appends
returns-clause-appends g c =
    let core : Core = c.self.inside.bench in
    let r : BenchRecord = record_of c.args.found.lease c.args.found.outcome in
    appends_from _ _ _ _ c.self.view_is (record {
      line = line_put c.self.inside.marks c.push.new.self core c.ready_result.new.self r c.self.invariant.within.filled c.push.ensures
          (ap (λ (x : Core). x.records) c.in_ok-text.ensures.staged) (ap (λ (x : Core). x.staged) c.in_ok-text.ensures.staged);
      enters = (c.in_ok-text.ensures.may, c.in_ok-text.ensures.staged);
    })

pub returns-clause-turn : goal.returns-clause-turn
returns-clause-turn g c =
    stage_turn c.args.self.now _ (subst (λ (s : SessionState g.row.D.Denot). IsHistory s.line s.core) c.self.view_is c.self.invariant.within.history)
    (subst (λ (s : SessionState g.row.D.Denot). is_failed s.line ≡ true → EndsBroken s.line) c.self.view_is c.self.invariant.within.ended)
    c.args.found.lease c.args.found.outcome (Ok tt) (returns-clause-appends g c)
    (subst (λ (s : SessionState g.row.D.Denot). Contains s.core.state.leases.rows (unkept c.args.found.lease)) c.self.view_is (search rules)) tt tt

pub returns-clause-grows : goal.returns-clause-grows
returns-clause-grows g c = stages_grow _ _ c.args.found.lease c.args.found.outcome (Ok tt) (returns-clause-turn g c)

pub returns-in-Err-clause-grows : goal.returns-in-Err-clause-grows
returns-in-Err-clause-grows g c =
    stages_grow _ _ c.args.found.lease c.args.found.outcome (Err (stage.Memory c.in-Err.error)) (ap (λ (s : SessionState g.row.D.Denot). s.line) (returns-in-Err-clause-unchanged g c))

pub returns-in_err-text-clause-turn : goal.returns-in_err-text-clause-turn
returns-in_err-text-clause-turn g c =
    stage_turn c.args.self.now (record { line = woven c.self.inside.marks (c.ready_result.new.self.records ++ c.ready_result.new.self.staged); core = c.ready_result.new.self; disk = c.self.inside.journal.disk })
    (subst (λ (s : SessionState g.row.D.Denot). IsHistory s.line s.core) c.self.view_is c.self.invariant.within.history)
    (subst (λ (s : SessionState g.row.D.Denot). is_failed s.line ≡ true → EndsBroken s.line) c.self.view_is c.self.invariant.within.ended)
    c.args.found.lease c.args.found.outcome c.from_residual.result (search rules) (search rules) (search rules) (search rules)
