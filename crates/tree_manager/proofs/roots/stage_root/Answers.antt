use Rattle.std.proofs.Common.{◌≡◌, ◌<◌, ◌∷◌, ◌++◌, [], length, refl, sym, ◌∙◌, subst}
use Rattle.bench_records.specs.declared.records.BenchRecord.TheVariants.{Begin}
use Rattle.bench_records.specs.Texts.{IsText}
use Rattle.bench_core.specs.Cores.{Core, IsForgotten}
use Rattle.tree_manager.specs.Sessions.{with_roots_staged}
use Rattle.tree_manager.proofs.CallLemmas.{text_some}
use Rattle.tree_manager.proofs.RootLemmas.{root_forgotten, root_staged}
use Rattle.tree_manager.proofs.roots.stage_root.Goals as goal

pub stage-requires-clause-some : goal.stage-requires-clause-some
stage-requires-clause-some g c =
    let text : c.deref.result.now ≡ c.in_ok-text.text.items = c.deref.ensures.value in
    subst (λ t. 0 < length t) (sym text) (text_some c.args.bench.now.state.settings.pieces (c.args.bench.now.records ++ c.args.bench.now.staged) (Begin c.args.p) c.in_ok-text.text.items c.in_ok-text.ensures.text)

pub returns-in-Err-clause-bench_stays : goal.returns-in-Err-clause-bench_stays
returns-in-Err-clause-bench_stays g c =
    let core : Core = c.args.bench.now in
    root_forgotten (with_roots_staged core (c.args.p ∷ [])) c.forget_ready.new.self core.staged (Begin c.args.p)
    (subst (λ x. IsForgotten x c.forget_ready.new.self) (c.in_ok-text.ensures.staged ∙ root_staged core c.args.p) c.forget_ready.ensures) refl refl c.requires.live

pub returns-clause-bench : goal.returns-clause-bench
returns-clause-bench g c = c.in_ok-text.ensures.staged ∙ root_staged c.args.bench.now c.args.p

pub returns-clause-journal : goal.returns-clause-journal
returns-clause-journal g c =
    let text : c.deref.result.now ≡ c.in_ok-text.text.items = c.deref.ensures.value in
    (c.deref.result.now, subst (λ t. IsText c.args.bench.now.state.settings.pieces (c.args.bench.now.records ++ c.args.bench.now.staged) (Begin c.args.p) t) (sym text) c.in_ok-text.ensures.text, c.in_default.ensures.ok)
