use Rattle.bench_records.specs.Names.{named_by}
use Rattle.std.proofs.Common.{◌≡◌, ◌<◌, ◌∙◌, ℕ, List, length, sym, subst, ap, arith}
use Rattle.compaction_staging.proofs.LoopLemmas.{some_text, spelled_push, staged_or_same, text_for}
use Rattle.compaction_staging.proofs.ProgressLemmas.{map_ok}
use Rattle.compaction_staging.proofs.staging.stage_text.Goals as goal

pub stage-requires-clause-some : goal.stage-requires-clause-some
stage-requires-clause-some g c = some_text _ _ _ (c.deref.ensures.value ∙ c.in_ok-text.ensures.text)

pub returns-clause-spelled : goal.returns-clause-spelled
returns-clause-spelled g c =
    map_ok c.stage.result
    (λ is made_k made enough so_far.
    let text = text_for made_k c.args.named.now c.args.r.now c.deref.result.now c.in_ok-sheet.sheet c.kind_of.result enough c.in_ok-sheet.ensures.sound c.in_ok-sheet.ensures.sheet c.kind_of.ensures
    (c.deref.ensures.value ∙ c.in_ok-text.ensures.text) c.write.new.named c.in_ok-text.ensures.names c.in_ok-text.ensures.few in
    spelled_push made_k made c.args.named.now c.write.new.named c.args.journal.now.staged c.stage.new.self.staged c.args.r.now c.deref.result.now so_far text
    (c.in_ok-text.ensures.names ∙ ap (named_by c.args.named.now) c.in_ok-sheet.ensures.sheet) (ap (λ j. j.staged) is))
    c.stage.ensures.ok

pub returns-clause-rest : goal.returns-clause-rest
returns-clause-rest g c = staged_or_same c.stage.result c.args.journal.now c.stage.new.self _ c.stage.ensures.ok c.stage.ensures.err
