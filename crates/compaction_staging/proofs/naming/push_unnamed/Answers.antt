use Rattle.std.proofs.Common.{◌∙◌, ◌∷◌, ◌++◌, [], ap, sym, None, append_assoc}
use Rattle.journal_compaction.specs.Names.{unnamed_for}
use Rattle.compaction_staging.proofs.ProgressLemmas.{unnamed_push}
use Rattle.compaction_staging.proofs.naming.push_unnamed.Goals as goal

pub loop-preserved : goal.loop-preserved
loop-preserved c =
    let last = None ∷ [] in
    c.in_ok-push.ensures.items
    ∙ (ap (λ l. l ++ last) c.loop.invariant
    ∙ (append_assoc c.args.names.now.items (unnamed_for c.loop.counter) last ∙ ap (λ l. c.args.names.now.items ++ l) (sym (unnamed_push c.loop.counter))))
