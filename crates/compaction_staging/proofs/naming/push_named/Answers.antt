use Rattle.std.proofs.Common.{◌+◌, ◌∙◌, ◌∷◌, ◌++◌, [], ap, sym, Some, append_assoc}
use Rattle.journal_compaction.specs.Names.{named_from}
use Rattle.compaction_staging.proofs.ProgressLemmas.{named_push}
use Rattle.compaction_staging.proofs.naming.push_named.Goals as goal

pub loop-i-preserved : goal.loop-i-preserved
loop-i-preserved c =
    let last = Some (c.args.next + c.loop-i.i) ∷ [] in
    c.in_ok-push.ensures.items
    ∙ (ap (λ l. l ++ last) c.loop-i.invariant
    ∙ (append_assoc c.args.names.now.items (named_from c.args.next c.loop-i.i) last ∙ ap (λ l. c.args.names.now.items ++ l) (sym (named_push c.args.next c.loop-i.i))))
