use Rattle.std.specs.Prelude.{reverse}
use Rattle.std.proofs.Common.{◌≡◌, rules, sym, ◌∙◌, subst}
use Rattle.std.proofs.lemmas.Result.{IfOk-weaker}
use Rattle.bench_disk.specs.Calls.{IsImage}
use Rattle.bench_disk.specs.CallLaws.{reads_is_image, synced_is_image}
use Rattle.bench_disk.proofs.memory_disk.MemoryDisk.crash.Goals as goal

pub returns-in-0-clause-image : goal.returns-in-0-clause-image
returns-in-0-clause-image c =
    let start = c.args.self.now.start.items in
    let calls = reverse c.args.self.now.calls.items in
    IfOk-weaker c.without_pending.result _ _ (λ disk same. subst (IsImage start calls) (sym same) (synced_is_image start calls)) c.without_pending.ensures.lost

pub returns-in_ok-to_vec-in-1-clause-image : goal.returns-in_ok-to_vec-in-1-clause-image
returns-in_ok-to_vec-in-1-clause-image c =
    let disk = c.args.self.now in
    let same : c.in_ok-to_vec-in-1.field-0.items ≡ disk.bytes.items = search rules in
    IfOk-weaker c.of.result _ _
    (λ made new. subst (IsImage disk.start.items (reverse disk.calls.items)) (sym (new.reads ∙ same))
    (reads_is_image disk.start.items disk.calls.items disk.bytes.items disk.replayed))
    c.of.ensures
