use Rattle.std.proofs.Common.{◌∙◌, ◌≤◌, ℕ, List, [], length, sym, subst, ap, arith}
use Rattle.std.proofs.lemmas.List.{length-map}
use Rattle.shared_words.specs.Counts.{Rose}
use Rattle.bench_disk.specs.Runs.{Leaves}
use Rattle.disk_journal.specs.Format.{HasPayloads, StandsForEither}
use Rattle.disk_journal.specs.declared.payload.Payload.{Payload}
use Rattle.proof_tree.specs.Forest.{Forest, nodes}
use Rattle.tree_manager.specs.Replaying.{payload_texts}
use Rattle.record_reading.proofs.Readings.{as_many}
use Rattle.journal_shortening.proofs.OutcomeLemmas.{is_written}
use Rattle.journal_shortening.proofs.writing.commit_compacted.Goals as goal

pub returns-in-Ok-clause-written : goal.returns-in-Ok-clause-written
returns-in-Ok-clause-written g c honest =
    let read = c.args.read.now in
    let k : ℕ = read.bench.state.settings.pieces in
    let staged : List (List ℕ) = c.args.journal.staged in
    let reads = g.B.Disk.reads in
    let has : HasPayloads k (reads c.commit.new.self.disk) staged =
    subst (λ n. HasPayloads n (reads c.commit.new.self.disk) staged) c.requires.pieces (c.in-Ok.ensures.payloads honest [] (c.requires.empty honest)) in
    let many = as_many k [] read.bench.records (payload_texts read.payloads.items) c.requires.spelled in
    let long = length-map read.payloads.items (λ (p : Payload). p.bytes.items) in
    is_written k read.bench.records read.bench.state.forest staged c.requires.staged (reads c.into_disk.result)
    (record { roots = c.roots.result; before = c.len.result; after = c.in-Ok.receipt.number })
    (subst (λ d. HasPayloads k (reads d) staged) (sym c.into_disk.ensures) has) (c.roots.ensures.value ∙ ap (λ (f : Forest). length (nodes f)) c.tree.ensures.forest)
    (omega (arith, many, long, c.len.ensures)) (omega (arith, c.in-Ok.ensures.number, c.in-Ok.ensures.count, c.requires.count))

pub returns-in-Ok-clause-crash : goal.returns-in-Ok-clause-crash
returns-in-Ok-clause-crash g c honest =
    subst (λ d. Leaves g.B.Disk.moment g.B.Disk.images_since c.args.journal.disk d (StandsForEither c.args.journal.pieces [] c.args.journal.staged)) (sym c.into_disk.ensures)
    (c.in-Ok.ensures.atomic honest [] (c.requires.empty honest))

pub returns-in-Err-clause-crash : goal.returns-in-Err-clause-crash
returns-in-Err-clause-crash g c honest =
    subst (λ d. Leaves g.B.Disk.moment g.B.Disk.images_since c.args.journal.disk d (StandsForEither c.args.journal.pieces [] c.args.journal.staged)) (sym c.into_disk-in-Err.ensures)
    (c.in-Err.ensures.atomic honest [] (c.requires.empty honest))

pub returns-in-Err-clause-faults : goal.returns-in-Err-clause-faults
returns-in-Err-clause-faults g c =
    let faults = g.B.Disk.faults in
    let same = sym c.into_disk-in-Err.ensures in
    let cause = c.in-Err.ensures.cause in (
      subst (λ d. faults c.args.journal.disk ≤ faults d) same cause.later,
      subst (λ d. Rose (faults c.args.journal.disk) (faults d)) same cause.fault,
    )
