use Rattle.std.proofs.Common.{◌≡◌, [], take}
use Rattle.bench_records.specs.Texts.{named_in}
use Rattle.compaction_staging.specs.Progress.{HasStaged}
use Rattle.compaction_staging.proofs.staging.stage_compacted.Given as goal

abbrev pub invariant-loop-i : goal.invariant-loop-i
invariant-loop-i g l =
    HasStaged l.bench l.i l.naming.names.items l.naming.next l.naming.begun l.naming.named l.journal.staged
    × ((l.known ≡ named_in [] (take l.i l.bench.records)) × (l.journal ≡ record l.initial.journal { staged = l.journal.staged }))
