use Rattle.bench_disk.proofs.CallLemmas.{not_written, wrote}
use Rattle.bench_disk.proofs.memory_disk.MemoryDiskDisk.write_at.Goals as goal

pub returns-in-Ok-clause-writes : goal.returns-in-Ok-clause-writes
returns-in-Ok-clause-writes c = λ _.
    let kept = c.in-Ok.ensures.ok in
    wrote _ _ c.args.at kept.0 c.args.from.now kept.1 c.in-Ok.ensures.start kept.2

pub returns-in-Err-clause-writes : goal.returns-in-Err-clause-writes
returns-in-Err-clause-writes c = λ _. not_written _ _ c.args.at _ c.in-Err.ensures.start c.in-Err.ensures.err.0
