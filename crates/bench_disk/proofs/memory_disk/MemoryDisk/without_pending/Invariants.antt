use Rattle.std.proofs.Common.{◌≡◌, take, reverse}
use Rattle.bench_disk.specs.Calls.{bytes_after, synced_after}
use Rattle.bench_disk.proofs.memory_disk.MemoryDisk.without_pending.Given as goal

abbrev pub invariant-loop-call : goal.invariant-loop-call
invariant-loop-call l = record {
  synced : l.synced.items ≡ synced_after l.self.start.items (reverse (take l.call-index l.self.calls.items));
  bytes : l.bytes.items ≡ bytes_after l.self.start.items (reverse (take l.call-index l.self.calls.items));
}
