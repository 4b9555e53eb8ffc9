use Rattle.std.proofs.Common.{◌≡◌, take, reverse}
use Rattle.bench_disk.specs.Calls.{IsImage, bytes_after}
use Rattle.bench_disk.proofs.memory_disk.MemoryDisk.with_torn.Given as goal

abbrev pub invariant-loop-call : goal.invariant-loop-call
invariant-loop-call l = record {
  image : IsImage l.self.start.items (reverse (take l.call-index l.self.calls.items)) l.image.items;
  bytes : l.bytes.items ≡ bytes_after l.self.start.items (reverse (take l.call-index l.self.calls.items));
}
