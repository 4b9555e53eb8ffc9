use Rattle.std.proofs.Common.{◌≡◌, ◌≤◌, ◌-◌, length, take}
use Rattle.bench_disk.specs.Disk.{IsHonest, written}
use Rattle.bench_disk.specs.Handle.{Writes}
use Rattle.bench_disk.proofs.whole.write_whole.Given as goal

abbrev pub invariant-loop-done : goal.invariant-loop-done
invariant-loop-done g l = record {
  fits : l.done ≤ length l.from;
  bytes : IsHonest g.F.FileHandle.TELLS → g.F.FileHandle.reads l.file ≡ written (g.F.FileHandle.reads l.fn.file) l.at (take l.done l.from);
  writes : IsHonest g.F.FileHandle.TELLS → Writes g.F.FileHandle.images g.F.FileHandle.images_since g.F.FileHandle.moment g.F.FileHandle.is_entered l.at (length l.from) l.fn.file l.file;
}

abbrev pub decreases-loop-done : goal.decreases-loop-done
decreases-loop-done g l = length l.from - l.done
