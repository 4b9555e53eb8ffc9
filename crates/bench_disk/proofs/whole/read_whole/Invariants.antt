use Rattle.std.proofs.Common.{◌≡◌, ◌≤◌, ◌-◌, ◌++◌, length, take, drop}
use Rattle.bench_disk.specs.Disk.{IsHonest}
use Rattle.bench_disk.specs.Handle.{Looks}
use Rattle.bench_disk.proofs.whole.read_whole.Given as goal

abbrev pub invariant-loop-filled : goal.invariant-loop-filled
invariant-loop-filled g l = record {
  fits : l.filled ≤ length l.into;
  size : length l.into ≡ length l.fn.into;
  there : IsHonest g.F.FileHandle.TELLS → l.filled ≤ length (drop l.at (g.F.FileHandle.reads l.fn.file));
  bytes : IsHonest g.F.FileHandle.TELLS → l.into ≡ take l.filled (drop l.at (g.F.FileHandle.reads l.fn.file)) ++ drop l.filled l.fn.into;
  looks : IsHonest g.F.FileHandle.TELLS → Looks g.F.FileHandle.reads g.F.FileHandle.images g.F.FileHandle.images_since g.F.FileHandle.moment g.F.FileHandle.is_entered l.fn.file l.file;
}

abbrev pub decreases-loop-filled : goal.decreases-loop-filled
decreases-loop-filled g l = length l.into - l.filled
