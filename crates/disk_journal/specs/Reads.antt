-- A call that only looks at a disk.
use Rattle.std.specs.Prelude.{◌≤◌}
use Rattle.bench_disk.specs.declared.disk.Disk.{Ghosts}
use Rattle.bench_disk.specs.Disk.{IsHonest}
use Rattle.bench_disk.specs.Runs.{OnlyLooks}
use Rattle.shared_words.specs.Counts.{Rose}

-- It changes nothing of the disk's bytes, nor of what a crash may leave of them.
abbrev pub OnlyLooksAt : {D : Type 0} → Ghosts D → D → D → Type 0
OnlyLooksAt g old new = OnlyLooks g.reads g.images g.images_since g.moment old new

-- It changes nothing of the disk's bytes, and the disk's fault, where that is its answer, shows in
-- the disk's faults.
pub record OnlyReads {D : Type 0} (g : Ghosts D) (old new : D) (Faulted : Type 0) : Type 0 where
  pub looks : IsHonest g.TELLS → OnlyLooksAt g old new
  pub later : g.moment old ≤ g.moment new
  pub faults : g.faults old ≤ g.faults new
  pub cause : Faulted → Rose (g.faults old) (g.faults new)
