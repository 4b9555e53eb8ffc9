-- The moment and the faults of the disk that a word names, by what stands below.
use Rattle.std.specs.Prelude.{ℕ, ◌+◌, ◌-◌, ◌^◌, length, min}
use Rattle.bench_disk.specs.declared.disk.Disk.{Ghosts}
use Rattle.program_edges.specs.declared.path_disk.Below.{Below}
use Rattle.program_edges.specs.declared.path_disk.Below.TheVariants.{File, Memory, Nothing}
use Rattle.program_edges.specs.declared.path_disk.PathDisk.{PathDisk}

module _ {F : Type 0} (g : Ghosts F) where
  abbrev pub moment_below : Below F → ℕ
  moment_below (File disk) = g.moment disk
  moment_below (Memory disk) = length disk.calls.items
  moment_below Nothing = 0

  abbrev pub faults_below : Below F → ℕ
  faults_below (File disk) = g.faults disk
  faults_below (Memory disk) = disk.faults
  faults_below Nothing = 0

  abbrev pub moment_of : PathDisk F g → ℕ
  moment_of disk = moment_below disk.below

  -- those of what stands below and its own, up to the last value
  abbrev pub faults_of : PathDisk F g → ℕ
  faults_of disk = min (faults_below disk.below + disk.refused) (2 ^ 64 - 1)
