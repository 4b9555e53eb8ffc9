-- What the disk that a word names stands over.
use Rattle.std.specs.Prelude.{[]}
use Rattle.bench_disk.specs.MemoryDisk.{IsNewDisk}
use Rattle.program_edges.specs.declared.path_disk.Below.{Below}
use Rattle.program_edges.specs.declared.path_disk.Below.TheVariants.{File, Memory, Nothing}

module _ {F : Type 0} where
  -- the disk over a file, of which P holds
  abbrev pub IsOnFile : (F → Type 0) → Below F → Type 0
  IsOnFile P (File disk) = P disk
  IsOnFile P other = ⊥

  -- a new and empty disk in memory
  abbrev pub IsOnMemory : Below F → Type 0
  IsOnMemory (Memory disk) = IsNewDisk disk []
  IsOnMemory other = ⊥

  -- no disk: each call fails
  abbrev pub IsOnNothing : Below F → Type 0
  IsOnNothing Nothing = Unit {0}
  IsOnNothing other = ⊥
