-- What a disk in memory shows.
use Rattle.std.specs.Prelude.{◌≡◌, ℕ, List, length, reverse}
use Rattle.bench_disk.specs.Calls.{IsImage, IsImageSince, synced_after}
use Rattle.bench_disk.specs.Disk.{NothingPending}
use Rattle.bench_disk.specs.declared.memory_disk.MemoryDisk.{MemoryDisk}

-- the bytes that it now gives
abbrev pub reads_of : MemoryDisk → List ℕ
reads_of disk = disk.bytes.items

-- the bytes without the writes that are pending: what it gave at its last sync, or at first
abbrev pub synced_of : MemoryDisk → List ℕ
synced_of disk = synced_after disk.start.items (reverse disk.calls.items)

-- what a crash now may leave
abbrev pub images_of : MemoryDisk → List ℕ → Type 0
images_of disk = IsImage disk.start.items (reverse disk.calls.items)

-- what a crash at some moment since that one may have left
abbrev pub images_since_of : MemoryDisk → ℕ → List ℕ → Type 0
images_since_of disk = IsImageSince disk.start.items (reverse disk.calls.items)

-- its moment: how many calls were Ok
abbrev pub moment_of : MemoryDisk → ℕ
moment_of disk = length disk.calls.items

-- It holds these bytes and has had no call: nothing is pending, its moment is 0, and it never
-- failed.
pub record IsNewDisk (disk : MemoryDisk) (bytes : List ℕ) : Type 0 where
  pub reads : reads_of disk ≡ bytes
  pub settled : NothingPending (reads_of disk) (images_of disk)
  pub moment : length disk.calls.items ≡ 0
  pub faults : disk.faults ≡ 0
