-- What a file in memory reads as, and what a crash may leave of it.
use Rattle.std.specs.Prelude.{◌≡◌, ℕ, ◌≤◌, false, List, reverse}
use Rattle.memory_file.specs.Changes.{IsImage, IsImageSince}
use Rattle.memory_file.specs.declared.held.MemoryFile.{MemoryFile}

abbrev pub reads_of : MemoryFile → List ℕ
reads_of file = file.bytes.items

abbrev pub images_of : MemoryFile → List ℕ → Type 0
images_of file = IsImage file.start.items (reverse file.steps.items)

abbrev pub images_since_of : MemoryFile → ℕ → List ℕ → Type 0
images_since_of file t image =
    (t ≤ file.moment) × IsImageSince file.start.items (reverse file.steps.items) t image

abbrev pub moment_of : MemoryFile → ℕ
moment_of file = file.moment

-- It holds these bytes and has had no call: it is in its first moment, and nothing of it is known to
-- outlast a crash.
pub record IsNewFile (file : MemoryFile) (bytes : List ℕ) : Type 0 where
  pub reads : reads_of file ≡ bytes
  pub anything : (image : List ℕ) → images_of file image
  pub moment : file.moment ≡ 0
  pub unentered : file.is_entered ≡ false
  pub pending : file.is_lasting ≡ false
