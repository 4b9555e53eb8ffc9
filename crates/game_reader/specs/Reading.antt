-- How much of a source an archive has read.
use Rattle.std.specs.Prelude.{◌≡◌, ℕ, ◌+◌, List, length, Option}
use Rattle.std.specs.Io.KnownBytes.{Consumes}
use Rattle.archive_text.specs.Fed.{bytes_fed}
use Rattle.shared_words.specs.Counts.{Rose}
use Rattle.game_reader.specs.declared.archive.Archive.{Archive}
use Rattle.game_reader.specs.declared.archive.ArchiveRefusal.{ArchiveRefusal}
use Rattle.game_reader.specs.declared.archive.ArchiveRefusal.TheVariants.{TooLong, Read, Memory}

-- how many bytes were read
abbrev pub bytes_read : Archive → ℕ
bytes_read archive = bytes_fed archive.reader.text

-- the source lost the bytes that were read, and no others
pub record HasRead (old new : Option (List ℕ)) (before after : ℕ) : Type 0 where
  pub bytes : List ℕ
  pub consumed : Consumes old new bytes
  pub counted : after ≡ before + length bytes

-- The source failed only if its count of faults rose.
abbrev pub IsStopped : ℕ → ℕ → ArchiveRefusal → Type 0
IsStopped before after TooLong = after ≡ before
IsStopped before after (Read fault) = Rose before after
IsStopped before after (Memory error) = after ≡ before
