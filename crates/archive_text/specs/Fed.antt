-- How much of a source was fed.
use Rattle.std.specs.Prelude.{◌≤◌, ◌<◌, ℕ, ◌+◌, ◌-◌, List, length}
use Rattle.archive_text.specs.declared.places.Place.{Place}
use Rattle.archive_text.specs.declared.text.ArchiveText.{ArchiveText}
use Rattle.archive_text.specs.declared.text.FeedRefusal.{FeedRefusal}
use Rattle.archive_text.specs.declared.text.FeedRefusal.TheVariants.{TooLong, Memory}
use Rattle.archive_text.specs.declared.text.TheConstants.{MOST_BYTES}

-- how many bytes were fed: those that were read, and those that are held and not read yet
abbrev pub bytes_fed : ArchiveText → ℕ
bytes_fed text = text.place.byte + (length text.held.items - text.at)

-- The place is of one of the bytes that were fed, and what was read earlier stands before it.
abbrev pub IsNextPlace : ArchiveText → Place → Type 0
IsNextPlace text place = (text.place.byte ≤ place.byte) × (place.byte < bytes_fed text)

-- why bytes are refused: the source would have more than it may have, or memory ran out
abbrev pub IsFeedCause : ArchiveText → List ℕ → FeedRefusal → Type 0
IsFeedCause text bytes TooLong = MOST_BYTES < bytes_fed text + length bytes
IsFeedCause text bytes (Memory error) = Unit {0}
