-- What stands ahead of the place where a source is read.
use Rattle.std.specs.Prelude.{◌≡◌, ℕ, ◌+◌, List, [], take, drop, if◌then◌else◌, Bool, true, false, ◌&&◌, not}
use Rattle.archive_text.specs.declared.encoding.Encoding.{Encoding}
use Rattle.archive_text.specs.declared.encoding.Encoding.TheVariants.{Bytes, LowFirst, HighFirst}
use Rattle.archive_text.specs.declared.places.Place.{Place}
use Rattle.archive_text.specs.declared.text.ArchiveText.{ArchiveText}
use Rattle.archive_text.specs.declared.ahead.TheConstants.{MOST_RUN}

abbrev pub are_bytes : Encoding → Bool
are_bytes Bytes = true
are_bytes LowFirst = false
are_bytes HighFirst = false

-- a byte of ASCII is a character of its own: not in UTF-16, not before the mark, not inside a tag of HTML
abbrev pub reads_bytes : ArchiveText → Bool
reads_bytes text = are_bytes text.encoding && (text.is_begun && not text.is_in_tag)

-- the next bytes, where a byte of ASCII is a character of its own
abbrev pub ahead : ArchiveText → List ℕ
ahead text = if reads_bytes text then take MOST_RUN (drop text.at text.held.items) else []

-- the place `count` characters of one byte further on the same line
abbrev pub IsAlong : Place → ℕ → Place → Type 0
IsAlong place count further =
    (further.line ≡ place.line) × (further.column ≡ place.column + count)
    × (further.byte ≡ place.byte + count)
