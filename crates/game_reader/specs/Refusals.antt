-- Why an archive was not read to its end.
use Rattle.archive_text.specs.declared.text.FeedRefusal.{FeedRefusal}
use Rattle.archive_text.specs.declared.text.FeedRefusal.TheVariants.{TooLong, Memory}
use Rattle.game_reader.specs.declared.archive.ArchiveRefusal.{ArchiveRefusal}
use Rattle.game_reader.specs.declared.archive.ArchiveRefusal.TheVariants as refusal

-- a piece of it was refused
abbrev pub of_feed : FeedRefusal → ArchiveRefusal
of_feed TooLong = refusal.TooLong
of_feed (Memory error) = refusal.Memory error
