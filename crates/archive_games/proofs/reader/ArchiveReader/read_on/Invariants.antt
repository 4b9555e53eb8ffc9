use Rattle.std.proofs.Common.{◌≡◌, ◌-◌}
use Rattle.archive_text.specs.Fed.{bytes_fed}
use Rattle.archive_games.proofs.reader.ArchiveReader.read_on.Given as goal

-- what was fed stays
abbrev pub invariant-loop-sign : goal.invariant-loop-sign
invariant-loop-sign l = bytes_fed l.self.text ≡ bytes_fed l.initial.self.text

-- the bytes that are not read yet
abbrev pub decreases-loop-sign : goal.decreases-loop-sign
decreases-loop-sign l = bytes_fed l.self.text - l.self.text.place.byte
