use Rattle.std.proofs.Common.{ℕ, List}
use Rattle.std.specs.Io.KnownBytes.{Appends}
use Rattle.game_reader.specs.Listing.{TellsWithin}
use Rattle.game_reader.specs.Reading.{HasRead, bytes_read}
use Rattle.game_reader.proofs.writing.check.Given as goal

-- what was read, and the lines that were written, each at a place of it
abbrev pub invariant-games : goal.invariant-games
invariant-games g l = record {
  read : HasRead (g.S.Source.left l.initial.source) (g.S.Source.left l.source) 0 (bytes_read l.archive);
  told : (text : List ℕ) × (TellsWithin (bytes_read l.archive) text × Appends (g.K.Sink.taken l.initial.sink) (g.K.Sink.taken l.sink) text);
}
