use Rattle.std.proofs.Common.{◌≡◌}
use Rattle.game_reader.specs.Reading.{HasRead, bytes_read}
use Rattle.game_reader.proofs.archive.Archive.next.Given as goal

abbrev pub invariant-pieces : goal.invariant-pieces
invariant-pieces g l = record {
  read : HasRead (g.S.Source.left l.initial.source) (g.S.Source.left l.source) (bytes_read l.initial.self) (bytes_read l.self);
  count : g.S.Source.faults l.source ≡ g.S.Source.faults l.initial.source;
}
