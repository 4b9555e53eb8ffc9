use Rattle.std.proofs.Common.{◌≡◌, ◌≤◌, length}
use Rattle.fen_text.specs.Reading.{without_blanks}
use Rattle.fen_text.proofs.reading.without_blanks.Given as goal

abbrev pub invariant-loop-rest : goal.invariant-loop-rest
invariant-loop-rest l = record {
  same : without_blanks l.rest ≡ without_blanks l.bytes;
  shorter : length l.rest ≤ length l.bytes;
}

abbrev pub decreases-loop-rest : goal.decreases-loop-rest
decreases-loop-rest l = length l.rest
