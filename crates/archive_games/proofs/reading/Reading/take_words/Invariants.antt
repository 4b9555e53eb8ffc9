use Rattle.std.proofs.Common.{◌≤◌, ◌+◌, ◌-◌, length}
use Rattle.archive_games.proofs.reading.Reading.take_words.Given as goal

-- what was taken stands within the text
abbrev pub invariant-loop-at : goal.invariant-loop-at
invariant-loop-at l = record {
  inside : l.at ≤ length l.plain;
  reached : l.self.kept.reached ≤ l.place.byte + l.at;
}

abbrev pub decreases-loop-at : goal.decreases-loop-at
decreases-loop-at l = length l.plain - l.at
