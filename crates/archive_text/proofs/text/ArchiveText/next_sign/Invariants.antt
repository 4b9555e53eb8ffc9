use Rattle.std.proofs.Common.{◌≡◌, ◌≤◌, ◌-◌, length}
use Rattle.archive_text.specs.Fed.{bytes_fed}
use Rattle.archive_text.proofs.text.ArchiveText.next_sign.Given as goal

-- what was fed stays, and what is read grows
abbrev pub invariant-loop-letter : goal.invariant-loop-letter
invariant-loop-letter l = record {
  fed : bytes_fed l.self ≡ bytes_fed l.initial.self;
  still : l.initial.self.place.byte ≤ l.self.place.byte;
}

abbrev pub decreases-loop-letter : goal.decreases-loop-letter
decreases-loop-letter l = length l.self.held.items - l.self.at
