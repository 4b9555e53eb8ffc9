use Rattle.std.proofs.Common.{ℕ, ◌≤◌}
use Rattle.std.specs.List.{All}
use Rattle.game_reader.specs.Listing.{TellsWithin}
use Rattle.game_reader.proofs.listing.last_lines.Given as goal

-- the lines so far are at places within each source in which all notes are
abbrev pub invariant-loop-note : goal.invariant-loop-note
invariant-loop-note l =
    (bytes : ℕ) → All (λ note. note.place.byte ≤ bytes) l.note-items → TellsWithin bytes l.lines.items
