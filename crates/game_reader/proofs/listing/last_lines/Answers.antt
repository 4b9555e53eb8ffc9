use Rattle.std.proofs.Common.{◌≤◌, sym, subst, arith}
use Rattle.std.proofs.lemmas.List.Elements.{All-get_or}
use Rattle.archive_records.specs.declared.notes.Note.{Note}
use Rattle.game_reader.proofs.listing.last_lines.Goals as goal

pub loop-note-preserved : goal.loop-note-preserved
loop-note-preserved c = λ bytes all.
    let IsWithin : Note → Type 0 = λ note. note.place.byte ≤ bytes in
    c.in_ok-say_told.ensures bytes (subst IsWithin (sym c.note-item.is) (All-get_or IsWithin _ c.loop-note.note-index c.note-item.result (omega arith) all)) (c.loop-note.invariant bytes all)
