use Rattle.turn_lock.proofs.lock.TurnLock.note.Given as goal

abbrev pub ghosts-note_entries : goal.ghosts-note_entries
ghosts-note_entries g a = record { entries = g.V.Kept.entries a._value.now }
