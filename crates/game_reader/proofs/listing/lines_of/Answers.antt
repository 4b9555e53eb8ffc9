use Rattle.std.proofs.Common.{◌≤◌, ◌∙◌, sym, subst}
use Rattle.std.specs.List.{All}
use Rattle.std.proofs.lemmas.List.Sorted.{All-permutation}
use Rattle.archive_records.specs.declared.notes.Note.{Note}
use Rattle.game_reader.proofs.Told.{says_one}
use Rattle.game_reader.proofs.listing.lines_of.Goals as goal

pub returns : goal.returns
returns c = λ bytes within.
    let IsWithin : Note → Type 0 = λ note. note.place.byte ≤ bytes in
    c.loop-note.invariant bytes (subst (All IsWithin) (sym c.deref-note-items.ensures.value) (All-permutation IsWithin c.args.game.now.notes.items c.sort_by_key.new.self.items c.in_ok-sort_by_key.ensures.permutation within.notes))

pub say_told-requires : goal.say_told-requires
say_told-requires c = says_one (record c.args.game.now { notes = c.sort_by_key.new.self }) c.deref.result.now (c.deref.ensures.value ∙ c.in_ok-of_game.ensures)
