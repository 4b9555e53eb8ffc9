use Rattle.std.proofs.Common.{◌∙◌, sym, refl}
use Rattle.std.proofs.lemmas.Option.{none-some, same_Some}
use Rattle.proved_book.proofs.WalkLemmas.{notes_absent, notes_place}
use Rattle.proved_book.proofs.walking.note.Goals as goal

pub returns-in_default : goal.returns-in_default
returns-in_default g c =
    notes_absent (g.S.Strategy.rows c.args.part.now) c.args.q.now c.args.seen.now.keys
    (λ i at. none-some i (sym c.in_default.is ∙ (c.place_of.ensures i).1 at))

pub returns : goal.returns
returns g c =
    notes_place (g.S.Strategy.rows c.args.part.now) c.args.q.now c.in-Some.place c.args.seen.now.keys c.insert.new.self.keys
    ((c.in-Some.ensures c.in-Some.place).0 refl)
    (λ i at. same_Some i c.in-Some.place (sym ((c.in-Some.ensures i).1 at)))
    c.in_ok-insert.ensures.keys
