use Rattle.std.proofs.Common.{◌≡◌, ◌∙◌, ◌∷◌, [], ◌++◌, ◌+◌, List, ap, sym, subst, take}
use Rattle.std.proofs.lemmas.List.{take_more}
use Rattle.draughts_board.specs.Board.{Board}
use Rattle.proved_book.specs.Walking.{Notes}
use Rattle.proved_book.proofs.WalkLemmas.{notes_none, notes_more}
use Rattle.proved_book.proofs.walking.note_all.Goals as goal

pub loop-q-init : goal.loop-q-init
loop-q-init g c = notes_none (g.S.Strategy.rows c.args.part.now) c.args.seen.now.keys

pub loop-q-preserved : goal.loop-q-preserved
loop-q-preserved g c =
    let rows = g.S.Strategy.rows c.args.part.now in
    let due = c.args.due.now in
    let i = c.loop-q.q-index in
    let q = c.q-item.result in
    let more : take (i + 1) due ≡ take i due ++ q ∷ [] = take_more due i q c.loop-q-test.true ∙ ap (λ (r : Board). take i due ++ r ∷ []) (sym c.q-item.is) in
    subst (λ (ps : List Board). Notes rows ps c.args.seen.now.keys c.note.new.seen.keys) (sym more)
    (notes_more rows (take i due) q c.args.seen.now.keys c.loop-q.seen.keys c.note.new.seen.keys c.loop-q.invariant c.in_ok-note.ensures)
