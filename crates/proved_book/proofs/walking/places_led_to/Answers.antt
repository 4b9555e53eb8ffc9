use Rattle.std.proofs.Common.{◌≡◌, ◌<◌, ◌≤◌, ◌∙◌, ◌∷◌, [], ℕ, List, Option, Some, None, ap, sym, subst, slice_get, length, get_or, arith}
use Rattle.std.proofs.lemmas.Option.{slice_get-get_or}
use Rattle.draughts_board.specs.Board.{Board}
use Rattle.proved_book.specs.Walking.{Notes}
use Rattle.proved_book.proofs.WalkLemmas.{in_list, seen_few, seen_within, walk_begins, walk_goes_on, walk_ends}
use Rattle.proved_book.proofs.walking.places_led_to.Goals as goal

pub loop-done-init : goal.loop-done-init
loop-done-init g c =
    let rows = g.S.Strategy.rows c.args.part.now in
    walk_begins rows c.args.p.now c.note.new.seen.keys
    (subst (λ (seen : List ℕ). Notes rows (c.args.p.now ∷ []) seen c.note.new.seen.keys) c.new-seen.ensures.empty c.in_ok-note.ensures)

-- the place that is gone on from next
module _ (seen slice : List ℕ) (done : ℕ) (keys : slice ≡ seen) (within : done < length seen) where
  next_is : slice_get seen done ≡ Some (get_or slice done 0)
  next_is = slice_get-get_or seen done 0 within ∙ ap (λ (xs : List ℕ). Some (get_or xs done 0)) (sym keys)

pub note_due-requires-clause-within : goal.note_due-requires-clause-within
note_due-requires-clause-within g c =
    let rows = g.S.Strategy.rows c.args.part.now in
    let seen = c.loop-done.seen.keys in
    let done = c.loop-done.done in
    let place = get_or c.as_slice.result.now done 0 in
    let within : done < length seen = (let less = c.loop-done-test.true in let long = c.len.ensures.len in omega arith) in
    seen_within rows c.args.p.now seen done place c.loop-done.invariant
    (in_list seen done place (next_is seen c.as_slice.result.now done c.as_slice.ensures.keys within))

pub loop-done-smaller : goal.loop-done-smaller
loop-done-smaller g c =
    let rows = g.S.Strategy.rows c.args.part.now in
    let seen = c.loop-done.seen.keys in
    let few = seen_few rows c.args.p.now seen c.loop-done.done c.loop-done.invariant c.len.ensures.unique in
    let less = c.loop-done-test.true in
    let long = c.len.ensures.len in
    omega arith

pub loop-done-preserved : goal.loop-done-preserved
loop-done-preserved g c =
    let rows = g.S.Strategy.rows c.args.part.now in
    let p = c.args.p.now in
    let seen = c.loop-done.seen.keys in
    let done = c.loop-done.done in
    let place = get_or c.as_slice.result.now done 0 in
    let within : done < length seen = (let less = c.loop-done-test.true in let long = c.len.ensures.len in omega arith) in
    let next : slice_get seen done ≡ Some place = next_is seen c.as_slice.result.now done c.as_slice.ensures.keys within in
    let inside : place < length rows = seen_within rows p seen done place c.loop-done.invariant (in_list seen done place next) in
    let row : Board × Option (List ℕ) = get_or rows place (p, None) in
    let at : slice_get rows place ≡ Some (row.0, row.1) = slice_get-get_or rows place (p, None) inside in
    walk_goes_on rows p c.note_distinct.ensures place done row.0 row.1 at seen c.note_due.new.seen.keys next c.loop-done.invariant (c.in_ok-note_due.ensures row.0 row.1 at)

pub returns : goal.returns
returns g c =
    let rows = g.S.Strategy.rows c.args.part.now in
    let seen = c.loop-done.seen.keys in
    let past : length seen ≤ c.loop-done.done = (let more = c.loop-done-test.false in let long = c.len.ensures.len in omega arith) in
    walk_ends rows c.args.p.now seen c.loop-done.done c.loop-done.invariant past c.sort_unstable.new.self.keys c.in_ok-sort_unstable.ensures.unique c.in_ok-sort_unstable.ensures.reordered.0 c.in_ok-sort_unstable.ensures.sorted
