use Rattle.std.proofs.Common.{◌≡◌, suc, ◌-◌, ◌<◌, eqb, [], ◌∷◌, length, refl, ◌∙◌, ap, subst, arith}
use Rattle.std.specs.Prelude.{All}
use Rattle.std.proofs.lemmas.Bool.{eq-eqb}
use Rattle.endgame_table.specs.Marking.{one_if, times}
use Rattle.endgame_table.specs.Origins.{link_at, origins_from}
use Rattle.endgame_table.proofs.OriginLists.{origins-step, origins-end}
use Rattle.endgame_table.proofs.MarkLemmas.{times-cons}
use Rattle.endgame_table.proofs.MarkLastLemmas.{MarksLastRest, last-turn, last-end}
use Rattle.endgame_table.proofs.marking.mark_last_origins.Goals as goal

pub mark_last-requires-clause-numbers : goal.mark_last-requires-clause-numbers
mark_last-requires-clause-numbers c =
    let first = origins-step c.args.links.now c.requires.links c.loop-place.place c.loop-place-test.true in
    let inside = subst (All (λ i. i < length c.loop-place.numbers)) first c.loop-place.invariant.1.1 in
    inside 0 0 (omega arith)

pub mark_last-requires-clause-waiting : goal.mark_last-requires-clause-waiting
mark_last-requires-clause-waiting c =
    let first = origins-step c.args.links.now c.requires.links c.loop-place.place c.loop-place-test.true in
    let inside = subst (All (λ i. i < length c.loop-place.numbers)) first c.loop-place.invariant.1.1 in
    let here = inside 0 0 (omega arith) in
    let same = c.requires.same in
    let a = c.loop-place.invariant.0.same in
    let b = c.loop-place.invariant.0.same_waiting in
    omega (arith, here, same, a, b)

pub mark_last-requires-clause-some : goal.mark_last-requires-clause-some
mark_last-requires-clause-some c =
    let links = c.args.links.now in
    let place = c.loop-place.place in
    let origin = (link_at links place).origin in
    let next = (link_at links place).next in
    let first = origins-step links c.requires.links place c.loop-place-test.true in
    let enough = c.loop-place.invariant.0.enough origin in
    let whole : times origin (origins_from links place) ≡ times origin (origin ∷ origins_from links next) = ap (times origin) first in
    let parts = times-cons origin origin (origins_from links next) in
    let one : one_if (eqb origin origin) ≡ 1 = ap one_if (eq-eqb origin origin refl) in
    omega (arith, enough, whole, parts, one)

pub loop-place-preserved : goal.loop-place-preserved
loop-place-preserved c =
    let links = c.args.links.now in
    let place = c.loop-place.place in
    let origin = (link_at links place).origin in
    let next = (link_at links place).next in
    let all = origins_from links c.args.place in
    let first = origins-step links c.requires.links place c.loop-place-test.true in
    let inside = subst (All (λ i. i < length c.loop-place.numbers)) first c.loop-place.invariant.1.1 in
    let rest : MarksLastRest c.args.number all (origin ∷ origins_from links next) c.args.waiting.now c.loop-place.waiting c.args.numbers.now c.loop-place.numbers c.args.found.now.items c.loop-place.found.items
    = subst (λ l. MarksLastRest c.args.number all l c.args.waiting.now c.loop-place.waiting c.args.numbers.now c.loop-place.numbers c.args.found.now.items c.loop-place.found.items) first c.loop-place.invariant.0 in
    let same = c.mark_last.auto.numbers in
    let less = c.requires.links (place - 1) in
    let most = c.loop-place.invariant.1.0 in (
      last-turn c.args.number all (origin ∷ []) (origins_from links next) c.args.waiting.now c.loop-place.waiting c.mark_last.new.waiting c.args.numbers.now c.loop-place.numbers c.mark_last.new.numbers c.args.found.now.items c.loop-place.found.items c.mark_last.new.found.items rest c.in_ok-mark_last.ensures same,
      (omega (arith, less, most), λ k d l. let h = inside (suc k) d (omega arith) in omega (arith, h, same)),
    )

pub returns : goal.returns
returns c =
    let links = c.args.links.now in
    let all = origins_from links c.args.place in
    let none : origins_from links c.loop-place.place ≡ [] = ap (origins_from links) c.loop-place-test.false ∙ origins-end links in
    last-end c.args.number all c.args.waiting.now c.loop-place.waiting c.args.numbers.now c.loop-place.numbers c.args.found.now.items c.loop-place.found.items
    (subst (λ l. MarksLastRest c.args.number all l c.args.waiting.now c.loop-place.waiting c.args.numbers.now c.loop-place.numbers c.args.found.now.items c.loop-place.found.items) none c.loop-place.invariant.0)
