use Rattle.std.proofs.Common.{◌≡◌, suc, ◌-◌, ◌<◌, [], ◌∷◌, length, ◌∙◌, ap, subst, arith}
use Rattle.std.specs.Prelude.{All}
use Rattle.endgame_table.specs.Origins.{link_at, origins_from}
use Rattle.endgame_table.proofs.OriginLists.{origins-step, origins-end}
use Rattle.endgame_table.proofs.MarkLemmas.{MarksRest, rest-turn, rest-end}
use Rattle.endgame_table.proofs.marking.mark_origins.Goals as goal

pub mark-requires : goal.mark-requires
mark-requires c =
    let links = c.args.links.now in
    let place = c.loop-place.place in
    let first = origins-step links c.requires.links place c.loop-place-test.true in
    let inside = subst (All (λ i. i < length c.loop-place.numbers)) first c.loop-place.invariant.1.1 in
    inside 0 0 (omega arith)

pub loop-place-preserved : goal.loop-place-preserved
loop-place-preserved c =
    let links = c.args.links.now in
    let place = c.loop-place.place in
    let origin = (link_at links place).origin in
    let next = (link_at links place).next in
    let first = origins-step links c.requires.links place c.loop-place-test.true in
    let inside = subst (All (λ i. i < length c.loop-place.numbers)) first c.loop-place.invariant.1.1 in
    let rest : MarksRest c.args.number (origins_from links c.args.place) (origin ∷ origins_from links next) c.args.numbers.now c.loop-place.numbers c.args.found.now.items c.loop-place.found.items
    = subst (λ l. MarksRest c.args.number (origins_from links c.args.place) l c.args.numbers.now c.loop-place.numbers c.args.found.now.items c.loop-place.found.items) first c.loop-place.invariant.0 in
    let same = c.mark.auto.numbers in
    let less = c.requires.links (place - 1) in
    let most = c.loop-place.invariant.1.0 in (
      rest-turn c.args.number (origins_from links c.args.place) (origin ∷ []) (origins_from links next) c.args.numbers.now c.loop-place.numbers c.mark.new.numbers c.args.found.now.items c.loop-place.found.items c.mark.new.found.items rest c.in_ok-mark.ensures same,
      (omega (arith, less, most), λ k d l. let h = inside (suc k) d (omega arith) in omega (arith, h, same)),
    )

pub returns : goal.returns
returns c =
    let links = c.args.links.now in
    let none : origins_from links c.loop-place.place ≡ [] = ap (origins_from links) c.loop-place-test.false ∙ origins-end links in
    rest-end c.args.number (origins_from links c.args.place) c.args.numbers.now c.loop-place.numbers c.args.found.now.items c.loop-place.found.items
    (subst (λ l. MarksRest c.args.number (origins_from links c.args.place) l c.args.numbers.now c.loop-place.numbers c.args.found.now.items c.loop-place.found.items) none c.loop-place.invariant.0)
