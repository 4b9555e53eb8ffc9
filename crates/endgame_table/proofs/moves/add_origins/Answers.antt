use Rattle.std.proofs.Common.{◌≡◌, ◌+◌, ◌<◌, [], ◌∷◌, ◌++◌, length, map, take, get_or, sym, ◌∙◌, ap, subst, arith}
use Rattle.std.proofs.lemmas.List.{take_more, map-append}
use Rattle.draughts_board.specs.Board.{Board}
use Rattle.table_index.specs.Order.{index_of}
use Rattle.endgame_table.specs.Origins.{AddsOrigins}
use Rattle.endgame_table.proofs.ListedMoves.{adds-one, are-more, adds-append}
use Rattle.endgame_table.proofs.moves.add_origins.Goals as goal

pub loop-p-preserved : goal.loop-p-preserved
loop-p-preserved c =
    let next = c.args.next.now in
    let k = c.loop-p.p-index in
    let old = c.args.origins.now in
    let now = c.loop-p.origins in
    let new = c.add.new.self in
    let count = length old.heads.items in
    let q : Board = c.p-item.result in
    let target = c.index_of.result in
    let here : target ≡ index_of q = c.index_of.ensures.value in
    let read : q ≡ get_or next k q = c.p-item.is in
    let inside : target < count = (let h = c.requires.inside k q c.loop-p-test.true in let e : index_of (get_or next k q) ≡ index_of q = ap index_of (sym read) in omega (arith, here, h, e)) in
    let one = adds-one now new count target c.args.index c.loop-p.invariant.1.0 inside c.requires.index c.in_ok-add.ensures.links c.in_ok-add.ensures.heads in
    let more = are-more now new count target c.args.index c.loop-p.invariant.1.0 inside c.requires.index c.in_ok-add.ensures.links c.in_ok-add.ensures.heads in
    let whole : map index_of (take (k + 1) next) ≡ map index_of (take k next) ++ target ∷ []
    = ap (map index_of) (take_more next k q c.loop-p-test.true) ∙ map-append index_of (take k next) (get_or next k q ∷ []) ∙ (λ i. map index_of (take k next) ++ (ap index_of (sym read) ∙ sym here) i ∷ []) in (
      subst (λ l. AddsOrigins c.args.index l old new) (sym whole) (adds-append c.args.index (map index_of (take k next)) (target ∷ []) old now new c.loop-p.invariant.0 one),
      (more, c.in_ok-add.ensures.room),
    )
