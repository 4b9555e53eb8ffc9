use Rattle.std.proofs.Common.{◌+◌, List, get_or, take, refl, sym, ◌∙◌, subst, arith}
use Rattle.std.proofs.lemmas.List.{take_all}
use Rattle.draughts_board.specs.Board.{Board}
use Rattle.position_rows.specs.Rows.{IsRowAt}
use Rattle.position_rows.specs.Looks.{AreIndexed}
use Rattle.position_rows.proofs.ApartLemmas.{none_before, row_here}
use Rattle.position_rows.proofs.IndexedLemmas.{indexed_moved, one_more, place_moved, row_before}
use Rattle.position_rows.proofs.tables.indexed.Goals as goal

pub look_up-look-requires-clause-indexed : goal.look_up-look-requires-clause-indexed
look_up-look-requires-clause-indexed g c =
    indexed_moved (take c.loop-i.i c.args.rows.now) c.loop-i.slots.items c.deref.result.now c.loop-i.nodes.items c.deref-in-loop-i.result.now
    (sym c.deref.ensures.value) (sym (c.deref-in-loop-i.ensures.value ∙ c.reserve.ensures.items)) c.loop-i.invariant.indexed

pub enter-requires-clause-place : goal.enter-requires-clause-place
enter-requires-clause-place g c =
    let rows = c.args.rows.now in
    let p : Board = (get_or c.args.rows.now c.loop-i.i c.index-rows-i.result).0 in
    place_moved (take c.loop-i.i rows) c.deref.result.now c.loop-i.slots.items c.deref-in-loop-i.result.now c.reserve.new.self.items
    c.deref.ensures.value c.deref-in-loop-i.ensures.value p c.look_up-look.result
    (none_before rows c.requires.apart c.loop-i.i p (row_here rows c.loop-i.i c.index-rows-i.result c.loop-i-test.true)) c.look_up-look.ensures

pub loop-i-preserved : goal.loop-i-preserved
loop-i-preserved g c =
    let rows = c.args.rows.now in
    let i = c.loop-i.i in
    let p : Board = (get_or c.args.rows.now c.loop-i.i c.index-rows-i.result).0 in
    let row : IsRowAt c.args.rows.now c.loop-i.i (get_or c.args.rows.now c.loop-i.i c.index-rows-i.result).0 = row_here rows i c.index-rows-i.result c.loop-i-test.true in
    record {
      indexed = one_more (take i rows) (take (i + 1) rows) c.loop-i.slots.items c.enter.new.slots.items c.reserve.new.self.items c.enter.new.nodes.items p i
          (indexed_moved (take i rows) c.loop-i.slots.items c.loop-i.slots.items c.loop-i.nodes.items c.reserve.new.self.items refl (sym c.reserve.ensures.items) c.loop-i.invariant.indexed)
          (c.enter.ensures.entered i refl) (λ k q there. row_before rows i k p q row there);
      slots = c.enter.ensures.slots ∙ c.loop-i.invariant.slots;
      nodes = omega (arith, c.enter.ensures.nodes, c.reserve.ensures.len, c.loop-i.invariant.nodes);
    }

pub returns-clause-indexed : goal.returns-clause-indexed
returns-clause-indexed g c =
    subst (λ (rows : List (Board × g.row.E.Denot)). AreIndexed rows c.loop-i.slots.items c.loop-i.nodes.items)
    (take_all c.loop-i.i c.args.rows.now c.loop-i-test.false) c.loop-i.invariant.indexed
