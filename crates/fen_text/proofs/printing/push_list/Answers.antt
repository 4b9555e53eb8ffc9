use Rattle.std.proofs.Common.{◌≡◌, ◌+◌, true, false, arith, sym, refl, ◌∙◌, ap, ◌∷◌, [], ◌++◌, get_or, length, take, length-append}
use Rattle.draughts_board.specs.Board.{belongs}
use Rattle.draughts_board.specs.declared.pieces.Cell.TheVariants.{Empty}
use Rattle.fen_text.specs.Printed.{printed_item, printed_items, next_text}
use Rattle.fen_text.proofs.Lists.{most_items, items_more, items_same, square_is, cell_is, so_far-push}
use Rattle.fen_text.proofs.printing.push_list.Goals as goal
use Rattle.fen_text.proofs.printing.push_list.Goals.{then-belongs_to, else-belongs_to}

pub push_next-requires : goal.push_next-requires
push_next-requires c =
    let i = c.loop-square.square-index in
    let here = square_is c.all-square-items.result i c.square-item.result c.all-square-items.ensures c.loop-square-test.true in
    let cell = cell_is c.args.p.now i (get_or c.all-square-items.result i c.square-item.result) c.at-cell.result here c.at-cell.ensures.value in
    let mine : belongs c.args.side (get_or c.args.p.now.cells i Empty) ≡ true = sym (ap (belongs c.args.side) cell) ∙ sym c.belongs_to.ensures ∙ c.if-belongs_to.true in
    let more = ap length (items_more c.args.side c.args.p.now i c.requires.lawful c.loop-square-test.true mine) in
    omega (arith, c.loop-square.invariant.room, most_items c.args.side c.args.p.now (i + 1) c.requires.lawful, c.requires.room, more, length-append (printed_items c.args.side 1 (take i c.args.p.now.cells)) (printed_item (i + 1) (get_or c.args.p.now.cells i Empty) ∷ []))

pub loop-square-preserved : goal.loop-square-preserved
loop-square-preserved c =
    let i = c.loop-square.square-index in
    let p = c.args.p.now in
    let here = square_is c.all-square-items.result i c.square-item.result c.all-square-items.ensures c.loop-square-test.true in
    let cell = cell_is p i (get_or c.all-square-items.result i c.square-item.result) c.at-cell.result here c.at-cell.ensures.value in
    elim c.if-belongs_to.branch [
      | then-belongs_to w ↦ (
          let mine : belongs c.args.side (get_or p.cells i Empty) ≡ true = sym (ap (belongs c.args.side) cell) ∙ sym c.belongs_to.ensures ∙ w.if-belongs_to.true in
          let bytes : w.push_next.new.text.bytes ≡ c.loop-square.text.bytes ++ next_text c.loop-square.is_first (printed_item (i + 1) (get_or p.cells i Empty)) = w.push_next.ensures.bytes ∙ rw (here, cell) refl in
          let step = so_far-push c.args.text.now.bytes c.loop-square.text.bytes w.push_next.new.text.bytes c.loop-square.is_first (printed_items c.args.side 1 (take i p.cells)) (i + 1) (get_or p.cells i Empty) c.loop-square.invariant bytes w.push_next.ensures.len in
          rw (w.text-is, w.is_first-is, items_more c.args.side p i c.requires.lawful c.loop-square-test.true mine) step)
      | else-belongs_to w ↦ (
          let other : belongs c.args.side (get_or p.cells i Empty) ≡ false = sym (ap (belongs c.args.side) cell) ∙ sym c.belongs_to.ensures ∙ w.if-belongs_to.false in
          rw (w.text-is, w.is_first-is, items_same c.args.side p i c.requires.lawful c.loop-square-test.true other) c.loop-square.invariant)
    ]

pub returns-clause-len : goal.returns-clause-len
returns-clause-len c = omega (arith, c.loop-square.invariant.room, most_items c.args.side c.args.p.now c.loop-square.square-index c.requires.lawful, c.requires.room)
