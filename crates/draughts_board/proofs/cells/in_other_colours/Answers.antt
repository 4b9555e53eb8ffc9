use Rattle.std.proofs.Common.{◌≡◌, ℕ, ◌+◌, ◌<◌, ◌∙◌, ap, sym, arith, get_or, set, take, drop, map, length, ◌++◌, List, length-append}
use Rattle.std.proofs.lemmas.List.{get_or_default, length-map, take-append-drop}
use Rattle.std.proofs.lemmas.List.Edits.{map_over_more}
use Rattle.draughts_board.specs.Board.{turned_cell}
use Rattle.draughts_board.specs.declared.pieces.Cell.{Cell}
use Rattle.draughts_board.specs.declared.pieces.Cell.TheVariants.{Empty}
use Rattle.draughts_board.proofs.cells.in_other_colours.Goals as goal

size : (cells now : List Cell) (i : ℕ) → now ≡ map turned_cell (take i cells) ++ drop i cells → length now ≡ length cells
size cells now i h =
    ap length h
    ∙ length-append (map turned_cell (take i cells)) (drop i cells)
    ∙ ap (λ n. n + length (drop i cells)) (length-map (take i cells) turned_cell)
    ∙ sym (length-append (take i cells) (drop i cells))
    ∙ ap length (take-append-drop i cells)

pub loop-i-preserved : goal.loop-i-preserved
loop-i-preserved c =
    let same = size c.args.cells.now c.loop-i.turned c.loop-i.i c.loop-i.invariant in
    let within : c.loop-i.i < length c.loop-i.turned = omega (arith, same, c.told-cells, c.loop-i-test.true) in
    ap (λ x. set c.loop-i.turned c.loop-i.i x) c.turned.ensures
    ∙ map_over_more turned_cell c.args.cells.now c.loop-i.turned c.loop-i.i (get_or c.loop-i.turned c.loop-i.i Empty) (omega (arith, c.told-cells, c.loop-i-test.true)) c.loop-i.invariant
    (get_or_default c.loop-i.turned c.loop-i.i Empty (get_or c.loop-i.turned c.loop-i.i Empty) within)
