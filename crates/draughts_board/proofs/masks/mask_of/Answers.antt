use Rattle.std.proofs.Common.{◌≡◌, ℕ, suc, true, false, ◌+◌, ◌-◌, ◌*◌, ◌^◌, ◌<◌, ◌≤◌, Bool, cond, List, length, drop, get_or, sym, ◌∙◌, ap, arith, length-drop}
use Rattle.std.proofs.Math.Pow.{pow_mono}
use Rattle.std.proofs.Math.Seq.{drop-cons}
use Rattle.std.proofs.lemmas.List.{drop_all}
use Rattle.draughts_board.specs.declared.pieces.Cell.{Cell}
use Rattle.draughts_board.specs.declared.pieces.Cell.TheVariants.{Empty}
use Rattle.draughts_board.specs.Board.{same_cell}
use Rattle.draughts_board.specs.Masks.{mask_of}
use Rattle.draughts_board.specs.MasksBack.{mask_of-fits}
use Rattle.draughts_board.proofs.masks.mask_of.Goals as goal

-- the mask of at most 31 cells
fits_31 : (piece : Cell) (cells : List Cell) (i : ℕ) → length cells ≡ 32 → i < 32 → mask_of piece (drop (32 - i) cells) < 2 ^ 31
fits_31 piece cells i size within =
    let left : length (drop (32 - i) cells) ≤ 31 = omega (arith, length-drop (32 - i) cells, size) in
    omega (arith, mask_of-fits piece (drop (32 - i) cells), pow_mono left)

-- one more cell in front
one_more : (piece : Cell) (cells : List Cell) (i : ℕ) → length cells ≡ 32 → i < 32 → cond (same_cell piece (get_or cells (31 - i) Empty)) 1 0 + 2 * mask_of piece (drop (32 - i) cells) ≡ mask_of piece (drop (32 - (i + 1)) cells)
unfolding mask_of
one_more piece cells i size within =
    let here : 32 - (i + 1) ≡ 31 - i = omega arith in
    let next : suc (31 - i) ≡ 32 - i = omega arith in
    sym (ap (λ k. mask_of piece (drop k cells)) here
    ∙ ap (mask_of piece) (drop-cons cells (31 - i) Empty (omega (arith, size)))
    ∙ ap (λ k. cond (same_cell piece (get_or cells (31 - i) Empty)) 1 0 + 2 * mask_of piece (drop k cells)) next)

pub overflow_mul-mask : goal.overflow_mul-mask
overflow_mul-mask c =
    let fits = fits_31 c.args.piece c.args.cells.now c.loop-i.i c.told-cells c.loop-i-test.true in
    omega (arith, fits, c.loop-i.invariant)

pub loop-i-init : goal.loop-i-init
unfolding mask_of
loop-i-init c = sym (ap (mask_of c.args.piece) (drop_all 32 c.args.cells.now (omega (arith, c.told-cells))))

one_at_most : (b : Bool) → cond b 1 0 ≤ 1
one_at_most true = omega arith
one_at_most false = omega arith

pub overflow_add-mask : goal.overflow_add-mask
overflow_add-mask c =
    let fits = fits_31 c.args.piece c.args.cells.now c.loop-i.i c.told-cells c.loop-i-test.true in
    let at_most = one_at_most (same_cell c.args.piece (get_or c.args.cells.now (31 - c.loop-i.i) Empty)) in
    omega (arith, fits, at_most, c.bit_of.ensures, c.loop-i.invariant)

pub loop-i-preserved : goal.loop-i-preserved
loop-i-preserved c =
    let more = one_more c.args.piece c.args.cells.now c.loop-i.i c.told-cells c.loop-i-test.true in
    omega (arith, more, c.bit_of.ensures, c.loop-i.invariant)
