use Rattle.std.proofs.Common.{◌∙◌, sym, ap, ◌-◌, get_or}
use Rattle.draughts_board.specs.declared.pieces.Cell.TheVariants.{Empty}
use Rattle.draughts_board.specs.Masks.{cell_in, masks_of}
use Rattle.draughts_board.specs.MasksBack.{cell_at-cells_in}
use Rattle.draughts_board.proofs.FourMasks.{cells_in-masks_of}
use Rattle.draughts_board.proofs.positions.Position.at.Goals as goal

pub returns-clause-value : goal.returns-clause-value
returns-clause-value c =
    let p = c.args.self.now in
    c.cell_in.ensures.value
    ∙ ap (λ masks. cell_in masks c.args.s) c.masks.ensures.value
    ∙ sym (cell_at-cells_in (masks_of p) p.to_move c.args.s c.cell_in.ensures.square)
    ∙ ap (λ cells. get_or cells (c.args.s - 1) Empty) (cells_in-masks_of p c.masks.ensures.lawful.squares)
