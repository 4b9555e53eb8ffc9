use Rattle.std.proofs.Common.{◌∙◌, ap}
use Rattle.draughts_board.specs.Masks.{cells_in}
use Rattle.draughts_board.proofs.FourMasks.{cells_in-masks_of}
use Rattle.draughts_board.proofs.positions.Position.cells.Goals as goal

pub returns-clause-value : goal.returns-clause-value
returns-clause-value c = c.cells_in.ensures ∙ ap cells_in c.masks.ensures.value ∙ cells_in-masks_of c.args.self.now c.masks.ensures.lawful.squares
