use Rattle.std.proofs.Common.{◌∙◌, ap, not}
use Rattle.draughts_board.proofs.FourMasks.{apart-by_shared}
use Rattle.draughts_board.proofs.masks.are_apart.Goals as goal

pub returns : goal.returns
returns c = ap not c.is_any.ensures ∙ apart-by_shared c.args.masks.now c.told-masks
