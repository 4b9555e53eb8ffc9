use Rattle.std.proofs.Common.{◌∙◌, ap, not}
use Rattle.draughts_board.proofs.FourMasks.{allowed-by_rows}
use Rattle.draughts_board.proofs.masks.are_allowed.Goals as goal

pub returns : goal.returns
returns c = ap not c.is_any.ensures ∙ allowed-by_rows c.args.masks.now c.told-masks c.requires
