use Rattle.draughts_board.proofs.CountMasks.{ones-stands_in}
use Rattle.draughts_board.proofs.masks.count_in.Goals as goal

pub returns-clause-value : goal.returns-clause-value
returns-clause-value c = ones-stands_in c.args.mask c.ranges.mask.fits
