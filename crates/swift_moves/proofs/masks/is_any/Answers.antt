use Rattle.draughts_board.proofs.OnSquares.{some_stand}
use Rattle.swift_moves.proofs.masks.is_any.Goals as goal

pub returns : goal.returns
returns c = some_stand c.args.mask c.ranges.mask.fits
