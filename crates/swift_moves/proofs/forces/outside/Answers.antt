use Rattle.std.proofs.Common.{◌∙◌, ◌&&◌}
use Rattle.std.specs.Int.{bit_not, w32}
use Rattle.draughts_board.proofs.Bits.{stands_in-and, stands_in-not}
use Rattle.swift_moves.proofs.forces.outside.Goals as goal

pub returns : goal.returns
returns c n h =
    stands_in-and (bit_not w32 c.args.black) (bit_not w32 c.args.white) n
    ∙ (λ i. stands_in-not c.args.black n c.ranges.black.fits h i && stands_in-not c.args.white n c.ranges.white.fits h i)
