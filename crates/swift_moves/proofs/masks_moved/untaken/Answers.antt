use Rattle.std.proofs.Common.{◌∙◌, ◌&&◌, ap}
use Rattle.std.specs.Int.{bit_not, w32}
use Rattle.draughts_board.specs.Masks.{stands_in}
use Rattle.draughts_board.proofs.Bits.{stands_in-and, stands_in-not}
use Rattle.swift_moves.proofs.masks_moved.untaken.Goals as goal

pub returns : goal.returns
returns c n h =
    stands_in-and c.args.mask (bit_not w32 c.args.taken) n
    ∙ ap (λ b. stands_in c.args.mask n && b) (stands_in-not c.args.taken n c.ranges.taken.fits h)
