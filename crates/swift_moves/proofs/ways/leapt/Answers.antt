use Rattle.std.proofs.Common.{◌∙◌, ◌&&◌, ap}
use Rattle.std.specs.Int.Bits.{bit_and}
use Rattle.draughts_board.specs.Masks.{stands_in}
use Rattle.swift_moves.specs.Ways.{next_is, opposite}
use Rattle.draughts_board.proofs.Bits.{stands_in-and}
use Rattle.swift_moves.proofs.Shifts.{next_is-same}
use Rattle.swift_moves.proofs.ways.leapt.Goals as goal

pub returns : goal.returns
returns c n h =
    let w = opposite c.args.way in
    c.reached-2.ensures n h
    ∙ next_is-same w (stands_in (bit_and c.reached.result c.args.over)) (λ y. next_is w (stands_in c.args.mask) y && stands_in c.args.over y) n
    (λ y s. stands_in-and c.reached.result c.args.over y ∙ ap (λ b. b && stands_in c.args.over y) (c.reached.ensures y s))
