use Rattle.std.proofs.Common.{◌∙◌, ◌&&◌, ◌||◌, ap}
use Rattle.std.specs.Int.Bits.{bit_and, bit_or}
use Rattle.draughts_board.specs.Masks.{stands_in}
use Rattle.draughts_board.proofs.Bits.{stands_in-and, stands_in-or}
use Rattle.swift_moves.proofs.movers.going.Goals as goal

pub returns : goal.returns
returns c n h =
    let m = c.args.f.now.men in
    let k = c.args.f.now.kings in
    let ahead = c.forward.result in
    stands_in-or (bit_and m ahead) (bit_and k (bit_or c.args.up c.args.down)) n
    ∙ (λ i. (stands_in-and m ahead n ∙ ap (λ w. stands_in m n && stands_in w n) c.forward.ensures) i || (stands_in-and k (bit_or c.args.up c.args.down) n ∙ ap (λ b. stands_in k n && b) (stands_in-or c.args.up c.args.down n)) i)
