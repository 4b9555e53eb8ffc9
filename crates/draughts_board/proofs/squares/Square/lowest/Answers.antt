use Rattle.std.proofs.Common.{◌≡◌, ◌∷◌, ◌+◌, ◌-◌, ◌∙◌, ap, arith}
use Rattle.std.specs.Int.Bits.{bit_and}
use Rattle.std.specs.Int.Count.{count_trailing_zeros}
use Rattle.draughts_board.specs.Masks.{squares_of}
use Rattle.draughts_board.proofs.LowestSquares.{squares_of-lowest}
use Rattle.draughts_board.proofs.squares.Square.lowest.Goals as goal

pub returns-clause-first : goal.returns-clause-first
returns-clause-first c =
    let place : 1 + count_trailing_zeros 32 c.args.mask ≡ count_trailing_zeros 32 c.args.mask + 1 = omega arith in
    squares_of-lowest c.args.mask c.requires c.ranges.mask.fits ∙ ap (λ n. n ∷ squares_of (bit_and c.args.mask (c.args.mask - 1))) place
