use Rattle.std.proofs.Common.{◌≡◌, ◌-◌, ◌*◌, ◌%◌, ◌^◌, ◌==◌, sym, subst}
use Rattle.draughts_board.specs.Masks.{stands_in}
use Rattle.draughts_board.proofs.Bits.{one_square}
use Rattle.draughts_board.proofs.squares.Square.bit.Goals as goal

pub returns-clause-value : goal.returns-clause-value
returns-clause-value c = λ n h. subst (λ x. stands_in (1 * 2 ^ (x - 1) % 2 ^ 32) n ≡ (n == c.args.self)) (sym c.number.ensures.value) (one_square c.args.self n c.number.ensures.range h)
