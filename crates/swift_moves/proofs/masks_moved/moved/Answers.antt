use Rattle.std.proofs.Common.{◌≡◌, ◌∙◌, ◌==◌, ◌&&◌, ◌||◌, Bool, true, false, not, ap, sym, refl}
use Rattle.std.specs.Int.{bit_not, w32}
use Rattle.std.specs.Int.Bits.{bit_and}
use Rattle.draughts_board.specs.Masks.{stands_in}
use Rattle.draughts_board.proofs.Bits.{stands_in-and, stands_in-or, stands_in-not}
use Rattle.swift_moves.proofs.masks_moved.moved.Goals as goal

and_true : (a b : Bool) → b ≡ true → a ≡ (a && b)
and_true true b e = sym e
and_true false b e = refl

or_nothing : (a b c : Bool) → c ≡ false → a ≡ (a || (b && c))
or_nothing true b c e = refl
or_nothing false true c e = sym e
or_nothing false false c e = refl

pub returns-then-lands : goal.returns-then-lands
returns-then-lands c n h =
    stands_in-or (bit_and c.args.mask (bit_not w32 c.bit-start.result)) c.bit-end.result n
    ∙ (λ i. (stands_in-and c.args.mask (bit_not w32 c.bit-start.result) n ∙ ap (λ b. stands_in c.args.mask n && b) (stands_in-not c.bit-start.result n c.bit-start.type_inv h ∙ ap not (c.bit-start.ensures.value n h))) i
    || (c.bit-end.ensures.value n h ∙ and_true (n == c.args.to) c.args.lands c.if-lands.true) i)

pub returns-else-lands : goal.returns-else-lands
returns-else-lands c n h =
    stands_in-and c.args.mask (bit_not w32 c.bit-start.result) n
    ∙ ap (λ b. stands_in c.args.mask n && b) (stands_in-not c.bit-start.result n c.bit-start.type_inv h ∙ ap not (c.bit-start.ensures.value n h))
    ∙ or_nothing (stands_in c.args.mask n && not (n == c.args.«from»)) (n == c.args.to) c.args.lands c.if-lands.false
