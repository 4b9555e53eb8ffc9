-- A square put into a mask, or taken out.
use Rattle.std.proofs.Common.{◌≡◌, ℕ, ◌<◌, ◌^◌, ◌==◌, Bool, true, false, not, ◌&&◌, ◌||◌, refl, sym, ◌∙◌, ap}
use Rattle.std.specs.Prelude.{if◌then◌else◌}
use Rattle.std.specs.Int.{bit_not, w32}
use Rattle.std.specs.Int.Bits.{bit_and, bit_or}
use Rattle.draughts_board.specs.Masks.{stands_in, IsMaskOf}
use Rattle.draughts_board.proofs.Bits.{stands_in-and, stands_in-or, stands_in-not}

put_or : (stands here keep : Bool) → keep ≡ true → (stands || here) ≡ (if here then keep else stands)
put_or true true keep e = sym e
put_or false true keep e = sym e
put_or true false keep e = refl
put_or false false keep e = refl

take_out : (stands here keep : Bool) → keep ≡ false → (stands && not here) ≡ (if here then keep else stands)
take_out true true keep e = sym e
take_out false true keep e = sym e
take_out true false keep e = refl
take_out false false keep e = refl

pub put-square : (mask bit x : ℕ) (keep : Bool) → keep ≡ true → IsMaskOf (λ n. n == x) bit → IsMaskOf (λ n. if n == x then keep else stands_in mask n) (bit_or mask bit)
put-square mask bit x keep e h n s = stands_in-or mask bit n ∙ ap (λ b. stands_in mask n || b) (h n s) ∙ put_or (stands_in mask n) (n == x) keep e

pub take-square : (mask bit x : ℕ) (keep : Bool) → keep ≡ false → bit < 2 ^ 32 → IsMaskOf (λ n. n == x) bit → IsMaskOf (λ n. if n == x then keep else stands_in mask n) (bit_and mask (bit_not w32 bit))
take-square mask bit x keep e fits h n s =
    stands_in-and mask (bit_not w32 bit) n
    ∙ ap (λ b. stands_in mask n && b) (stands_in-not bit n fits s ∙ ap not (h n s))
    ∙ take_out (stands_in mask n) (n == x) keep e
