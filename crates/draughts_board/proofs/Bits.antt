-- What a bit operation does to the squares of masks.
use Rattle.std.proofs.Common.{◌≡◌, ℕ, zero, suc, ◌+◌, ◌-◌, ◌*◌, ◌/◌, ◌%◌, ◌^◌, ◌<◌, Bool, true, false, not, ◌&&◌, ◌||◌, ◌==◌, min, max, refl, ◌⊎◌, inl, inr, ◌≢◌, sym, ◌∙◌, ap, arith}
use Rattle.std.specs.Prelude.{nat_lt, nat_le}
use Rattle.std.specs.Int.{bit_at, bit_not, w32}
use Rattle.std.specs.Int.Bits.{bit_and, bit_or}
use Rattle.std.proofs.lemmas.Bool.Decides.{eqb_tells}
use Rattle.std.proofs.lemmas.Nat.{one_shl, pow_pos, shr-shr, shr_split}
use Rattle.std.proofs.lemmas.Nat.Bits.{bit_at-lt, bit_at_and, bit_at_or, bit_at_not, bit_at_cat_low, bit_at_cat_high, bit_at_above, bit_at-zero, bit_at-pow_same, bit_at-pow_other}
use Rattle.std.proofs.lemmas.Bool.{leb-false, ltb-false, ltb-true}
use Rattle.draughts_board.specs.Geometry.{IsSquare}
use Rattle.draughts_board.specs.Masks.{stands_in}

both_ones : (x y : ℕ) → x < 2 → y < 2 → (min x y == 1) ≡ ((x == 1) && (y == 1))
both_ones zero zero a b = refl
both_ones zero (suc zero) a b = refl
both_ones (suc zero) zero a b = refl
both_ones (suc zero) (suc zero) a b = refl
both_ones (suc (suc x)) y a b = absurd (omega arith)
both_ones x (suc (suc y)) a b = absurd (omega arith)

some_one : (x y : ℕ) → x < 2 → y < 2 → (max x y == 1) ≡ ((x == 1) || (y == 1))
some_one zero zero a b = refl
some_one zero (suc zero) a b = refl
some_one (suc zero) zero a b = refl
some_one (suc zero) (suc zero) a b = refl
some_one (suc (suc x)) y a b = absurd (omega arith)
some_one x (suc (suc y)) a b = absurd (omega arith)

no_one : (x : ℕ) → x < 2 → (1 - x == 1) ≡ not (x == 1)
no_one zero a = refl
no_one (suc zero) a = refl
no_one (suc (suc x)) a = absurd (omega arith)

pub stands_in-and : (a b n : ℕ) → stands_in (bit_and a b) n ≡ (stands_in a n && stands_in b n)
stands_in-and a b n = ap (λ x. x == 1) (bit_at_and a b (n - 1)) ∙ both_ones _ _ (bit_at-lt a (n - 1)) (bit_at-lt b (n - 1))

pub stands_in-or : (a b n : ℕ) → stands_in (bit_or a b) n ≡ (stands_in a n || stands_in b n)
stands_in-or a b n = ap (λ x. x == 1) (bit_at_or a b (n - 1)) ∙ some_one _ _ (bit_at-lt a (n - 1)) (bit_at-lt b (n - 1))

pub stands_in-not : (a n : ℕ) → a < 2 ^ 32 → IsSquare n → stands_in (bit_not w32 a) n ≡ not (stands_in a n)
stands_in-not a n fits h = ap (λ x. x == 1) (bit_at_not w32 a (n - 1) fits (omega (arith, h.0, h.1))) ∙ no_one _ (bit_at-lt a (n - 1))

-- `a >> k`
pub stands_in-shr : (a k n : ℕ) → a < 2 ^ 32 → IsSquare n → stands_in (a / 2 ^ k) n ≡ (nat_le (n + k) 32 && stands_in a (n + k))
stands_in-shr a k n fits h = by (nat_le (n + k) 32) refl
  where
    moved : bit_at (a / 2 ^ k) (n - 1) ≡ bit_at a (n + k - 1)
    moved = let e : k + (n - 1) ≡ n + k - 1 = omega (arith, h.0) in ap (λ x. x % 2) (shr-shr a k (n - 1)) ∙ ap (bit_at a) e

    by : (b : Bool) → nat_le (n + k) 32 ≡ b → stands_in (a / 2 ^ k) n ≡ (b && stands_in a (n + k))
    by true e = ap (λ x. x == 1) moved
    by false e = ap (λ x. x == 1) (moved ∙ bit_at_above a 32 (n + k - 1) fits (omega (arith, leb-false (n + k) 32 e)))

-- `a << k`
pub stands_in-shl : (a k n : ℕ) → IsSquare n → stands_in (a * 2 ^ k % 2 ^ 32) n ≡ (nat_lt k n && stands_in a (n - k))
stands_in-shl a k n h = by (nat_lt k n) refl
  where
    low : bit_at (a * 2 ^ k % 2 ^ 32) (n - 1) ≡ bit_at (a * 2 ^ k + 0) (n - 1)
    low = sym (bit_at_cat_low (a * 2 ^ k / 2 ^ 32) 32 (a * 2 ^ k % 2 ^ 32) (n - 1) (omega (arith, h.0, h.1))) ∙ ap (λ x. bit_at x (n - 1)) (let e : a * 2 ^ k / 2 ^ 32 * 2 ^ 32 + a * 2 ^ k % 2 ^ 32 ≡ a * 2 ^ k + 0 = omega (arith, shr_split (a * 2 ^ k) 32) in e)

    by : (b : Bool) → nat_lt k n ≡ b → stands_in (a * 2 ^ k % 2 ^ 32) n ≡ (b && stands_in a (n - k))
    by true e = ap (λ x. x == 1) (low ∙ bit_at_cat_high a k 0 (n - 1) (pow_pos k) (omega (arith, ltb-true k n e)) ∙ ap (bit_at a) (let f : n - 1 - k ≡ n - k - 1 = omega arith in f))
    by false e = ap (λ x. x == 1) (low ∙ bit_at_cat_low a k 0 (n - 1) (omega (arith, ltb-false k n e, h.0)) ∙ bit_at-zero (n - 1))

-- `1 << (x - 1)` holds x alone
one_square-by : (x n : ℕ) → IsSquare x → IsSquare n → ((n == x) ≡ true) × (n ≡ x) ⊎ ((n == x) ≡ false) × (n ≢ x) → stands_in (2 ^ (x - 1)) n ≡ (n == x)
one_square-by x n hx hn (inl h) = ap (λ k. bit_at (2 ^ (x - 1)) (k - 1) == 1) h.1 ∙ ap (λ b. b == 1) (bit_at-pow_same (x - 1)) ∙ sym h.0
one_square-by x n hx hn (inr h) = ap (λ b. b == 1) (bit_at-pow_other (x - 1) (n - 1) (λ e. h.1 (omega (arith, e, hx.0, hn.0)))) ∙ sym h.0

pub one_square : (x n : ℕ) → IsSquare x → IsSquare n → stands_in (1 * 2 ^ (x - 1) % 2 ^ 32) n ≡ (n == x)
one_square x n hx hn = ap (λ m. stands_in m n) (one_shl (x - 1) 32 (omega (arith, hx.0, hx.1))) ∙ one_square-by x n hx hn (eqb_tells n x)
