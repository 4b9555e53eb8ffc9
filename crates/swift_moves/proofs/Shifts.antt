-- The four whole-board shifts, computed once over all squares.
use Rattle.std.proofs.Common.{◌≡◌, ℕ, ◌+◌, ◌-◌, ◌*◌, ◌/◌, ◌%◌, ◌^◌, ◌<◌, Bool, true, false, cond, ◌&&◌, ◌||◌, get_or, refl, sym, ◌∙◌, ap, arith}
use Rattle.std.specs.Prelude.{map, nat_lt, nat_le}
use Rattle.std.specs.List.{range_with_len}
use Rattle.std.specs.Int.Bits.{bit_and, bit_or}
use Rattle.std.proofs.Math.Bool.{or-false}
use Rattle.std.proofs.lemmas.List.FromFn.{get_or-map-range_with_len}
use Rattle.draughts_board.specs.Geometry.{IsSquare, is_square}
use Rattle.draughts_board.proofs.OnSquares.{square_so}
use Rattle.swift_moves.specs.declared.ways.Way.{Way}
use Rattle.swift_moves.specs.declared.ways.Way.TheVariants.{UpLeft, UpRight, DownLeft, DownRight}
use Rattle.draughts_board.specs.Masks.{IsMaskOf, stands_in}
use Rattle.swift_moves.specs.Ways.{next, next_is}
use Rattle.draughts_board.proofs.Bits.{stands_in-and, stands_in-or, stands_in-shl, stands_in-shr}

-- two tests that a rule gives square by square, read at one square
pub test_at : (f g : ℕ → Bool) → map f (range_with_len 1 32) ≡ map g (range_with_len 1 32) → (x : ℕ) → IsSquare x → f x ≡ g x
test_at f g e x h =
    let place : x - 1 < 32 = omega (arith, h.0, h.1) in
    let back : 1 + (x - 1) ≡ x = omega (arith, h.0) in
    sym (get_or-map-range_with_len f 1 32 (x - 1) x false place back) ∙ ap (λ l. get_or l (x - 1) false) e ∙ get_or-map-range_with_len g 1 32 (x - 1) x false place back

-- an or of two parts that exclude each other
apart : (a b x y : Bool) → (a && b) ≡ false → ((a && x) || (b && y)) ≡ cond a x (b && y)
apart true true x y e = absurd (cc)
apart true false x y e = or-false x
apart false b x y e = refl

-- up: m << i on the squares of a, m << j on the squares of b
up_shifts : (m a b i j x : ℕ) → IsSquare x → (stands_in a x && stands_in b x) ≡ false
    → stands_in (bit_or (bit_and a (m * 2 ^ i % 2 ^ 32)) (bit_and b (m * 2 ^ j % 2 ^ 32))) x
    ≡ cond (stands_in a x) (nat_lt i x && stands_in m (x - i)) (stands_in b x && (nat_lt j x && stands_in m (x - j)))
up_shifts m a b i j x h e =
    stands_in-or (bit_and a (m * 2 ^ i % 2 ^ 32)) (bit_and b (m * 2 ^ j % 2 ^ 32)) x
    ∙ (λ t. (stands_in-and a (m * 2 ^ i % 2 ^ 32) x ∙ ap (λ s. stands_in a x && s) (stands_in-shl m i x h)) t || (stands_in-and b (m * 2 ^ j % 2 ^ 32) x ∙ ap (λ s. stands_in b x && s) (stands_in-shl m j x h)) t)
    ∙ apart (stands_in a x) (stands_in b x) (nat_lt i x && stands_in m (x - i)) (nat_lt j x && stands_in m (x - j)) e

-- down: m >> i and m >> j
down_shifts : (m a b i j x : ℕ) → m < 2 ^ 32 → IsSquare x → (stands_in a x && stands_in b x) ≡ false
    → stands_in (bit_or (bit_and a (m / 2 ^ i)) (bit_and b (m / 2 ^ j))) x
    ≡ cond (stands_in a x) (nat_le (x + i) 32 && stands_in m (x + i)) (stands_in b x && (nat_le (x + j) 32 && stands_in m (x + j)))
down_shifts m a b i j x fits h e =
    stands_in-or (bit_and a (m / 2 ^ i)) (bit_and b (m / 2 ^ j)) x
    ∙ (λ t. (stands_in-and a (m / 2 ^ i) x ∙ ap (λ s. stands_in a x && s) (stands_in-shr m i x fits h)) t || (stands_in-and b (m / 2 ^ j) x ∙ ap (λ s. stands_in b x && s) (stands_in-shr m j x fits h)) t)
    ∙ apart (stands_in a x) (stands_in b x) (nat_le (x + i) 32 && stands_in m (x + i)) (nat_le (x + j) 32 && stands_in m (x + j)) e

-- the pairs of column masks exclude each other
left_apart : (x : ℕ) → IsSquare x → (stands_in 252645135 x && stands_in 3772834016 x) ≡ false
left_apart = test_at (λ x. stands_in 252645135 x && stands_in 3772834016 x) (λ x. false) refl

right_apart : (x : ℕ) → IsSquare x → (stands_in 117901063 x && stands_in 4042322160 x) ≡ false
right_apart = test_at (λ x. stands_in 117901063 x && stands_in 4042322160 x) (λ x. false) refl

-- the shifted tests are `next_is`
up_left_rule : (test : ℕ → Bool) (x : ℕ) → IsSquare x → cond (stands_in 252645135 x) (nat_lt 4 x && test (x - 4)) (stands_in 3772834016 x && (nat_lt 5 x && test (x - 5))) ≡ next_is UpLeft test x
unfolding next
up_left_rule test = test_at (λ x. cond (stands_in 252645135 x) (nat_lt 4 x && test (x - 4)) (stands_in 3772834016 x && (nat_lt 5 x && test (x - 5)))) (next_is UpLeft test) refl

up_right_rule : (test : ℕ → Bool) (x : ℕ) → IsSquare x → cond (stands_in 117901063 x) (nat_lt 3 x && test (x - 3)) (stands_in 4042322160 x && (nat_lt 4 x && test (x - 4))) ≡ next_is UpRight test x
unfolding next
up_right_rule test = test_at (λ x. cond (stands_in 117901063 x) (nat_lt 3 x && test (x - 3)) (stands_in 4042322160 x && (nat_lt 4 x && test (x - 4)))) (next_is UpRight test) refl

down_left_rule : (test : ℕ → Bool) (x : ℕ) → IsSquare x → cond (stands_in 252645135 x) (nat_le (x + 4) 32 && test (x + 4)) (stands_in 3772834016 x && (nat_le (x + 3) 32 && test (x + 3))) ≡ next_is DownLeft test x
unfolding next
down_left_rule test = test_at (λ x. cond (stands_in 252645135 x) (nat_le (x + 4) 32 && test (x + 4)) (stands_in 3772834016 x && (nat_le (x + 3) 32 && test (x + 3)))) (next_is DownLeft test) refl

down_right_rule : (test : ℕ → Bool) (x : ℕ) → IsSquare x → cond (stands_in 117901063 x) (nat_le (x + 5) 32 && test (x + 5)) (stands_in 4042322160 x && (nat_le (x + 4) 32 && test (x + 4))) ≡ next_is DownRight test x
unfolding next
down_right_rule test = test_at (λ x. cond (stands_in 117901063 x) (nat_le (x + 5) 32 && test (x + 5)) (stands_in 4042322160 x && (nat_le (x + 4) 32 && test (x + 4)))) (next_is DownRight test) refl

-- what each arm of the code gives
pub up_left : (m : ℕ) → IsMaskOf (next_is UpLeft (stands_in m)) (bit_or (bit_and 252645135 (m * 2 ^ 4 % 2 ^ 32)) (bit_and 3772834016 (m * 2 ^ 5 % 2 ^ 32)))
up_left m x h = up_shifts m 252645135 3772834016 4 5 x h (left_apart x h) ∙ up_left_rule (stands_in m) x h

pub up_right : (m : ℕ) → IsMaskOf (next_is UpRight (stands_in m)) (bit_or (bit_and 117901063 (m * 2 ^ 3 % 2 ^ 32)) (bit_and 4042322160 (m * 2 ^ 4 % 2 ^ 32)))
up_right m x h = up_shifts m 117901063 4042322160 3 4 x h (right_apart x h) ∙ up_right_rule (stands_in m) x h

pub down_left : (m : ℕ) → m < 2 ^ 32 → IsMaskOf (next_is DownLeft (stands_in m)) (bit_or (bit_and 252645135 (m / 2 ^ 4)) (bit_and 3772834016 (m / 2 ^ 3)))
down_left m fits x h = down_shifts m 252645135 3772834016 4 3 x fits h (left_apart x h) ∙ down_left_rule (stands_in m) x h

pub down_right : (m : ℕ) → m < 2 ^ 32 → IsMaskOf (next_is DownRight (stands_in m)) (bit_or (bit_and 117901063 (m / 2 ^ 5)) (bit_and 4042322160 (m / 2 ^ 4)))
down_right m fits x h = down_shifts m 117901063 4042322160 5 4 x fits h (right_apart x h) ∙ down_right_rule (stands_in m) x h

guarded : (b : Bool) (x y : Bool) → (b ≡ true → x ≡ y) → (b && x) ≡ (b && y)
guarded true x y h = h refl
guarded false x y h = refl

-- tests that agree on the squares agree on the next ones
pub next_is-same : (w : Way) (f g : ℕ → Bool) (x : ℕ) → ((y : ℕ) → IsSquare y → f y ≡ g y) → next_is w f x ≡ next_is w g x
next_is-same w f g x h = guarded (is_square (next w x)) (f (next w x)) (g (next w x)) (λ e. h (next w x) (square_so (next w x) e))
