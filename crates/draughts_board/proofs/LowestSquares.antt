-- The lowest square of a mask stands first among its squares, and `m & (m - 1)` holds the others.
use Rattle.std.proofs.Common.{◌≡◌, ℕ, zero, suc, ◌+◌, ◌-◌, ◌*◌, ◌/◌, ◌%◌, ◌^◌, ◌<◌, cond, ◌==◌, min, List, [], ◌∷◌, refl, sym, ◌∙◌, ap, arith}
use Rattle.std.specs.Prelude.{filter}
use Rattle.std.specs.Int.{bit_at}
use Rattle.std.specs.Int.Count.{count_trailing_zeros, under}
use Rattle.std.specs.Int.Bits.{bit_and, and_step, and_self}
use Rattle.std.proofs.Math.Nat.{pow-succ'}
use Rattle.std.proofs.lemmas.Nat.Bits.{bit_at_lowest, bit_at-suc}
use Rattle.draughts_board.specs.Geometry.{squares}
use Rattle.draughts_board.specs.Masks.{squares_of}

-- the squares of the lowest n bits, the first of which is that of square k
abbrev pub lowest_squares : ℕ → ℕ → ℕ → List ℕ
lowest_squares zero k m = []
lowest_squares (suc n) k m = cond (m % 2 == 1) (k ∷ lowest_squares n (suc k) (m / 2)) (lowest_squares n (suc k) (m / 2))

-- m & (m - 1), from that of the half
rest_even : (m : ℕ) → 0 < m → m % 2 ≡ 0 → (bit_and m (m - 1) % 2 ≡ 0) × (bit_and m (m - 1) / 2 ≡ bit_and (m / 2) (m / 2 - 1))
rest_even m some even =
    let half : (m - 1) / 2 ≡ m / 2 - 1 = omega arith in
    let step : bit_and m (m - 1) ≡ bit_and (m / 2) (m / 2 - 1) * 2 + 0 = and_step m (m - 1) ∙ (λ i. bit_and (m / 2) (half i) * 2 + (let z : min (m % 2) ((m - 1) % 2) ≡ 0 = omega arith in z i)) in
    (omega (arith, step), omega (arith, step))

rest_odd : (m : ℕ) → m % 2 ≡ 1 → (bit_and m (m - 1) % 2 ≡ 0) × (bit_and m (m - 1) / 2 ≡ m / 2)
rest_odd m odd =
    let half : (m - 1) / 2 ≡ m / 2 = omega arith in
    let step : bit_and m (m - 1) ≡ m / 2 * 2 + 0 = and_step m (m - 1) ∙ (λ i. (ap (bit_and (m / 2)) half ∙ and_self (m / 2)) i * 2 + (let z : min (m % 2) ((m - 1) % 2) ≡ 0 = omega arith in z i)) in
    (omega (arith, step), omega (arith, step))

-- one digit of m further, where the half has been done
first_of-suc : (n k m d : ℕ) → 0 < m → m % 2 ≡ d → d < 2
    → (0 < m / 2 → lowest_squares n (suc k) (m / 2) ≡ (suc k + count_trailing_zeros n (m / 2)) ∷ lowest_squares n (suc k) (bit_and (m / 2) (m / 2 - 1)))
    → lowest_squares (suc n) k m ≡ (k + under d (count_trailing_zeros n (m / 2))) ∷ lowest_squares (suc n) k (bit_and m (m - 1))
first_of-suc n k m zero some e l half =
    let r = rest_even m some e in
    let left : lowest_squares (suc n) k m ≡ lowest_squares n (suc k) (m / 2) = ap (λ d. cond (d == 1) (k ∷ lowest_squares n (suc k) (m / 2)) (lowest_squares n (suc k) (m / 2))) e in
    let right : lowest_squares (suc n) k (bit_and m (m - 1)) ≡ lowest_squares n (suc k) (bit_and (m / 2) (m / 2 - 1)) = (λ i. cond (r.0 i == 1) (k ∷ lowest_squares n (suc k) (r.1 i)) (lowest_squares n (suc k) (r.1 i))) in
    let place : suc k + count_trailing_zeros n (m / 2) ≡ k + suc (count_trailing_zeros n (m / 2)) = omega arith in
    left ∙ half (omega arith) ∙ (λ i. place i ∷ sym right i)
first_of-suc n k m (suc zero) some e l half =
    let r = rest_odd m e in
    let left : lowest_squares (suc n) k m ≡ k ∷ lowest_squares n (suc k) (m / 2) = ap (λ d. cond (d == 1) (k ∷ lowest_squares n (suc k) (m / 2)) (lowest_squares n (suc k) (m / 2))) e in
    let right : lowest_squares (suc n) k (bit_and m (m - 1)) ≡ lowest_squares n (suc k) (m / 2) = (λ i. cond (r.0 i == 1) (k ∷ lowest_squares n (suc k) (r.1 i)) (lowest_squares n (suc k) (r.1 i))) in
    let place : k ≡ k + 0 = omega arith in
    left ∙ (λ i. place i ∷ sym right i)
first_of-suc n k m (suc (suc d)) some e l half = absurd (omega arith)

first_of : (n k m : ℕ) → 0 < m → m < 2 ^ n → lowest_squares n k m ≡ (k + count_trailing_zeros n m) ∷ lowest_squares n k (bit_and m (m - 1))
unfolding count_trailing_zeros
first_of zero k m some fits = absurd (omega arith)
first_of (suc n) k m some fits = first_of-suc n k m (m % 2) some refl (omega arith) (λ rest. first_of n (suc k) (m / 2) rest (omega (arith, pow-succ' 2 n)))

-- n numbers from k on
abbrev counted : ℕ → ℕ → List ℕ
counted k zero = []
counted k (suc n) = k ∷ counted (suc k) n

-- read from the filter: bit i of m is bit i - 1 of its half
lowest_are : (n k m whole : ℕ) → ((i : ℕ) → bit_at whole (k + i) ≡ bit_at m i) → filter (λ x. bit_at whole (x - 1) == 1) (counted (suc k) n) ≡ lowest_squares n (suc k) m
lowest_are zero k m whole h = refl
lowest_are (suc n) k m whole h =
    let here : bit_at whole (suc k - 1) ≡ m % 2 = (let e : suc k - 1 ≡ k + 0 = omega arith in ap (bit_at whole) e) ∙ h 0 ∙ bit_at_lowest m in
    let later = lowest_are n (suc k) (m / 2) whole (λ i. (let e : suc k + i ≡ k + suc i = omega arith in ap (bit_at whole) e) ∙ h (suc i) ∙ bit_at-suc m i) in
    (λ j. cond (here j == 1) (suc k ∷ later j) (later j))

squares_are_lowest : (m : ℕ) → squares_of m ≡ lowest_squares 32 1 m
unfolding squares_of squares
squares_are_lowest m = lowest_are 32 0 m m (λ i. (let e : 0 + i ≡ i = omega arith in ap (bit_at m) e))

pub squares_of-lowest : (m : ℕ) → 0 < m → m < 2 ^ 32 → squares_of m ≡ (1 + count_trailing_zeros 32 m) ∷ squares_of (bit_and m (m - 1))
squares_of-lowest m some fits = squares_are_lowest m ∙ first_of 32 1 m some fits ∙ ap (λ l. (1 + count_trailing_zeros 32 m) ∷ l) (sym (squares_are_lowest (bit_and m (m - 1))))
