-- A test of all numbers below one, and how many of them pass.
use Rattle.std.proofs.Common.{◌≡◌, ℕ, zero, suc, ◌+◌, ◌<◌, ◌≤◌, ◌==◌, ◌&&◌, not, Bool, true, false, cond, nat_lt, List, [], ◌∷◌, length, refl, ap, ◌∙◌, inl, inr, arith}
use Rattle.std.proofs.lemmas.Grind.{common_steps}
use Rattle.std.specs.Cmp.{first_so, second_so}
use Rattle.std.proofs.lemmas.Bool.{cases_Bool}
use Rattle.std.specs.Prelude.{Contains}
use Rattle.draughts_board.proofs.Members.{Contains-nil, Contains-cons_cases}

-- each number below n passes
abbrev pub all_below : (ℕ → Bool) → ℕ → Bool
all_below f zero = true
all_below f (suc n) = f n && all_below f n

pub at_below : (f : ℕ → Bool) (n k : ℕ) → all_below f n ≡ true → k < n → f k ≡ true
at_below f zero k h l = absurd (omega arith)
at_below f (suc n) k h l = elim (cases_Bool (k == n)) [
  | inl e ↦ (let same : k ≡ n = grind (arith, common_steps) in ap f same ∙ first_so (f n) (all_below f n) h)
  | inr e ↦ (let other : k < n = grind (arith, common_steps) in at_below f n k (second_so (f n) (all_below f n) h) other)
]

-- how many numbers below n pass
abbrev pub count_below : (ℕ → Bool) → ℕ → ℕ
count_below f zero = 0
count_below f (suc n) = cond (f n) 1 0 + count_below f n

-- all but x
but : (ℕ → Bool) → ℕ → ℕ → Bool
but f x i = f i && not (i == x)

one : Bool → ℕ
one b = cond b 1 0

-- taking out one number takes out one at most
count-but : (f : ℕ → Bool) (x n : ℕ) → count_below f n ≤ count_below (but f x) n + one (nat_lt x n)
unfolding but one
count-but f x zero = omega arith
count-but f x (suc n) = elim (cases_Bool (n == x)) [
  | inl e ↦ here e (count-but f x n)
  | inr e ↦ there e (count-but f x n)
]
  where
    here : (n == x) ≡ true → count_below f n ≤ count_below (but f x) n + cond (nat_lt x n) 1 0
        → cond (f n) 1 0 + count_below f n ≤ cond (f n && not (n == x)) 1 0 + count_below (but f x) n + cond (nat_lt x (suc n)) 1 0
    here e h = grind (arith, common_steps)

    there : (n == x) ≡ false → count_below f n ≤ count_below (but f x) n + cond (nat_lt x n) 1 0
        → cond (f n) 1 0 + count_below f n ≤ cond (f n && not (n == x)) 1 0 + count_below (but f x) n + cond (nat_lt x (suc n)) 1 0
    there e h = grind (arith, common_steps)

none_pass : (f : ℕ → Bool) (n : ℕ) → ((i : ℕ) → i < n → f i ≡ true → ⊥) → count_below f n ≡ 0
unfolding one
none_pass f zero h = refl
none_pass f (suc n) h = elim (cases_Bool (f n)) [
  | inl e ↦ absurd (h n (omega arith) e)
  | inr e ↦ (let head = ap one e in let rest = none_pass f n (λ i l. h i (omega arith)) in omega (arith, head, rest))
]

-- a list that holds each number that passes is as long as they are many
pub count-le : (xs : List ℕ) (f : ℕ → Bool) (n : ℕ) → ((i : ℕ) → i < n → f i ≡ true → Contains xs i) → count_below f n ≤ length xs
unfolding but one
count-le [] f n held = let none = none_pass f n (λ i l e. Contains-nil i (held i l e)) in omega (arith, none)
count-le (x ∷ xs) f n held =
    let rest = count-le xs (but f x) n kept in
    let less = count-but f x n in
    let most : cond (nat_lt x n) 1 0 ≤ 1 = by (nat_lt x n) in
    omega (arith, rest, less, most)
  where
    by : (b : Bool) → cond b 1 0 ≤ 1
    by true = omega arith
    by false = omega arith

    kept : (i : ℕ) → i < n → but f x i ≡ true → Contains xs i
    kept i l e = elim (Contains-cons_cases x xs i (held i l (first_so (f i) (not (i == x)) e))) [
      | inl same ↦ absurd (let apart = second_so (f i) (not (i == x)) e in grind (arith, common_steps))
      | inr there ↦ there
    ]
