-- The order in which children are tried is a total one.
use Rattle.std.proofs.Common.{◌≡◌, ◌≢◌, ℕ, ◌+◌, ◌<◌, ◌≤◌, Bool, true, false, cond, ltb, List, Option, Some, None, refl, sym, ◌∙◌, subst, arith, ◌⊎◌, inl, inr, ⊎_elim}
use Rattle.std.proofs.lemmas.Bool.{false≢true, cases_eq}
use Rattle.std.proofs.lemmas.Bool.Decides.{nat_tests}
use Rattle.draughts_board.specs.declared.pieces.Side.{Side}
use Rattle.proof_numbers.specs.declared.numbers.Number.{Number}
use Rattle.proof_numbers.specs.declared.numbers.Number.TheVariants.{Finite, Infinite}
use Rattle.proof_tree.specs.declared.rows.NodeRow.{NodeRow}
use Rattle.proof_tree.specs.Walking.{is_before, key, comes, is_candidate, first_child_of, IsFirst}

finite_trans : (l a m b n c : ℕ) → cond (ltb l m) true (cond (ltb m l) false (ltb a b)) ≡ true → cond (ltb m n) true (cond (ltb n m) false (ltb b c)) ≡ true
    → cond (ltb l n) true (cond (ltb n l) false (ltb a c)) ≡ true
finite_trans l a m b n c p q = grind (arith, nat_tests, p, q)

pub before_trans : (x : Number) (a : ℕ) (y : Number) (b : ℕ) (z : Number) (c : ℕ) → is_before x a y b ≡ true → is_before y b z c ≡ true → is_before x a z c ≡ true
before_trans (Finite l) a (Finite m) b (Finite n) c p q = finite_trans l a m b n c p q
before_trans (Finite l) a (Finite m) b Infinite c p q = refl
before_trans (Finite l) a Infinite b (Finite n) c p q = absurd (false≢true q)
before_trans (Finite l) a Infinite b Infinite c p q = refl
before_trans Infinite a (Finite m) b (Finite n) c p q = absurd (false≢true p)
before_trans Infinite a (Finite m) b Infinite c p q = absurd (false≢true p)
before_trans Infinite a Infinite b (Finite n) c p q = absurd (false≢true q)
before_trans Infinite a Infinite b Infinite c p q = grind (arith, nat_tests, p, q)

pub before_itself : (x : Number) (a : ℕ) → is_before x a x a ≡ false
before_itself (Finite m) a = grind (arith, nat_tests)
before_itself Infinite a = grind (arith, nat_tests)

finite_total : (m a n b : ℕ) → a ≢ b → cond (ltb m n) true (cond (ltb n m) false (ltb a b)) ≡ false → cond (ltb n m) true (cond (ltb m n) false (ltb b a)) ≡ true
finite_total m a n b h p = grind (arith, nat_tests, p, h)

other_way : (x : Number) (a : ℕ) (y : Number) (b : ℕ) → a ≢ b → is_before x a y b ≡ false → is_before y b x a ≡ true
other_way (Finite m) a (Finite n) b h p = finite_total m a n b h p
other_way (Finite m) a Infinite b h p = absurd (false≢true (sym p))
other_way Infinite a (Finite n) b h p = refl
other_way Infinite a Infinite b h p = grind (arith, nat_tests, p, h)

pub before_total : (x : Number) (a : ℕ) (y : Number) (b : ℕ) → is_before x a y b ≡ false → (a ≡ b) ⊎ (is_before y b x a ≡ true)
before_total x a y b p = ⊎_elim (λ e. inl e) (λ h. inr (other_way x a y b h p)) (cases_eq a b)

-- ---- the first candidate, one place further

module _ (rows : List NodeRow) (goal : Side) (by_proof : Bool) (last : Option ℕ) (low : ℕ) where
  abbrev First : ℕ → Option ℕ → Type 0
  First high best = IsFirst rows goal by_proof last low high best

  abbrev is : ℕ → Bool
  is k = is_candidate rows goal by_proof last k

  pub first-none : (high : ℕ) → high ≤ low → First high None
  first-none high h k from to = absurd (omega arith)

  none-further : (k : ℕ) → First k None → is k ≡ false → First (k + 1) None
  none-further k so fails j from to = ⊎_elim (λ e. subst (λ i. is i ≡ false) (sym e) fails) (λ h. so j from (omega arith)) (cases_eq j k)

  some-further : (k c : ℕ) → First k (Some c) → is k ≡ false → First (k + 1) (Some c)
  some-further k c so fails = (
    (so.0.0, let h = so.0.1 in omega arith),
    (
      so.1.0,
      λ j from to passes.
          ⊎_elim (λ e. absurd (false≢true (sym fails ∙ subst (λ i. is i ≡ true) e passes))) (λ h. so.1.1 j from (omega arith) passes) (cases_eq j k),
    ),
  )

  pub first-no : (k : ℕ) (best : Option ℕ) → First k best → is k ≡ false → First (k + 1) best
  first-no k None so fails = none-further k so fails
  first-no k (Some c) so fails = some-further k c so fails

  better_is : (k b : ℕ) (test : Bool) → comes rows goal by_proof k b ≡ test → low ≤ k → First k (Some b) → is k ≡ true → First (k + 1) (cond test (Some k) (Some b))
  better_is k b true t l so passes = (
    (l, omega arith),
    (
      passes,
      λ j from to c.
          ⊎_elim (λ e. inl e)
          (λ h.
          ⊎_elim (λ e. inr (subst (λ i. comes rows goal by_proof k i ≡ true) (sym e) t))
          (λ u. inr (before_trans (key rows goal by_proof k) k (key rows goal by_proof b) b (key rows goal by_proof j) j t u))
          (so.1.1 j from (omega arith) c))
          (cases_eq j k),
    ),
  )
  better_is k b false t l so passes = (
    (so.0.0, let h = so.0.1 in omega arith),
    (
      so.1.0,
      λ j from to c.
          ⊎_elim
          (λ e.
          subst (λ i. (i ≡ b) ⊎ (comes rows goal by_proof b i ≡ true)) (sym e)
          (before_total (key rows goal by_proof k) k (key rows goal by_proof b) b t))
          (λ h. so.1.1 j from (omega arith) c) (cases_eq j k),
    ),
  )

  pub first-yes : (k : ℕ) (best : Option ℕ) → low ≤ k → First k best → is k ≡ true → First (k + 1) (first_child_of rows goal by_proof best k)
  first-yes k None l so passes = (
    (l, omega arith),
    (
      passes,
      λ j from to c.
          ⊎_elim (λ e. inl e) (λ h. absurd (false≢true (sym (so j from (omega arith)) ∙ c))) (cases_eq j k),
    ),
  )
  first-yes k (Some b) l so passes = better_is k b (comes rows goal by_proof k b) refl l so passes

  pub first-inside : (high : ℕ) (best : Option ℕ) → First high best → (a : ℕ) → best ≡ Some a → a < high
  first-inside high None so a e = absurd cc
  first-inside high (Some c) so a e = let same : c ≡ a = cc in let h = so.0.1 in omega (arith, h, same)
