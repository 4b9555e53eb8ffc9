-- The first element of a list at which something fails.
use Rattle.std.proofs.Common.{◌≡◌, ◌≤◌, ◌<◌, ◌+◌, ◌-◌, inl, inr, ℕ, Some, sym, ◌∙◌, ap, subst, arith, List, length, get_or, take}
use Rattle.std.specs.Prelude.{All, Contains, slice_get}
use Rattle.std.proofs.lemmas.Bool.{cases_lt}
use Rattle.std.proofs.lemmas.List.{get_or-take, length-take, take_all}
use Rattle.std.proofs.lemmas.List.Elements.{All-more, All-same, Contains-get_or}
use Rattle.std.proofs.lemmas.Option.{slice_get-get_or, slice_get_within, get_or_from_slice_get}
use Rattle.certificate_checker.specs.Faults.{IsNthAfter, FailsFirst}

-- ---- a loop over the list, which has come to x at i

module _ {A : Type 0} (P : A → Type 0) (xs : List A) (i : ℕ) (x : A) (within : i < length xs) (is : x ≡ get_or xs i x) where
  -- x is the next one, counted from 1
  pub nth_after : All P (take i xs) → IsNthAfter P xs (i + 1) x
  nth_after before =
      let counted : i ≡ (i + 1) - 1 = omega arith in
      record {
        counted = omega arith;
        here = subst (λ n. slice_get xs n ≡ Some x) counted (slice_get-get_or xs i x within ∙ ap Some (sym is));
        before = subst (λ n. All P (take n xs)) counted before;
      }

  pub first_failure : All P (take i xs) → (P x → ⊥) → FailsFirst P xs x
  first_failure before fails = (i + 1, (nth_after before, fails))

  pub one_more : All P (take i xs) → P x → All P (take (i + 1) xs)
  one_more before here = All-more P xs i x within before (subst P is here)

  pub contains_it : Contains xs x
  contains_it = subst (Contains xs) (sym is) (Contains-get_or xs i x within)

pub all_taken : {A : Type 0} (P : A → Type 0) (xs : List A) (i : ℕ) → length xs ≤ i → All P (take i xs) → All P xs
all_taken P xs i past all = All-same P xs (take i xs) (sym (take_all i xs past)) all

-- ---- there is one first failure

module _ {A : Type 0} (P : A → Type 0) (xs : List A) where
  pub All-slice_get : (j : ℕ) (x : A) → slice_get xs j ≡ Some x → All P xs → P x
  All-slice_get j x at all = subst P (get_or_from_slice_get xs j x x at) (all j x (slice_get_within xs j x at))

  pub All-nth : (n : ℕ) (x : A) → IsNthAfter P xs n x → All P xs → P x
  All-nth n x nth all = All-slice_get (n - 1) x nth.here all

  All-taken_slice_get : (j k : ℕ) (x : A) → j < k → slice_get xs j ≡ Some x → All P (take k xs) → P x
  All-taken_slice_get j k x lt at all =
      let within = slice_get_within xs j x at in
      subst P (get_or-take k xs j x lt ∙ get_or_from_slice_get xs j x x at) (all j x (omega (arith, length-take k xs)))

  pub one_failure : (m n : ℕ) (x y : A) → IsNthAfter P xs m x → IsNthAfter P xs n y → (P x → ⊥) → (P y → ⊥) → (m ≡ n) × (x ≡ y)
  one_failure m n x y a b x_fails y_fails =
      elim (cases_lt (m - 1) (n - 1)) [
        | inl lt ↦ absurd (x_fails (All-taken_slice_get (m - 1) (n - 1) x lt a.here b.before))
        | inr ge ↦ elim (cases_lt (n - 1) (m - 1)) [
          | inl lt ↦ absurd (y_fails (All-taken_slice_get (n - 1) (m - 1) y lt b.here a.before))
          | inr le ↦
              (let from_one = a.counted in
              let also = b.counted in
              let place : m ≡ n = omega arith in
              let at : slice_get xs (m - 1) ≡ Some y = subst (λ k. slice_get xs (k - 1) ≡ Some y) (sym place) b.here in
              let here = a.here in
              (place, cc))
        ]
      ]

  pub FailsFirst-one : (x y : A) → FailsFirst P xs x → FailsFirst P xs y → x ≡ y
  FailsFirst-one x y f g = (one_failure f.0 g.0 x y f.1.0 g.1.0 f.1.1 g.1.1).1
