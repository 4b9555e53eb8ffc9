-- One child further, in the least and in the sum of numbers.
use Rattle.std.proofs.Common.{◌≡◌, ℕ, zero, suc, ◌+◌, ◌-◌, ◌<◌, ◌≤◌, ◌^◌, List, [], ◌∷◌, ◌++◌, map, length, take, get_or, refl, sym, ap, ◌∙◌, subst, arith, ◌⊎◌, inl, inr, ⊎_elim}
use Rattle.std.proofs.lemmas.List.{map_more, take_all}
use Rattle.proof_numbers.specs.declared.numbers.Number.{Number}
use Rattle.proof_numbers.specs.declared.numbers.Number.TheVariants.{Finite, Infinite}
use Rattle.proof_numbers.specs.Numbers.{least, total, least_of, total_of, IsFinitely}
use Rattle.proof_tree.specs.Sums.{finite_sum}
use Rattle.proof_tree.proofs.Folds.{least_of-push, total_of-push}
use Rattle.proof_tree.specs.declared.rows.NodeRow.{NodeRow}

module _ (f : NodeRow → Number) (xs : List NodeRow) (i : ℕ) (x : NodeRow) (l : i < length xs) (at : x ≡ get_or xs i x) where
  further : map f (take (i + 1) xs) ≡ map f (take i xs) ++ f x ∷ []
  further =
      map_more f xs i x l ∙ ap (λ (y : NodeRow). map f (take i xs) ++ f y ∷ []) (sym at)

  pub least_more : least_of (map f (take (i + 1) xs)) ≡ least (least_of (map f (take i xs))) (f x)
  least_more = ap least_of further ∙ least_of-push (map f (take i xs)) (f x)

  pub total_more : total_of (map f (take (i + 1) xs)) ≡ total (total_of (map f (take i xs))) (f x)
  total_more = ap total_of further ∙ total_of-push (map f (take i xs)) (f x)

pub total_cases : (xs : List Number) → (total_of xs ≡ Infinite) ⊎ (total_of xs ≡ Finite (finite_sum xs))
total_cases [] = inr refl
total_cases (Infinite ∷ xs) = inl refl
total_cases (Finite a ∷ xs) = ⊎_elim (λ e. inl (ap (total (Finite a)) e)) (λ e. inr (ap (total (Finite a)) e)) (total_cases xs)

total_within : (bound : ℕ) (xs : List Number) → finite_sum xs < bound → IsFinitely bound (total_of xs)
total_within bound xs h =
    ⊎_elim (λ e. subst (IsFinitely bound) (sym e) tt) (λ e. subst (IsFinitely bound) (sym e) h) (total_cases xs)

finite_sum-take : (f : NodeRow → Number) (xs : List NodeRow) (i : ℕ) → finite_sum (map f (take i xs)) ≤ finite_sum (map f xs)
finite_sum-take f xs zero = omega arith
finite_sum-take f [] (suc i) = omega arith
finite_sum-take f (x ∷ xs) (suc i) = omega (arith, finite_sum-take f xs i)

pub total_fits : (f : NodeRow → Number) (xs : List NodeRow) (i : ℕ) (x : NodeRow) → i < length xs → x ≡ get_or xs i x
    → finite_sum (map f xs) < 2 ^ 32 - 1 → IsFinitely (2 ^ 32 - 1) (total (total_of (map f (take i xs))) (f x))
total_fits f xs i x l at h =
    subst (IsFinitely (2 ^ 32 - 1)) (total_more f xs i x l at)
    (total_within (2 ^ 32 - 1) (map f (take (i + 1) xs)) (omega (arith, finite_sum-take f xs (i + 1))))

pub least_whole : (f : NodeRow → Number) (xs : List NodeRow) (i : ℕ) → length xs ≤ i → least_of (map f (take i xs)) ≡ least_of (map f xs)
least_whole f xs i h = ap (λ (ys : List NodeRow). least_of (map f ys)) (take_all i xs h)

pub total_whole : (f : NodeRow → Number) (xs : List NodeRow) (i : ℕ) → length xs ≤ i → total_of (map f (take i xs)) ≡ total_of (map f xs)
total_whole f xs i h = ap (λ (ys : List NodeRow). total_of (map f ys)) (take_all i xs h)
