-- Filters one after another, and filters under `any`.
use Rattle.std.proofs.Common.{◌≡◌, ℕ, ◌≤◌, Bool, true, false, cond, ◌&&◌, ◌||◌, List, [], ◌∷◌, refl, sym, ◌∙◌, ap, length, take, arith, length-take}
use Rattle.std.specs.Prelude.{filter}
use Rattle.std.specs.List.{list_any}

-- tests that agree everywhere keep the same
pub filter-same : {X : Type 0} (p q : X → Bool) (xs : List X) → ((x : X) → p x ≡ q x) → filter p xs ≡ filter q xs
filter-same p q xs e = λ i. filter (λ x. e x i) xs

pub any-same : {X : Type 0} (p q : X → Bool) (xs : List X) → ((x : X) → p x ≡ q x) → list_any p xs ≡ list_any q xs
any-same p q xs e = λ i. list_any (λ x. e x i) xs

pub filter-filter : {X : Type 0} (p q : X → Bool) (xs : List X) → filter p (filter q xs) ≡ filter (λ x. q x && p x) xs
filter-filter p q [] = refl
filter-filter {X} p q (x ∷ xs) = by (q x) (filter-filter p q xs)
  where
    by : (b : Bool) → filter p (filter q xs) ≡ filter (λ y. q y && p y) xs → filter p (cond b (x ∷ filter q xs) (filter q xs)) ≡ cond (b && p x) (x ∷ filter (λ y. q y && p y) xs) (filter (λ y. q y && p y) xs)
    by true e = ap (λ l. cond (p x) (x ∷ l) l) e
    by false e = e

pub filter-shorter : {X : Type 0} (p : X → Bool) (xs : List X) → length (filter p xs) ≤ length xs
filter-shorter p [] = omega arith
filter-shorter {X} p (x ∷ xs) = by (p x) (filter-shorter p xs)
  where
    by : (b : Bool) → length (filter p xs) ≤ length xs → length (cond b (x ∷ filter p xs) (filter p xs)) ≤ length (x ∷ xs)
    by true h = omega arith
    by false h = omega arith

-- among the first i there are at most i
pub filter-few : {X : Type 0} (p : X → Bool) (xs : List X) (i : ℕ) → length (filter p (take i xs)) ≤ i
filter-few p xs i = omega (arith, filter-shorter p (take i xs), length-take i xs)

pub any-filter : {X : Type 0} (p q : X → Bool) (xs : List X) → list_any p (filter q xs) ≡ list_any (λ x. q x && p x) xs
any-filter p q [] = refl
any-filter {X} p q (x ∷ xs) = by (q x) (any-filter p q xs)
  where
    by : (b : Bool) → list_any p (filter q xs) ≡ list_any (λ y. q y && p y) xs → list_any p (cond b (x ∷ filter q xs) (filter q xs)) ≡ ((b && p x) || list_any (λ y. q y && p y) xs)
    by true e = ap (λ b. p x || b) e
    by false e = e

and_assoc : (a b c : Bool) → (a && b && c) ≡ (a && (b && c))
and_assoc true b c = refl
and_assoc false b c = refl

-- a row whose squares are those of a relation gives, under a test, the squares that stand in the relation and pass
module _ (is_in relation : ℕ → Bool) (row all : List ℕ) (rule : filter is_in row ≡ filter relation all) (whole : filter is_in all ≡ all) where
  pub filter-by_row : (test : ℕ → Bool) → filter (λ z. is_in z && test z) row ≡ filter (λ z. is_in z && (relation z && test z)) all
  filter-by_row test =
      sym (filter-filter test is_in row)
      ∙ ap (filter test) (rule ∙ ap (filter relation) (sym whole) ∙ filter-filter relation is_in all)
      ∙ filter-filter test (λ z. is_in z && relation z) all
      ∙ filter-same (λ z. is_in z && relation z && test z) (λ z. is_in z && (relation z && test z)) all (λ z. and_assoc (is_in z) (relation z) (test z))

  pub any-by_row : (test : ℕ → Bool) → list_any (λ z. is_in z && test z) row ≡ list_any (λ z. is_in z && (relation z && test z)) all
  any-by_row test =
      sym (any-filter test is_in row)
      ∙ ap (list_any test) (rule ∙ ap (filter relation) (sym whole) ∙ filter-filter relation is_in all)
      ∙ any-filter test (λ z. is_in z && relation z) all
      ∙ any-same (λ z. is_in z && relation z && test z) (λ z. is_in z && (relation z && test z)) all (λ z. and_assoc (is_in z) (relation z) (test z))
