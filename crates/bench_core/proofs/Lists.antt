-- Facts of each element of a list, by recursion on the list, and members of lists.
use Rattle.std.proofs.Common.{◌≡◌, List, [], ◌∷◌, ◌++◌, map, refl, sym, ◌∙◌, subst, inl, inr, ⊎_elim, arith}
use Rattle.std.specs.Prelude.{Bool, true, false, cond, filter, Contains, ◌⊎◌}
use Rattle.std.specs.List.{list_any, AllByRecursion as Each}
use Rattle.std.proofs.lemmas.Bool.{or_parts, or_from, or_left, or_right, false_from_ne_true, true≢false}
use Rattle.std.proofs.lemmas.List.Elements.{All-from_recursion, All-contains, Contains-append_cases, Contains-push_cases, Contains-append_right}

module _ {X : Type 0} where
  contains_nothing : (x : X) → Contains [] x → ⊥
  contains_nothing x there = omega (arith, there.1)

  pub Contains-there : (y x : X) (xs : List X) → Contains xs x → Contains (y ∷ xs) x
  Contains-there y x xs there = Contains-append_right (y ∷ []) xs x there

  pub Contains-here : (x : X) (xs : List X) → Contains (x ∷ xs) x
  Contains-here x xs = (0, omega arith, refl)

  pub Each-contains : (P : X → Type 0) (xs : List X) (x : X) → Each P xs → Contains xs x → P x
  Each-contains P xs x each there = All-contains P xs x (All-from_recursion P xs each) there

  pub Each-append : (P : X → Type 0) (xs ys : List X) → Each P xs → Each P ys → Each P (xs ++ ys)
  Each-append P [] ys p q = q
  Each-append P (x ∷ xs) ys p q = (p.0, Each-append P xs ys p.1 q)

  pub Each-weaker : (P Q : X → Type 0) → ((x : X) → P x → Q x) → (xs : List X) → Each P xs → Each Q xs
  Each-weaker P Q f [] p = tt
  Each-weaker P Q f (x ∷ xs) p = (f x p.0, Each-weaker P Q f xs p.1)

  pub Each-both : (P Q : X → Type 0) (xs : List X) → Each P xs → Each Q xs → Each (λ x. P x × Q x) xs
  Each-both P Q [] p q = tt
  Each-both P Q (x ∷ xs) p q = ((p.0, q.0), Each-both P Q xs p.1 q.1)

  each_cond : (Q : X → Type 0) (b : Bool) (x : X) (xs : List X) → (b ≡ true → Q x) → Each Q xs → Each Q (cond b (x ∷ xs) xs)
  each_cond Q true x xs p q = (p refl, q)
  each_cond Q false x xs p q = q

  -- those that pass a test
  pub Each-filter : (P Q : X → Type 0) (t : X → Bool) → ((x : X) → P x → t x ≡ true → Q x) → (xs : List X) → Each P xs → Each Q (filter t xs)
  Each-filter P Q t f [] p = tt
  Each-filter P Q t f (x ∷ xs) p = each_cond Q (t x) x (filter t xs) (f x p.0) (Each-filter P Q t f xs p.1)

  pub Each-none : (t : X → Bool) (xs : List X) → list_any t xs ≡ false → Each (λ x. t x ≡ false) xs
  Each-none t [] h = tt
  Each-none t (x ∷ xs) h = let parts = or_parts (t x) (list_any t xs) h in (parts.0, Each-none t xs parts.1)

  pub none_from_each : (t : X → Bool) (xs : List X) → Each (λ x. t x ≡ false) xs → list_any t xs ≡ false
  none_from_each t [] h = refl
  none_from_each t (x ∷ xs) h = or_from (t x) (list_any t xs) h.0 (none_from_each t xs h.1)

  pub none_filter : (p t : X → Bool) (xs : List X) → list_any p xs ≡ false → list_any p (filter t xs) ≡ false
  none_filter p t xs h = none_from_each p (filter t xs) (Each-filter (λ x. p x ≡ false) (λ x. p x ≡ false) t (λ x q e. q) xs (Each-none p xs h))

  pub Contains-cases : (x y : X) (xs : List X) → Contains (x ∷ xs) y → (x ≡ y) ⊎ Contains xs y
  Contains-cases x y xs there = ⊎_elim
      (λ first. ⊎_elim (λ nothing. absurd (omega (arith, nothing.1))) (λ same. inl same) (Contains-push_cases [] x y first))
      (λ rest. inr rest)
      (Contains-append_cases (x ∷ []) xs y there)

  under : (b : Bool) (y x : X) (xs : List X) → Contains xs x → Contains (cond b (y ∷ xs) xs) x
  under true y x xs there = Contains-there y x xs there
  under false y x xs there = there

  pub Contains-filter : (t : X → Bool) (xs : List X) (x : X) → Contains xs x → t x ≡ true → Contains (filter t xs) x
  Contains-filter t [] x there pass = there
  Contains-filter t (y ∷ xs) x there pass = ⊎_elim
      (λ same. let passes : t y ≡ true = rw same pass in rw passes (subst (λ z. Contains (y ∷ filter t xs) z) same (Contains-here y (filter t xs))))
      (λ rest. under (t y) y x (filter t xs) (Contains-filter t xs x rest pass))
      (Contains-cases y x xs there)

  pub any_contains : (t : X → Bool) (xs : List X) (x : X) → Contains xs x → t x ≡ true → list_any t xs ≡ true
  any_contains t [] x there pass = absurd (contains_nothing x there)
  any_contains t (y ∷ xs) x there pass = ⊎_elim
      (λ same. or_left (t y) (list_any t xs) (rw same pass))
      (λ rest. or_right (t y) (list_any t xs) (any_contains t xs x rest pass))
      (Contains-cases y x xs there)

  pub each_of_contains : (P : X → Type 0) (xs : List X) → ((x : X) → Contains xs x → P x) → Each P xs
  each_of_contains P [] f = tt
  each_of_contains P (x ∷ xs) f = (f x (Contains-here x xs), each_of_contains P xs (λ y there. f y (Contains-there x y xs there)))

  unfilter_by : (t : X → Bool) (y x : X) (xs : List X) (b : Bool) → t y ≡ b → Contains (cond b (y ∷ filter t xs) (filter t xs)) x → (Contains (filter t xs) x → Contains xs x × (t x ≡ true))
      → Contains (y ∷ xs) x × (t x ≡ true)
  unfilter_by t y x xs true is h rest = ⊎_elim
      (λ same. (subst (λ z. Contains (y ∷ xs) z) same (Contains-here y xs), subst (λ z. t z ≡ true) same is))
      (λ later. let more = rest later in (Contains-there y x xs more.0, more.1))
      (Contains-cases y x (filter t xs) h)
  unfilter_by t y x xs false is h rest = let more = rest h in (Contains-there y x xs more.0, more.1)

  -- what is among those that pass a test is there, and passes it
  pub Contains-unfilter : (t : X → Bool) (xs : List X) (x : X) → Contains (filter t xs) x → Contains xs x × (t x ≡ true)
  Contains-unfilter t [] x there = absurd (contains_nothing x there)
  Contains-unfilter t (y ∷ xs) x there = unfilter_by t y x xs (t y) refl there (λ h. Contains-unfilter t xs x h)

  -- ---- filters

  pub filter_all : (t : X → Bool) (xs : List X) → Each (λ x. t x ≡ true) xs → filter t xs ≡ xs
  filter_all t [] h = refl
  filter_all t (x ∷ xs) h = rw (h.0, filter_all t xs h.1) refl

  twice : (p q : X → Bool) (x : X) (xs : List X) (b : Bool) → q x ≡ b → (p x ≡ true → q x ≡ true) → filter p (filter q xs) ≡ filter p xs → filter p (cond (q x) (x ∷ filter q xs) (filter q xs)) ≡ filter p (x ∷ xs)
  twice p q x xs true is h rest = rw (is, rest) refl
  twice p q x xs false is h rest =
      let fails : p x ≡ false = false_from_ne_true (p x) (λ e. true≢false (sym (h e) ∙ is)) in
      rw (is, fails) rest

  pub filter_twice : (p q : X → Bool) (xs : List X) → Each (λ x. p x ≡ true → q x ≡ true) xs → filter p (filter q xs) ≡ filter p xs
  filter_twice p q [] h = refl
  filter_twice p q (x ∷ xs) h = twice p q x xs (q x) refl h.0 (filter_twice p q xs h.1)

  swap : (p q : X → Bool) (x : X) (xs : List X) (a b : Bool) → p x ≡ a → q x ≡ b → filter p (filter q xs) ≡ filter q (filter p xs)
      → filter p (cond b (x ∷ filter q xs) (filter q xs)) ≡ filter q (cond a (x ∷ filter p xs) (filter p xs))
  swap p q x xs true true is_a is_b rest = rw (is_a, is_b, rest) refl
  swap p q x xs true false is_a is_b rest = rw (is_b, rest) refl
  swap p q x xs false true is_a is_b rest = rw (is_a, rest) refl
  swap p q x xs false false is_a is_b rest = rest

  pub filter_swaps : (p q : X → Bool) (xs : List X) → filter p (filter q xs) ≡ filter q (filter p xs)
  filter_swaps p q [] = refl
  filter_swaps p q (x ∷ xs) = swap p q x xs (p x) (q x) refl refl (filter_swaps p q xs)

module _ {X Y : Type 0} where
  pub Contains-map : (f : X → Y) (xs : List X) (x : X) → Contains xs x → Contains (map f xs) (f x)
  Contains-map f [] x there = absurd (contains_nothing x there)
  Contains-map f (y ∷ xs) x there = ⊎_elim
      (λ same. subst (λ z. Contains (f y ∷ map f xs) (f z)) same (Contains-here (f y) (map f xs)))
      (λ rest. Contains-there (f y) (f x) (map f xs) (Contains-map f xs x rest))
      (Contains-cases y x xs there)

  pub Each-map : (P : X → Type 0) (Q : Y → Type 0) (f : X → Y) → ((x : X) → P x → Q (f x)) → (xs : List X) → Each P xs → Each Q (map f xs)
  Each-map P Q f g [] each = tt
  Each-map P Q f g (x ∷ xs) each = (g x each.0, Each-map P Q f g xs each.1)

  pub any_map : (t : Y → Bool) (f : X → Y) (xs : List X) → list_any t (map f xs) ≡ list_any (λ x. t (f x)) xs
  any_map t f [] = refl
  any_map t f (x ∷ xs) = rw (any_map t f xs) refl
