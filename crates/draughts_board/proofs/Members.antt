-- What is in a list.
use Rattle.std.proofs.Common.{◌≡◌, suc, ◌<◌, Bool, true, false, cond, ◌||◌, List, [], ◌∷◌, refl, sym, ◌∙◌, ap, subst, arith, ◌⊎◌, inl, inr, map}
use Rattle.std.specs.Prelude.{filter, flat_map, Contains}
use Rattle.std.specs.List.{list_any}
use Rattle.std.proofs.lemmas.Bool.{false≢true, or_cases}
use Rattle.std.proofs.lemmas.List.Elements.{Contains-push, Contains-push_cases, Contains-append_left, Contains-append_right, Contains-append_cases}

pub bool_cases : (b : Bool) → (b ≡ true) ⊎ (b ≡ false)
bool_cases true = inl refl
bool_cases false = inr refl

pub Contains-nil : {X : Type 0} (x : X) → ¬ Contains [] x
Contains-nil x h = absurd (let k : h.0 < 0 = h.1 in omega arith)

pub Contains-cons_cases : {X : Type 0} (y : X) (xs : List X) (x : X) → Contains (y ∷ xs) x → (y ≡ x) ⊎ Contains xs x
Contains-cons_cases y xs x h =
    elim (Contains-append_cases (y ∷ []) xs x h) [ inl a ↦ elim (Contains-push_cases [] y x a) [ inl n ↦ absurd (Contains-nil x n) | inr e ↦ inl e ] | inr b ↦ inr b ]

pub Contains-filter : {X : Type 0} (test : X → Bool) (xs : List X) (x : X) → Contains xs x → test x ≡ true → Contains (filter test xs) x
Contains-filter test [] x h t = h
Contains-filter {X} test (y ∷ xs) x h t =
    elim (Contains-cons_cases y xs x h) [ inl e ↦ subst (λ b. Contains (cond b (y ∷ filter test xs) (filter test xs)) x) (sym (ap test e ∙ t)) (subst (λ w. Contains (w ∷ filter test xs) x) (sym e) (Contains-append_left (x ∷ []) (filter test xs) x (Contains-push [] x))) | inr k ↦ by (test y) (Contains-filter test xs x k t) ]
  where
    by : (b : Bool) → Contains (filter test xs) x → Contains (cond b (y ∷ filter test xs) (filter test xs)) x
    by true k = Contains-append_right (y ∷ []) (filter test xs) x k
    by false k = k

pub Contains-flat_map : {X Y : Type 0} (f : X → List Y) (xs : List X) (x : X) (y : Y) → Contains xs x → Contains (f x) y → Contains (flat_map f xs) y
Contains-flat_map f [] x y h k = absurd (Contains-nil x h)
Contains-flat_map f (w ∷ xs) x y h k =
    elim (Contains-cons_cases w xs x h) [ inl e ↦ Contains-append_left (f w) (flat_map f xs) y (subst (λ v. Contains (f v) y) (sym e) k) | inr t ↦ Contains-append_right (f w) (flat_map f xs) y (Contains-flat_map f xs x y t k) ]

pub Contains-from_flat_map : {X Y : Type 0} (f : X → List Y) (xs : List X) (y : Y) → Contains (flat_map f xs) y → (x : X) × (Contains xs x × Contains (f x) y)
Contains-from_flat_map f [] y h = absurd (Contains-nil y h)
Contains-from_flat_map f (w ∷ xs) y h =
    elim (Contains-append_cases (f w) (flat_map f xs) y h) [ inl a ↦ (w, (Contains-append_left (w ∷ []) xs w (Contains-push [] w), a)) | inr b ↦ let r = Contains-from_flat_map f xs y b in (r.0, (Contains-append_right (w ∷ []) xs r.0 r.1.0, r.1.1)) ]

pub only_one : {X : Type 0} (x y : X) → Contains (x ∷ []) y → x ≡ y
only_one x y h = elim (Contains-cons_cases x [] y h) [ inl e ↦ e | inr n ↦ absurd (Contains-nil y n) ]

pub Contains-head : {X : Type 0} (x : X) (xs : List X) → Contains (x ∷ xs) x
Contains-head x xs = (0, omega arith, refl)

pub Contains-tail : {X : Type 0} (x y : X) (xs : List X) → Contains xs y → Contains (x ∷ xs) y
Contains-tail x y xs h = (suc h.0, omega arith, h.2)

pub Contains-from_filter : {X : Type 0} (test : X → Bool) (xs : List X) (x : X) → Contains (filter test xs) x → Contains xs x
Contains-from_filter test [] x h = h
Contains-from_filter {X} test (y ∷ xs) x h = by (test y) (Contains-from_filter test xs x) h
  where
    by : (b : Bool) → (Contains (filter test xs) x → Contains xs x) → Contains (cond b (y ∷ filter test xs) (filter test xs)) x → Contains (y ∷ xs) x
    by true rest k = elim (Contains-cons_cases y (filter test xs) x k) [ inl e ↦ subst (λ z. Contains (z ∷ xs) x) (sym e) (Contains-head x xs) | inr t ↦ Contains-tail y x xs (rest t) ]
    by false rest k = Contains-tail y x xs (rest k)

pub Contains-map : {X Y : Type 0} (f : X → Y) (xs : List X) (x : X) → Contains xs x → Contains (map f xs) (f x)
Contains-map f [] x h = absurd (Contains-nil x h)
Contains-map f (y ∷ xs) x h =
    elim (Contains-cons_cases y xs x h) [ inl e ↦ subst (λ z. Contains (map f (y ∷ xs)) (f z)) e (Contains-head (f y) (map f xs)) | inr t ↦ Contains-tail (f y) (f x) (map f xs) (Contains-map f xs x t) ]

pub Contains-from_map : {X Y : Type 0} (f : X → Y) (xs : List X) (y : Y) → Contains (map f xs) y → (x : X) × (Contains xs x × (f x ≡ y))
Contains-from_map f [] y h = absurd (Contains-nil y h)
Contains-from_map f (x ∷ xs) y h =
    elim (Contains-cons_cases (f x) (map f xs) y h) [ inl e ↦ (x, (Contains-head x xs, e)) | inr t ↦ (let r = Contains-from_map f xs y t in (r.0, (Contains-tail x r.0 xs r.1.0, r.1.1))) ]

-- ---- tests of some element

pub any_true : {X : Type 0} (test : X → Bool) (xs : List X) (x : X) → Contains xs x → test x ≡ true → list_any test xs ≡ true
any_true test [] x h t = absurd (Contains-nil x h)
any_true {X} test (y ∷ xs) x h t =
    elim (Contains-cons_cases y xs x h) [ inl e ↦ ap (λ b. b || list_any test xs) (ap test e ∙ t) | inr k ↦ by (test y) (any_true test xs x k t) ]
  where
    by : (b : Bool) → list_any test xs ≡ true → (b || list_any test xs) ≡ true
    by true k = refl
    by false k = k

pub true_any : {X : Type 0} (test : X → Bool) (xs : List X) → list_any test xs ≡ true → (x : X) × (Contains xs x × (test x ≡ true))
true_any test [] h = absurd (false≢true h)
true_any test (x ∷ xs) h =
    elim (or_cases (test x) (list_any test xs) h) [ inl t ↦ (x, (Contains-head x xs, t)) | inr k ↦ (let r = true_any test xs k in (r.0, (Contains-tail x r.0 xs r.1.0, r.1.1))) ]
