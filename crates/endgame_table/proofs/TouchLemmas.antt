-- How often an index is touched from a list of targets: as often as its moves lead to one of them.
use Rattle.std.proofs.Common.{◌≡◌, ◌≢◌, ℕ, suc, ◌+◌, ◌<◌, Bool, true, false, eqb, List, [], ◌∷◌, length, refl, sym, ◌∙◌, ap, subst, inl, inr, arith}
use Rattle.std.specs.Prelude.{All, Contains, count_by, flat_map, slice_index_or}
use Rattle.std.specs.List.{sum_by}
use Rattle.std.proofs.lemmas.Bool.{cases_Bool, eqb-true, eqb-false, eq-eqb, ne_eqb, false≢true}
use Rattle.std.proofs.lemmas.List.Sums.{sum_by-cons}
use Rattle.draughts_board.proofs.Members.{Contains-nil, Contains-cons_cases, Contains-head, Contains-tail}
use Rattle.endgame_table.specs.declared.origins.Origins.{Origins}
use Rattle.endgame_table.specs.Origins.{origins_at, TurnsRound}
use Rattle.endgame_table.specs.Marking.{one_if, times}
use Rattle.endgame_table.proofs.MarkLemmas.{times-cons, times-append}

one_sym : (x t : ℕ) → one_if (eqb x t) ≡ one_if (eqb t x)
one_sym x t = elim (cases_Bool (eqb x t)) [
  | inl e ↦ ap (λ b. one_if b) (e ∙ sym (eq-eqb t x (sym (eqb-true x t e))))
  | inr e ↦ ap (λ b. one_if b) (e ∙ sym (ne_eqb t x (λ same. eqb-false x t e (sym same))))
]

-- ---- counting one way and the other

none-times : (targets : List ℕ) → sum_by (λ t. times t []) targets ≡ 0
none-times [] = refl
none-times (t ∷ targets) = let e = sum_by-cons (λ t. times t []) t targets in let rest = none-times targets in omega (arith, e, rest)

split-times : (x : ℕ) (xs targets : List ℕ) → sum_by (λ t. times t (x ∷ xs)) targets ≡ times x targets + sum_by (λ t. times t xs) targets
split-times x xs [] = refl
split-times x xs (t ∷ targets) =
    let left = sum_by-cons (λ t. times t (x ∷ xs)) t targets in
    let right = sum_by-cons (λ t. times t xs) t targets in
    let here = times-cons t x xs in
    let there = times-cons x t targets in
    let same = one_sym x t in
    let rest = split-times x xs targets in
    omega (arith, left, right, here, there, same, rest)

swap-times : (xs targets : List ℕ) → sum_by (λ t. times t xs) targets ≡ sum_by (λ x. times x targets) xs
swap-times [] targets = none-times targets
swap-times (x ∷ xs) targets =
    let left = split-times x xs targets in
    let right = sum_by-cons (λ x. times x targets) x xs in
    let rest = swap-times xs targets in
    omega (arith, left, right, rest)

module _ (rows : List (List ℕ)) (o : Origins) (turned : TurnsRound rows o) (i : ℕ) where
  touched : (targets : List ℕ) → All (λ t. t < length rows) targets → times i (flat_map (origins_at o) targets) ≡ sum_by (λ t. times t (slice_index_or rows i [])) targets
  touched [] inside = refl
  touched (t ∷ targets) inside =
      let below : t < length rows = inside 0 t (omega arith) in
      let parts = times-append i (origins_at o t) (flat_map (origins_at o) targets) in
      let here = turned t i below in
      let rest = touched targets (λ k d l. inside (suc k) d (omega arith)) in
      let more = sum_by-cons (λ t. times t (slice_index_or rows i [])) t targets in
      omega (arith, parts, here, rest, more)

  -- where the targets are listed by a test, each once
  pub touched-times : (test : ℕ → Bool) (targets : List ℕ) → All (λ t. t < length rows) targets → ((t : ℕ) → times t targets ≡ one_if (test t))
      → times i (flat_map (origins_at o) targets) ≡ count_by test (slice_index_or rows i [])
  touched-times test targets inside listed =
      touched targets inside ∙ swap-times (slice_index_or rows i []) targets ∙ (λ j. sum_by (λ x. listed x j) (slice_index_or rows i []))

-- ---- counts by a test

count-cons : (test : ℕ → Bool) (x : ℕ) (xs : List ℕ) → count_by test (x ∷ xs) ≡ one_if (test x) + count_by test xs
count-cons test x xs = sum_by-cons (λ y. one_if (test y)) x xs

pub count-none : (test : ℕ → Bool) (xs : List ℕ) → count_by test xs ≡ 0 → (x : ℕ) → Contains xs x → test x ≡ false
count-none test [] none x here = absurd (Contains-nil x here)
count-none test (y ∷ xs) none x here =
    let e = count-cons test y xs in
    elim (Contains-cons_cases y xs x here) [
      | inl same ↦ elim (cases_Bool (test y)) [
        | inl t ↦ (let one : one_if (test y) ≡ 1 = ap (λ b. one_if b) t in absurd (omega (arith, e, one, none)))
        | inr f ↦ subst (λ z. test z ≡ false) same f
      ]
      | inr later ↦ count-none test xs (omega (arith, e, none)) x later
    ]

pub count-some : (test : ℕ → Bool) (xs : List ℕ) → count_by test xs ≢ 0 → (x : ℕ) × (Contains xs x × (test x ≡ true))
count-some test [] some = absurd (some refl)
count-some test (y ∷ xs) some = elim (cases_Bool (test y)) [
  | inl t ↦ (y, (Contains-head y xs, t))
  | inr f ↦ (let e = count-cons test y xs in
      let none : one_if (test y) ≡ 0 = ap (λ b. one_if b) f in
      let r = count-some test xs (λ z. some (omega (arith, e, none, z))) in
      (r.0, (Contains-tail y r.0 xs r.1.0, r.1.1)))
]

pub count-contains : (test : ℕ → Bool) (xs : List ℕ) (x : ℕ) → Contains xs x → test x ≡ true → count_by test xs ≢ 0
count-contains test xs x here t = λ none. false≢true (sym (count-none test xs none x here) ∙ t)

pub count-split : (f g h : ℕ → Bool) → ((x : ℕ) → one_if (f x) ≡ one_if (g x) + one_if (h x)) → (xs : List ℕ) → count_by f xs ≡ count_by g xs + count_by h xs
count-split f g h each [] = refl
count-split f g h each (x ∷ xs) =
    let a = count-cons f x xs in
    let b = count-cons g x xs in
    let c = count-cons h x xs in
    let here = each x in
    let rest = count-split f g h each xs in
    omega (arith, a, b, c, here, rest)

pub count-same : (f g : ℕ → Bool) → ((x : ℕ) → f x ≡ g x) → (xs : List ℕ) → count_by f xs ≡ count_by g xs
count-same f g each xs = λ i. count_by (λ x. each x i) xs

pub count-all : (f : ℕ → Bool) (xs : List ℕ) → ((x : ℕ) → Contains xs x → f x ≡ true) → count_by f xs ≡ length xs
count-all f [] each = refl
count-all f (x ∷ xs) each =
    let e = count-cons f x xs in
    let one : one_if (f x) ≡ 1 = ap (λ b. one_if b) (each x (Contains-head x xs)) in
    let rest = count-all f xs (λ y here. each y (Contains-tail x y xs here)) in
    omega (arith, e, one, rest)
