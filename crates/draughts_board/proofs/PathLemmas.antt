-- Paths with one more square, and with any squares more.
use Rattle.std.proofs.Common.{◌≡◌, ℕ, zero, suc, ◌+◌, Bool, true, false, cond, ◌||◌, List, [], ◌∷◌, ◌++◌, length, get_or, refl, sym, ◌∙◌, ap, arith, ◌==◌, inl, inr}
use Rattle.std.specs.Cmp.{first_so, second_so}
use Rattle.std.specs.Cmp.Derive.{both_true}
use Rattle.std.proofs.lemmas.Bool.{not-true, not_from_false, or_from, true≢false, eq-eqb}
use Rattle.std.proofs.lemmas.Bool.Decides.{eqb_tells}
use Rattle.draughts_board.specs.Geometry.{are_jump_apart, between}
use Rattle.draughts_board.specs.Rules.{last_square, all_following, all_but_last, jumped, contains, are_distinct}

pub following-push : (test : ℕ → ℕ → Bool) (x : ℕ) (rest : List ℕ) (z : ℕ) → all_following test (x ∷ rest) ≡ true → test (last_square (x ∷ rest)) z ≡ true → all_following test ((x ∷ rest) ++ z ∷ []) ≡ true
following-push test x [] z h g = both_true g refl
following-push test x (y ∷ rest) z h g = both_true (first_so _ _ h) (following-push test y rest z (second_so _ _ h) g)

pub following-middle : (test : ℕ → ℕ → Bool) (x : ℕ) (rest : List ℕ) (z : ℕ) (more : List ℕ) → all_following test ((x ∷ rest) ++ z ∷ more) ≡ true → test (last_square (x ∷ rest)) z ≡ true
following-middle test x [] z more h = first_so _ _ h
following-middle test x (y ∷ rest) z more h = following-middle test y rest z more (second_so _ _ h)

pub but_last-push : (test : ℕ → Bool) (x : ℕ) (rest : List ℕ) (z : ℕ) → all_but_last test (x ∷ rest) ≡ true → test (last_square (x ∷ rest)) ≡ true → all_but_last test ((x ∷ rest) ++ z ∷ []) ≡ true
but_last-push test x [] z h g = both_true g refl
but_last-push test x (y ∷ rest) z h g = both_true (first_so _ _ h) (but_last-push test y rest z (second_so _ _ h) g)

pub but_last-middle : (test : ℕ → Bool) (x : ℕ) (rest : List ℕ) (z : ℕ) (more : List ℕ) → all_but_last test ((x ∷ rest) ++ z ∷ more) ≡ true → test (last_square (x ∷ rest)) ≡ true
but_last-middle test x [] z more h = first_so _ _ h
but_last-middle test x (y ∷ rest) z more h = but_last-middle test y rest z more (second_so _ _ h)

cond_push : (b : Bool) (w : ℕ) (xs ys ts : List ℕ) → xs ≡ ys ++ ts → cond b (w ∷ xs) xs ≡ cond b (w ∷ ys) ys ++ ts
cond_push true w xs ys ts e = ap (λ l. w ∷ l) e
cond_push false w xs ys ts e = e

pub jumped-middle : (x : ℕ) (rest : List ℕ) (z : ℕ) (more : List ℕ) → are_jump_apart (last_square (x ∷ rest)) z ≡ true → jumped ((x ∷ rest) ++ z ∷ more) ≡ jumped (x ∷ rest) ++ between (last_square (x ∷ rest)) z ∷ jumped (z ∷ more)
jumped-middle x [] z more h = ap (λ b. cond b (between x z ∷ jumped (z ∷ more)) (jumped (z ∷ more))) h
jumped-middle x (y ∷ rest) z more h = cond_push (are_jump_apart x y) (between x y) _ _ _ (jumped-middle y rest z more h)

pub or_first : (a b : Bool) → (a || b) ≡ false → a ≡ false
or_first true b h = h
or_first false b h = refl

pub or_second : (a b : Bool) → (a || b) ≡ false → b ≡ false
or_second true b h = absurd (true≢false h)
or_second false b h = h

eqb_flip : (x y : ℕ) → (y == x) ≡ false → (x == y) ≡ false
eqb_flip x y h = elim (eqb_tells x y) [ inl t ↦ absurd (true≢false (sym (eq-eqb y x (sym t.1)) ∙ h)) | inr t ↦ t.0 ]

contains-at : (xs : List ℕ) (y : ℕ) (ys : List ℕ) (x : ℕ) → contains (xs ++ y ∷ ys) x ≡ false → (y == x) ≡ false
contains-at [] y ys x h = or_first _ _ h
contains-at (w ∷ xs) y ys x h = contains-at xs y ys x (or_second (w == x) _ h)

contains-push : (xs : List ℕ) (y x : ℕ) → contains xs x ≡ false → (y == x) ≡ false → contains (xs ++ y ∷ []) x ≡ false
contains-push [] y x h g = or_from _ _ g refl
contains-push (w ∷ xs) y x h g = or_from _ _ (or_first _ _ h) (contains-push xs y x (or_second (w == x) _ h) g)

pub distinct-middle : (xs : List ℕ) (y : ℕ) (ys : List ℕ) → are_distinct (xs ++ y ∷ ys) ≡ true → contains xs y ≡ false
distinct-middle [] y ys h = refl
distinct-middle (x ∷ xs) y ys h =
    or_from _ _ (eqb_flip x y (contains-at xs y ys x (not-true _ (first_so _ _ h)))) (distinct-middle xs y ys (second_so _ _ h))

pub distinct-push : (xs : List ℕ) (y : ℕ) → are_distinct xs ≡ true → contains xs y ≡ false → are_distinct (xs ++ y ∷ []) ≡ true
distinct-push [] y h g = refl
distinct-push (x ∷ xs) y h g =
    both_true (not_from_false _ (contains-push xs y x (not-true _ (first_so _ _ h)) (eqb_flip y x (or_first _ _ g))))
    (distinct-push xs y (second_so _ _ h) (or_second (x == y) _ g))

pub get_or-last : (path : List ℕ) (k d : ℕ) → k + 1 ≡ length path → get_or path k d ≡ last_square path
get_or-last [] k d h = absurd (omega arith)
get_or-last (x ∷ []) zero d h = refl
get_or-last (x ∷ []) (suc k) d h = absurd (omega arith)
get_or-last (x ∷ y ∷ rest) zero d h = absurd (omega arith)
get_or-last (x ∷ y ∷ rest) (suc k) d h = get_or-last (y ∷ rest) k d (omega arith)
