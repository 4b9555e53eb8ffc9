-- A loop over the squares of a mask, lowest first: what has been found and what the squares left will give are, together, all.
use Rattle.std.proofs.Common.{◌≡◌, ℕ, Bool, true, false, cond, ◌&&◌, ◌||◌, List, [], ◌∷◌, ◌++◌, refl, sym, ◌∙◌, ap, append_assoc}
use Rattle.std.specs.Prelude.{filter, flat_map}
use Rattle.std.specs.List.{list_any}
use Rattle.std.proofs.lemmas.List.{append-nil}
use Rattle.draughts_board.specs.Geometry.{squares}
use Rattle.draughts_board.specs.Masks.{squares_of}

squares_of-zero : squares_of 0 ≡ []
unfolding squares_of squares
squares_of-zero = refl

-- all that comes of a list, and of what is left of a mask
abbrev pub with_rest : {Y : Type 0} → (ℕ → List Y) → List Y → ℕ → List Y
with_rest f found left = found ++ flat_map f (squares_of left)

pub rest-turn : {Y : Type 0} (f : ℕ → List Y) (found more all : List Y) (left x later : ℕ) → squares_of left ≡ x ∷ squares_of later → with_rest f found left ≡ all → more ≡ found ++ f x → with_rest f more later ≡ all
rest-turn f found more all left x later first h e =
    ap (λ l. l ++ flat_map f (squares_of later)) e
    ∙ append_assoc found (f x) (flat_map f (squares_of later))
    ∙ ap (λ l. found ++ flat_map f l) (sym first)
    ∙ h

pub rest-end : {Y : Type 0} (f : ℕ → List Y) (found all : List Y) (left : ℕ) → left ≡ 0 → with_rest f found left ≡ all → found ≡ all
rest-end f found all left e h = sym (append-nil found) ∙ ap (λ l. found ++ flat_map f l) (sym squares_of-zero) ∙ ap (with_rest f found) (sym e) ∙ h

-- squares that give nothing may be left out
flat_map-kept : {Y : Type 0} (f : ℕ → List Y) (a b : Bool) (x : ℕ) (xs ys : List ℕ) → (b ≡ false → f x ≡ []) → flat_map f xs ≡ flat_map f ys → flat_map f (cond (a && b) (x ∷ xs) xs) ≡ flat_map f (cond a (x ∷ ys) ys)
flat_map-kept f true true x xs ys h e = ap (λ l. f x ++ l) e
flat_map-kept f true false x xs ys h e = e ∙ ap (λ l. l ++ flat_map f ys) (sym (h refl))
flat_map-kept f false b x xs ys h e = e

pub flat_map-some : {Y : Type 0} (f : ℕ → List Y) (a b : ℕ → Bool) → ((x : ℕ) → b x ≡ false → f x ≡ []) → (xs : List ℕ) → flat_map f (filter (λ x. a x && b x) xs) ≡ flat_map f (filter a xs)
flat_map-some f a b h [] = refl
flat_map-some f a b h (x ∷ xs) = flat_map-kept f (a x) (b x) x _ _ (h x) (flat_map-some f a b h xs)

none-kept-by : (f : ℕ → Bool) (x : ℕ) (xs : List ℕ) (b : Bool) → (list_any f xs ≡ false → filter f xs ≡ []) → (b || list_any f xs) ≡ false → cond b (x ∷ filter f xs) (filter f xs) ≡ []
none-kept-by f x xs true h e = absurd (let t : true ≡ false = e in cc)
none-kept-by f x xs false h e = h e

pub none-kept : (f : ℕ → Bool) (xs : List ℕ) → list_any f xs ≡ false → filter f xs ≡ []
none-kept f [] e = refl
none-kept f (x ∷ xs) e = none-kept-by f x xs (f x) (none-kept f xs) e

or_across : (a b c d : Bool) → (a || b || (c || d)) ≡ (a || c || (b || d))
or_across true b c d = refl
or_across false true true d = refl
or_across false true false d = refl
or_across false false c d = refl

-- some element passes one of two tests where some element passes the one, or some the other
pub any-or : {X : Type 0} (f g : X → Bool) (xs : List X) → list_any (λ x. f x || g x) xs ≡ (list_any f xs || list_any g xs)
any-or f g [] = refl
any-or f g (x ∷ xs) = ap (λ b. f x || g x || b) (any-or f g xs) ∙ or_across (f x) (g x) (list_any f xs) (list_any g xs)
