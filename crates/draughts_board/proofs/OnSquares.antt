-- Tests that agree on the squares, and the mask that holds none.
use Rattle.std.proofs.Common.{◌≡◌, ℕ, zero, suc, ◌<◌, ◌^◌, Bool, true, false, cond, not, ◌&&◌, ◌||◌, List, [], ◌∷◌, refl, sym, ◌∙◌, ap, arith}
use Rattle.std.specs.Prelude.{filter, nat_le, nat_eq}
use Rattle.std.specs.List.{list_any}
use Rattle.std.proofs.lemmas.Bool.{false≢true, leb-true, le-leb, ne_eqb}
use Rattle.draughts_board.specs.Geometry.{squares, IsSquare, is_square}
use Rattle.draughts_board.specs.Masks.{IsMaskOf, stands_in, squares_of}
use Rattle.draughts_board.proofs.LowestSquares.{squares_of-lowest}

both : (a b : Bool) → (a && b) ≡ true → (a ≡ true) × (b ≡ true)
both true b e = (refl, e)
both false b e = absurd (false≢true e)

pub square_so : (n : ℕ) → is_square n ≡ true → IsSquare n
square_so n e = let h = both (nat_le 1 n) (nat_le n 32) e in (leb-true 1 n h.0, leb-true n 32 h.1)

pub square_is : (n : ℕ) → IsSquare n → is_square n ≡ true
square_is n h = (λ i. le-leb 1 n h.0 i && le-leb n 32 h.1 i)

guarded : (b : Bool) (x y : Bool) → (b ≡ true → x ≡ y) → (b && x) ≡ (b && y)
guarded true x y h = h refl
guarded false x y h = refl

filter-guarded : (f : ℕ → Bool) → filter f squares ≡ filter (λ n. is_square n && f n) squares
unfolding squares
filter-guarded f = refl

any-guarded : (f : ℕ → Bool) → list_any f squares ≡ list_any (λ n. is_square n && f n) squares
unfolding squares
any-guarded f = refl

pub filter-on_squares : (f g : ℕ → Bool) → ((n : ℕ) → IsSquare n → f n ≡ g n) → filter f squares ≡ filter g squares
filter-on_squares f g h = filter-guarded f ∙ (λ i. filter (λ n. guarded (is_square n) (f n) (g n) (λ e. h n (square_so n e)) i) squares) ∙ sym (filter-guarded g)

pub any-on_squares : (f g : ℕ → Bool) → ((n : ℕ) → IsSquare n → f n ≡ g n) → list_any f squares ≡ list_any g squares
any-on_squares f g h = any-guarded f ∙ (λ i. list_any (λ n. guarded (is_square n) (f n) (g n) (λ e. h n (square_so n e)) i) squares) ∙ sym (any-guarded g)

-- a mask's squares are those that pass its test
pub squares_of-test : (test : ℕ → Bool) (m : ℕ) → IsMaskOf test m → squares_of m ≡ filter test squares
unfolding squares_of
squares_of-test test m h = filter-on_squares (stands_in m) test h

any-first-step : (f : ℕ → Bool) (x : ℕ) (xs ys : List ℕ) (y : ℕ) (b : Bool) → (filter f xs ≡ y ∷ ys → list_any f xs ≡ true) → cond b (x ∷ filter f xs) (filter f xs) ≡ y ∷ ys → (b || list_any f xs) ≡ true
any-first-step f x xs ys y true h e = refl
any-first-step f x xs ys y false h e = h e

any-first : (f : ℕ → Bool) (xs ys : List ℕ) (y : ℕ) → filter f xs ≡ y ∷ ys → list_any f xs ≡ true
any-first f [] ys y e = absurd (cc)
any-first f (x ∷ xs) ys y e = any-first-step f x xs ys y (f x) (any-first f xs ys y) e

none_stand : list_any (stands_in 0) squares ≡ false
unfolding squares
none_stand = refl

pub some_stand : (m : ℕ) → m < 2 ^ 32 → not (nat_eq m 0) ≡ list_any (stands_in m) squares
unfolding squares_of
some_stand zero fits = sym none_stand
some_stand (suc m) fits = ap not (ne_eqb (suc m) 0 (λ e. absurd (omega (arith, e)))) ∙ sym (any-first (stands_in (suc m)) squares _ _ (squares_of-lowest (suc m) (omega arith) fits))

pub is_some-test : (test : ℕ → Bool) (m : ℕ) → m < 2 ^ 32 → IsMaskOf test m → not (nat_eq m 0) ≡ list_any test squares
is_some-test test m fits h = some_stand m fits ∙ any-on_squares (stands_in m) test h
