-- What the masks of a capture hold.
use Rattle.std.proofs.Common.{◌≡◌, ℕ, ◌≤◌, Bool, true, false, cond, not, ◌&&◌, ◌||◌, ◌==◌, List, [], ◌∷◌, ◌++◌, length, refl, sym, ◌∙◌, ap, arith, ◌⊎◌, inl, inr, ◌≢◌}
use Rattle.std.specs.Prelude.{filter, Contains}
use Rattle.std.specs.List.{list_any}
use Rattle.std.specs.Cmp.{first_so}
use Rattle.std.proofs.Math.Bool.{or-false}
use Rattle.std.proofs.lemmas.Bool.Decides.{eqb_tells}
use Rattle.std.proofs.lemmas.Bool.{ne_eqb, eq-eqb}
use Rattle.std.proofs.lemmas.List.Folds.{list_any-append}
use Rattle.draughts_board.specs.Geometry.{are_jump_apart, between}
use Rattle.draughts_board.specs.Board.{Board}
use Rattle.draughts_board.specs.Rules.{first_square, last_square, goes_on, contains, jumped}
use Rattle.draughts_board.specs.Play.{is_nil}
use Rattle.draughts_board.proofs.PathLemmas.{jumped-middle}
use Rattle.draughts_board.proofs.Members.{Contains-head, Contains-tail}
use Rattle.draughts_board.proofs.Growth.{jump_apart}

pub jump_parts : (a e n f s : Bool) → ((a && (e && n)) && (f || s)) ≡ ((a && e) && (f || s) && n)
jump_parts false e n f s = refl
jump_parts true false n f s = refl
jump_parts true true true f s = by (f || s)
  where
    by : (b : Bool) → b ≡ (b && true)
    by true = refl
    by false = refl
jump_parts true true false f s = by (f || s)
  where
    by : (b : Bool) → false ≡ (b && false)
    by true = refl
    by false = refl

nil-filter-by : (test : ℕ → Bool) (x : ℕ) (xs : List ℕ) (b : Bool) → is_nil (filter test xs) ≡ not (list_any test xs) → is_nil (cond b (x ∷ filter test xs) (filter test xs)) ≡ not (b || list_any test xs)
nil-filter-by test x xs true e = refl
nil-filter-by test x xs false e = e

pub nil-filter : (test : ℕ → Bool) (xs : List ℕ) → is_nil (filter test xs) ≡ not (list_any test xs)
nil-filter test [] = refl
nil-filter test (x ∷ xs) = nil-filter-by test x xs (test x) (nil-filter test xs)

turned_by : (a b : ℕ) → ((a == b) ≡ true) × (a ≡ b) ⊎ ((a == b) ≡ false) × (a ≢ b) → (a == b) ≡ (b == a)
turned_by a b (inl h) = h.0 ∙ sym (eq-eqb b a (sym h.1))
turned_by a b (inr h) = h.0 ∙ sym (ne_eqb b a (λ e. h.1 (sym e)))

pub eqb_turned : (a b : ℕ) → (a == b) ≡ (b == a)
eqb_turned a b = turned_by a b (eqb_tells a b)

pub jumped-more : (path : List ℕ) (z n : ℕ) → 1 ≤ length path → are_jump_apart (last_square path) z ≡ true → contains (jumped (path ++ z ∷ [])) n ≡ (contains (jumped path) n || (n == between (last_square path) z))
jumped-more [] z n some apart = absurd (omega arith)
jumped-more (x ∷ rest) z n some apart =
    ap (λ l. contains l n) (jumped-middle x rest z [] apart)
    ∙ list_any-append (λ y. y == n) (jumped (x ∷ rest)) (between (last_square (x ∷ rest)) z ∷ [])
    ∙ ap (λ b. contains (jumped (x ∷ rest)) n || b) (or-false (between (last_square (x ∷ rest)) z == n) ∙ eqb_turned (between (last_square (x ∷ rest)) z) n)

-- where a capture goes on to is a jump away
pub apart-on : (p : Board) (path : List ℕ) (z : ℕ) → goes_on p path z ≡ true → are_jump_apart (last_square path) z ≡ true
apart-on p path z g = jump_apart p (first_square path) (last_square path) z (first_so _ _ g)

-- each element of the list has the property
abbrev pub Every : (ℕ → Type 0) → List ℕ → Type 0
Every P [] = Unit {0}
Every P (x ∷ xs) = P x × Every P xs

every-map : (P Q : ℕ → Type 0) (xs : List ℕ) → ((x : ℕ) → P x → Q x) → Every P xs → Every Q xs
every-map P Q [] f h = tt
every-map P Q (x ∷ xs) f h = (f x h.0, every-map P Q xs f h.1)

pub every_self : (xs : List ℕ) → Every (Contains xs) xs
every_self [] = tt
every_self (x ∷ xs) = (Contains-head x xs, every-map (Contains xs) (Contains (x ∷ xs)) xs (λ y. Contains-tail x y xs) (every_self xs))

every_passes-by : (test : ℕ → Bool) (x : ℕ) (xs : List ℕ) (b : Bool) → test x ≡ b → Every (λ w. test w ≡ true) (filter test xs) → Every (λ w. test w ≡ true) (cond b (x ∷ filter test xs) (filter test xs))
every_passes-by test x xs true e h = (e, h)
every_passes-by test x xs false e h = h

pub every_passes : (test : ℕ → Bool) (xs : List ℕ) → Every (λ w. test w ≡ true) (filter test xs)
every_passes test [] = tt
every_passes test (x ∷ xs) = every_passes-by test x xs (test x) refl (every_passes test xs)
