-- Two steps lead to two positions, so no successor of steps is left out.
use Rattle.std.proofs.Common.{◌≡◌, ℕ, true, false, cond, not, ◌==◌, List, [], ◌∷◌, ◌++◌, map, refl, sym, ◌∙◌, ap, subst, arith, inl, inr}
use Rattle.std.specs.Prelude.{Contains, filter, flat_map}
use Rattle.std.specs.Cmp.{first_so, second_so}
use Rattle.std.specs.Cmp.Lexicographic.{slice_cmp}
use Rattle.std.specs.Ordering.{nat_cmp, is_lt, ordering_then}
use Rattle.std.specs.declared.cmp.Ordering.TheVariants.{Equal}
use Rattle.std.proofs.lemmas.Bool.{cases_Bool, eqb-true, eq-eqb, ne_eqb, false≢true}
use Rattle.std.proofs.lemmas.List.{map-append}
use Rattle.draughts_board.specs.declared.pieces.Cell.TheVariants.{Empty}
use Rattle.draughts_board.specs.Geometry.{IsSquare, are_near, between}
use Rattle.draughts_board.specs.Board.{Board, IsLawful, cell_at, belongs, same_board}
use Rattle.draughts_board.specs.Same.{same_board-Decides}
use Rattle.draughts_board.specs.Rules.{IsStep, IsBefore, after, at_rest, first_places, has_jump}
use Rattle.draughts_board.specs.Play.{steps, successors_of}
use Rattle.draughts_board.proofs.Members.{Contains-head, Contains-tail}
use Rattle.draughts_board.proofs.Growth.{Each, Rising, level}
use Rattle.draughts_board.proofs.Legal.{steps-sound, steps-Rising}
use Rattle.draughts_board.proofs.After.{at_rest-belongs}
use Rattle.swift_moves.proofs.CellsAfter.{cell_moved, cell_at-after}
use Rattle.swift_moves.proofs.MovedMasks.{near_not_apart, is_nothing, legal-first, legal-end}
use Rattle.swift_moves.proofs.LegalLists.{without_jump}

-- ---- one step

step_own : (p : Board) (x z : ℕ) → IsStep p (x ∷ z ∷ []) → belongs p.to_move (cell_at p x) ≡ true
step_own p x z s = second_so _ _ s.own

step_free : (p : Board) (x z : ℕ) → IsStep p (x ∷ z ∷ []) → cell_at p z ≡ Empty
step_free p x z s = is_nothing (cell_at p z) (second_so _ _ s.step)

step_after : (p : Board) (x z n : ℕ) → IsLawful p → IsStep p (x ∷ z ∷ []) → IsSquare n → cell_at (after p (x ∷ z ∷ [])) n ≡ cell_moved p x z [] n
step_after p x z n lawful s h =
    let near : are_near x z ≡ true = second_so _ _ (first_so _ _ (first_so _ _ s.step)) in
    cell_at-after p (x ∷ z ∷ []) n lawful.squares (legal-first p (x ∷ z ∷ []) (inr s)) (legal-end p (x ∷ z ∷ []) (inr s)) h
    ∙ ap (λ b. cell_moved p x z (cond b (between x z ∷ []) []) n) (near_not_apart x z near)

own_not_empty : (p : Board) (x : ℕ) → belongs p.to_move (cell_at p x) ≡ true → cell_at p x ≡ Empty → ⊥
own_not_empty p x own e = false≢true (sym (ap (belongs p.to_move) e) ∙ own)

-- an own square is no free one
own_not_free : (p : Board) (x y w z : ℕ) → IsStep p (x ∷ y ∷ []) → IsStep p (w ∷ z ∷ []) → (x == z) ≡ false
own_not_free p x y w z s t = ne_eqb x z (λ e. own_not_empty p x (step_own p x y s) (ap (cell_at p) e ∙ step_free p w z t))

left_behind : (p : Board) (x z : ℕ) → IsLawful p → IsStep p (x ∷ z ∷ []) → cell_at (after p (x ∷ z ∷ [])) x ≡ Empty
left_behind p x z lawful s =
    step_after p x z x lawful s (legal-first p (x ∷ z ∷ []) (inr s))
    ∙ (λ i. cond (own_not_free p x z x z s s i) (at_rest (cell_at p x) z) (cond (eq-eqb x x refl i) Empty (cell_at p x)))

arrived : (p : Board) (x z : ℕ) → IsLawful p → IsStep p (x ∷ z ∷ []) → belongs p.to_move (cell_at (after p (x ∷ z ∷ [])) z) ≡ true
arrived p x z lawful s =
    ap (belongs p.to_move) (step_after p x z z lawful s (legal-end p (x ∷ z ∷ []) (inr s)) ∙ ap (λ b. cond b (at_rest (cell_at p x) z) (cond (x == z) Empty (cell_at p z))) (eq-eqb z z refl))
    ∙ at_rest-belongs p.to_move (cell_at p x) z ∙ step_own p x z s

-- ---- two steps

same_start : (p : Board) (x z w y : ℕ) → IsLawful p → IsStep p (x ∷ z ∷ []) → IsStep p (w ∷ y ∷ []) → after p (x ∷ z ∷ []) ≡ after p (w ∷ y ∷ []) → w ≡ x
same_start p x z w y lawful s t e =
    let there : cell_moved p w y [] x ≡ Empty = sym (step_after p w y x lawful t (legal-first p (x ∷ z ∷ []) (inr s))) ∙ ap (λ (b : Board). cell_at b x) (sym e) ∙ left_behind p x z lawful s in
    elim (cases_Bool (w == x)) [
      | inl same ↦ eqb-true w x same
      | inr other ↦ absurd (own_not_empty p x (step_own p x z s) (sym (λ i. cond (own_not_free p x z w y s t i) (at_rest (cell_at p w) y) (cond (other i) Empty (cell_at p x))) ∙ there))
    ]

not_there : (p : Board) (x z y : ℕ) → IsStep p (x ∷ z ∷ []) → (z == y) ≡ false → cell_moved p x y [] z ≡ Empty
not_there p x z y s other =
    ap (λ b. cond b (at_rest (cell_at p x) y) (cond (x == z) Empty (cell_at p z))) other
    ∙ ap (λ b. cond b Empty (cell_at p z)) (own_not_free p x z x z s s) ∙ step_free p x z s

same_end : (p : Board) (x z y : ℕ) → IsLawful p → IsStep p (x ∷ z ∷ []) → IsStep p (x ∷ y ∷ []) → after p (x ∷ z ∷ []) ≡ after p (x ∷ y ∷ []) → z ≡ y
same_end p x z y lawful s t e =
    elim (cases_Bool (z == y)) [
      | inl same ↦ eqb-true z y same
      | inr other ↦
          let nothing : cell_at (after p (x ∷ z ∷ [])) z ≡ Empty = ap (λ (b : Board). cell_at b z) e ∙ step_after p x y z lawful t (legal-end p (x ∷ z ∷ []) (inr s)) ∙ not_there p x z y s other in
          absurd (false≢true (sym (ap (belongs p.to_move) nothing) ∙ arrived p x z lawful s))
    ]

same_steps : (p : Board) (x z w y : ℕ) → IsLawful p → IsStep p (x ∷ z ∷ []) → IsStep p (w ∷ y ∷ []) → after p (x ∷ z ∷ []) ≡ after p (w ∷ y ∷ []) → x ∷ z ∷ [] ≡ w ∷ y ∷ []
same_steps p x z w y lawful s t e =
    let start : w ≡ x = same_start p x z w y lawful s t e in
    let t' : IsStep p (x ∷ y ∷ []) = subst (λ v. IsStep p (v ∷ y ∷ [])) start t in
    let end : z ≡ y = same_end p x z y lawful s t' (e ∙ ap (λ v. after p (v ∷ y ∷ [])) start) in
    (λ i. sym start i ∷ end i ∷ [])

pub steps_apart : (p : Board) (a b : List ℕ) → IsLawful p → IsStep p a → IsStep p b → after p a ≡ after p b → a ≡ b
steps_apart p [] b lawful s t e = let l = s.two in absurd (omega arith)
steps_apart p (x ∷ []) b lawful s t e = let l = s.two in absurd (omega arith)
steps_apart p (x ∷ z ∷ v ∷ a) b lawful s t e = let l = s.two in absurd (omega arith)
steps_apart p (x ∷ z ∷ []) [] lawful s t e = let l = t.two in absurd (omega arith)
steps_apart p (x ∷ z ∷ []) (w ∷ []) lawful s t e = let l = t.two in absurd (omega arith)
steps_apart p (x ∷ z ∷ []) (w ∷ y ∷ v ∷ b) lawful s t e = let l = t.two in absurd (omega arith)
steps_apart p (x ∷ z ∷ []) (w ∷ y ∷ []) lawful s t e = same_steps p x z w y lawful s t e

-- ---- all steps

not_before_itself : (a : List ℕ) → slice_cmp nat_cmp a a ≡ Equal
not_before_itself [] = refl
not_before_itself (x ∷ a) = ap (λ o. ordering_then o (slice_cmp nat_cmp a a)) (level x) ∙ not_before_itself a

differ : (p : Board) (a b : List ℕ) → IsLawful p → IsStep p a → IsStep p b → IsBefore a b → same_board (after p a) (after p b) ≡ false
differ p a b lawful s t before =
    elim (cases_Bool (same_board (after p a) (after p b))) [
      | inr other ↦ other
      | inl same ↦
          let e : a ≡ b = steps_apart p a b lawful s t ((same_board-Decides (after p a) (after p b)).0 same) in
          let itself : IsBefore a a = subst (IsBefore a) (sym e) before in
          absurd (false≢true (sym (ap is_lt (not_before_itself a)) ∙ itself))
    ]

keeps_all : (p : Board) (a : List ℕ) (paths : List (List ℕ)) → IsLawful p → IsStep p a → ((q : List ℕ) → Contains paths q → IsStep p q) → Each (IsBefore a) paths
    → filter (λ b. not (same_board (after p a) b)) (map (after p) paths) ≡ map (after p) paths
unfolding Each
keeps_all p a [] lawful s each h = refl
keeps_all p a (q ∷ paths) lawful s each h =
    (λ i. cond (not (differ p a q lawful s (each q (Contains-head q paths)) h.0 i)) (after p q ∷ keeps_all p a paths lawful s (λ r k. each r (Contains-tail q r paths k)) h.1 i) (filter (λ b. not (same_board (after p a) b)) (map (after p) paths)))

all_first : (p : Board) (paths : List (List ℕ)) → IsLawful p → Rising paths → ((q : List ℕ) → Contains paths q → IsStep p q) → first_places (map (after p) paths) ≡ map (after p) paths
unfolding Rising
all_first p [] lawful h each = refl
all_first p (a ∷ paths) lawful h each =
    ap (λ l. after p a ∷ filter (λ b. not (same_board (after p a) b)) l) (all_first p paths lawful h.1 (λ r k. each r (Contains-tail a r paths k)))
    ∙ ap (λ l. after p a ∷ l) (keeps_all p a paths lawful (each a (Contains-head a paths)) (λ r k. each r (Contains-tail a r paths k)) h.0)

pub successors-of_steps : (p : Board) → IsLawful p → has_jump p ≡ false → map (after p) (steps p) ≡ successors_of p
unfolding successors_of
successors-of_steps p lawful no_jump =
    sym (all_first p (steps p) lawful (steps-Rising p) (λ q. steps-sound p q no_jump))
    ∙ ap (λ l. first_places (map (after p) l)) (without_jump p no_jump)

-- what a map makes of what each element gives
pub map-flat_map : {A X Y : Type 0} (g : X → Y) (f : A → List X) (xs : List A) → map g (flat_map f xs) ≡ flat_map (λ x. map g (f x)) xs
map-flat_map g f [] = refl
map-flat_map g f (x ∷ xs) = map-append g (f x) (flat_map f xs) ∙ ap (λ l. map g (f x) ++ l) (map-flat_map g f xs)
