-- Where no jump is, two squares mean the step between them, or nothing.
use Rattle.std.proofs.Common.{◌≡◌, ◌∙◌, ℕ, true, false, cond, not, List, [], ◌∷◌, length, nat_eq, refl, sym, ap, subst, arith, inr}
use Rattle.std.specs.Prelude.{Ok, Err, filter, Contains}
use Rattle.std.specs.Cmp.{first_so, second_so}
use Rattle.std.proofs.lemmas.Bool.{eqb-true, eq-eqb}
use Rattle.std.specs.Cmp.Derive.{both_true}
use Rattle.std.proofs.lemmas.List.Elements.{All-contains, filter_passes}
use Rattle.draughts_board.specs.Board.{Board, IsLawful, same_board}
use Rattle.draughts_board.specs.Same.{same_board-Decides}
use Rattle.draughts_board.specs.Rules.{IsStep, after, has_jump}
use Rattle.draughts_board.specs.Play.{legal_paths}
use Rattle.draughts_board.specs.Resolution.{is_written, matches, meaning, meaning_beside, elsewhere, first_of}
use Rattle.draughts_board.specs.declared.resolution.ResolveRefusal.TheVariants.{Illegal}
use Rattle.draughts_board.proofs.Members.{Contains-head, Contains-tail, Contains-filter, Contains-from_filter, Contains-nil}
use Rattle.draughts_board.proofs.Legal.{steps-sound, legal_paths_are_legal}
use Rattle.swift_moves.proofs.LegalLists.{without_jump}

-- a step with these ends is the path of the two
step_between : (p : Board) (x z : ℕ) (path : List ℕ) → IsStep p path → is_written x [] z path ≡ true → path ≡ x ∷ z ∷ []
step_between p x z [] s w = let l = s.two in absurd (omega arith)
step_between p x z (a ∷ []) s w = let l = s.two in absurd (omega arith)
step_between p x z (a ∷ b ∷ c ∷ more) s w = let l = s.two in absurd (omega arith)
step_between p x z (a ∷ b ∷ []) s w = (λ i. eqb-true a x (first_so _ _ w) i ∷ eqb-true b z (second_so _ _ w) i ∷ [])

-- what is written so is that path, and a step
each_match : (p : Board) (x z : ℕ) → has_jump p ≡ false → (path : List ℕ) → Contains (matches p x [] z) path → (path ≡ x ∷ z ∷ []) × IsStep p path
unfolding matches
each_match p x z none path h =
    let all : List (List ℕ) = legal_paths p in
    let s : IsStep p path = steps-sound p path none (subst (λ l. Contains l path) (sym (without_jump p none)) (Contains-from_filter (is_written x [] z) all path h)) in
    let w : is_written x [] z path ≡ true = All-contains (λ q. is_written x [] z q ≡ true) (filter (is_written x [] z) all) path (filter_passes (is_written x [] z) all) h in
    (step_between p x z path s w, s)

is_match : (p : Board) (x z : ℕ) → IsLawful p → IsStep p (x ∷ z ∷ []) → Contains (matches p x [] z) (x ∷ z ∷ [])
unfolding matches
is_match p x z lawful s =
    Contains-filter (is_written x [] z) (legal_paths p) (x ∷ z ∷ []) ((legal_paths_are_legal p lawful).complete (x ∷ z ∷ []) (inr s))
    (both_true (eq-eqb x x refl) (eq-eqb z z refl))

-- one path leads nowhere else than itself
nowhere_else : (p : Board) (a : List ℕ) (paths : List (List ℕ)) → ((q : List ℕ) → Contains paths q → q ≡ a) → elsewhere p (after p a) paths ≡ []
nowhere_else p a [] each = refl
nowhere_else p a (q ∷ paths) each =
    let same : same_board (after p q) (after p a) ≡ true = (same_board-Decides (after p q) (after p a)).1 (ap (after p) (each q (Contains-head q paths))) in
    ap (λ b. cond (not b) (q ∷ elsewhere p (after p a) paths) (elsewhere p (after p a) paths)) same
    ∙ nowhere_else p a paths (λ r k. each r (Contains-tail q r paths k))

-- paths that are all one mean that one
one_meaning : (p : Board) (a : List ℕ) (paths : List (List ℕ)) → ((q : List ℕ) → Contains paths q → q ≡ a) → Contains paths a → meaning p paths ≡ Ok a
one_meaning p a [] each some = absurd (Contains-nil a some)
one_meaning p a (q ∷ paths) each some =
    let e : q ≡ a = each q (Contains-head q paths) in
    ap (λ y. meaning_beside y (first_of (elsewhere p (after p y) paths))) e
    ∙ ap (λ l. meaning_beside a (first_of l)) (nowhere_else p a paths (λ r k. each r (Contains-tail q r paths k)))

no_meaning : (p : Board) (paths : List (List ℕ)) → ((q : List ℕ) → ¬ Contains paths q) → meaning p paths ≡ Err Illegal
no_meaning p [] none = refl
no_meaning p (q ∷ paths) none = absurd (none q (Contains-head q paths))

-- the step is meant
pub step-meant : (p : Board) (x z : ℕ) → IsLawful p → IsStep p (x ∷ z ∷ []) → Ok (x ∷ z ∷ []) ≡ meaning p (matches p x [] z)
step-meant p x z lawful s =
    sym (one_meaning p (x ∷ z ∷ []) (matches p x [] z) (λ q h. (each_match p x z s.no_jump q h).0) (is_match p x z lawful s))

-- nothing is
pub nothing-meant : (p : Board) (x z : ℕ) → has_jump p ≡ false → ¬ IsStep p (x ∷ z ∷ []) → Err Illegal ≡ meaning p (matches p x [] z)
nothing-meant p x z none never =
    sym (no_meaning p (matches p x [] z) (λ q h. (let m = each_match p x z none q h in never (subst (IsStep p) m.0 m.1))))

pub nothing_between : (middle : List ℕ) → true ≡ nat_eq (length middle) 0 → middle ≡ []
nothing_between [] e = refl
nothing_between (x ∷ middle) e = absurd (let n = eqb-true (length (x ∷ middle)) 0 (sym e) in omega (arith, n))
