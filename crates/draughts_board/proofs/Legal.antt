-- The legal paths are the captures where there is a jump, else the steps.
use Rattle.std.proofs.Common.{◌≡◌, ℕ, ◌<◌, ◌≤◌, Bool, true, false, cond, ◌&&◌, List, [], ◌∷◌, length, refl, sym, ◌∙◌, ap, subst, arith, inl, inr}
use Rattle.std.specs.Prelude.{filter, flat_map, Contains, All}
use Rattle.std.specs.List.{list_any, list_all}
use Rattle.std.specs.Cmp.{first_so, second_so}
use Rattle.std.specs.Cmp.Derive.{both_true}
use Rattle.std.specs.Ordering.{is_lt}
use Rattle.std.proofs.lemmas.Bool.{not-true, not_from_false, false≢true, true≢false, leb-true}
use Rattle.std.proofs.lemmas.List.Elements.{All-nil, All-cons, Contains-push, All-contains, filter_passes}
use Rattle.draughts_board.specs.Board.{Board, IsLawful, other}
use Rattle.draughts_board.specs.Geometry.{squares, is_square, IsSquare}
use Rattle.draughts_board.specs.Rules.{all_following, jumped, is_own, is_jump, is_step, has_jump, IsCapture, IsStep, IsLegal, IsBefore, AreLegalPaths}
use Rattle.draughts_board.specs.Laws.{LegalPathsFit}
use Rattle.draughts_board.proofs.Members.{any_true, Contains-filter, Contains-flat_map, Contains-from_flat_map, only_one}
use Rattle.draughts_board.proofs.Growth.{Contains-squares, grown-complete, grown-sound, jump_square, grown-Rising, grown-across, Rising-flat_map, Rising-pairs, Rising, Each, Increasing-filter, Increasing-squares, Each-flat_map, before-branch, not_done, jumped-pieces, distinct-count, length-jumped, pieces-most}
use Rattle.draughts_board.specs.Play.{grown, starts, captures, steps, steps_from, legal_paths, IsCapturePrefix}

one_square : (p : Board) (x : ℕ) → is_own p x ≡ true → IsCapturePrefix p (x ∷ [])
one_square p x h = record { own = h; jumps = refl; once = refl; crowned_last = refl }

pub captures-sound : (p : Board) (path : List ℕ) → IsLawful p → Contains (captures p) path → IsCapture p path
unfolding captures
captures-sound p path lawful h =
    let r = Contains-from_flat_map (λ x. grown 12 p (x ∷ [])) (filter (starts p) squares) path h in
    let s : starts p r.0 ≡ true = All-contains (λ w. starts p w ≡ true) (filter (starts p) squares) r.0 (filter_passes (starts p) squares) r.1.0 in
    grown-sound p 12 r.0 [] path lawful (one_square p r.0 (first_so _ _ s)) (inr (not-true _ (second_so _ _ s))) refl r.1.1

-- a capture has at most thirteen squares
pub capture-short : (p : Board) (x : ℕ) (rest : List ℕ) → IsLawful p → IsCapture p (x ∷ rest) → length rest ≤ 12
capture-short p x rest lawful c =
    let count = distinct-count (other p.to_move) (jumped (x ∷ rest)) p.cells (jumped-pieces p x x rest c.jumps) c.once in
    omega (arith, count, length-jumped p x x rest c.jumps, pieces-most p (other p.to_move) lawful)

captures-complete : (p : Board) (path : List ℕ) → IsLawful p → IsCapture p path → Contains (captures p) path
unfolding captures
captures-complete p [] lawful c = let l = c.long in absurd (omega arith)
captures-complete p (x ∷ []) lawful c = let l = c.long in absurd (omega arith)
captures-complete p (x ∷ z ∷ more) lawful c =
    let own : is_own p x ≡ true = c.own in
    let start : starts p x ≡ true = both_true own (not_from_false _ (not_done p x [] z more c)) in
    Contains-flat_map (λ w. grown 12 p (w ∷ [])) (filter (starts p) squares) x (x ∷ z ∷ more)
    (Contains-filter (starts p) squares x (Contains-squares x (first_so _ _ own)) start)
    (grown-complete p 12 x [] (z ∷ more) c (capture-short p x (z ∷ more) lawful c))

pub capture-has_jump : (p : Board) (path : List ℕ) → IsCapture p path → has_jump p ≡ true
capture-has_jump p [] c = let l = c.long in absurd (omega arith)
capture-has_jump p (x ∷ []) c = let l = c.long in absurd (omega arith)
capture-has_jump p (x ∷ z ∷ more) c =
    let own : is_own p x ≡ true = c.own in
    let jump : is_jump p x x z ≡ true = first_so _ _ c.jumps in
    any_true (λ w. is_own p w && list_any (is_jump p w w) squares) squares x (Contains-squares x (first_so _ _ own))
    (both_true own (any_true (is_jump p x x) squares z (Contains-squares z (first_so _ _ (first_so _ _ (first_so _ _ (first_so _ _ jump))))) jump))

pub steps-sound : (p : Board) (path : List ℕ) → has_jump p ≡ false → Contains (steps p) path → IsStep p path
unfolding steps
steps-sound p path no_jump h =
    let r = Contains-from_flat_map (steps_from p) (filter (is_own p) squares) path h in
    let x : ℕ = r.0 in
    let own : is_own p x ≡ true = All-contains (λ w. is_own p w ≡ true) (filter (is_own p) squares) x (filter_passes (is_own p) squares) r.1.0 in
    let s = Contains-from_flat_map (λ z. (x ∷ z ∷ []) ∷ []) (filter (is_step p x) squares) path r.1.1 in
    let z : ℕ = s.0 in
    let step : is_step p x z ≡ true = All-contains (λ w. is_step p x w ≡ true) (filter (is_step p x) squares) z (filter_passes (is_step p x) squares) s.1.0 in
    let e : x ∷ z ∷ [] ≡ path = only_one _ _ s.1.1 in
    subst (λ q. IsStep p q) e (record { two = refl; own = own; step = step; no_jump = no_jump })

steps-complete : (p : Board) (path : List ℕ) → IsStep p path → Contains (steps p) path
unfolding steps
steps-complete p [] s = let l = s.two in absurd (omega arith)
steps-complete p (x ∷ []) s = let l = s.two in absurd (omega arith)
steps-complete p (x ∷ z ∷ y ∷ more) s = let l = s.two in absurd (omega arith)
steps-complete p (x ∷ z ∷ []) s =
    let own : is_own p x ≡ true = s.own in
    let step : is_step p x z ≡ true = s.step in
    let target : is_square z ≡ true = first_so _ _ (first_so _ _ (first_so _ _ step)) in
    Contains-flat_map (steps_from p) (filter (is_own p) squares) x (x ∷ z ∷ [])
    (Contains-filter (is_own p) squares x (Contains-squares x (first_so _ _ own)) own)
    (Contains-flat_map (λ w. (x ∷ w ∷ []) ∷ []) (filter (is_step p x) squares) z (x ∷ z ∷ [])
    (Contains-filter (is_step p x) squares z (Contains-squares z target) step) (Contains-push [] (x ∷ z ∷ [])))

captures-Rising : (p : Board) → Rising (captures p)
unfolding captures
captures-Rising p = Rising-flat_map (λ x. grown 12 p (x ∷ [])) (λ x. grown-Rising p 12 (x ∷ [])) (grown-across p 12 []) (filter (starts p) squares) (Increasing-filter (starts p) squares Increasing-squares)

single-Rising : (q : List ℕ) → Rising (q ∷ [])
unfolding Rising Each
single-Rising q = (tt, tt)

steps-across : (p : Board) (x y : ℕ) → x < y → (xs ys : List ℕ) → Each (λ q. Each (IsBefore q) (flat_map (λ w. (y ∷ w ∷ []) ∷ []) ys)) (flat_map (λ z. (x ∷ z ∷ []) ∷ []) xs)
unfolding Each
steps-across p x y l xs ys =
    Each-flat_map (λ q. Each (IsBefore q) (flat_map (λ w. (y ∷ w ∷ []) ∷ []) ys)) (λ z. (x ∷ z ∷ []) ∷ []) xs
    (λ z. (Each-flat_map (IsBefore (x ∷ z ∷ [])) (λ w. (y ∷ w ∷ []) ∷ []) ys (λ w. (ap is_lt (before-branch [] x y (z ∷ []) (w ∷ []) l), tt)), tt))

pairs-across : (x z w : ℕ) → z < w → Each (λ q. Each (IsBefore q) ((x ∷ w ∷ []) ∷ [])) ((x ∷ z ∷ []) ∷ [])
unfolding Each
pairs-across x z w l = ((ap is_lt (before-branch (x ∷ []) z w [] [] l), tt), tt)

pub steps-Rising : (p : Board) → Rising (steps p)
unfolding steps
steps-Rising p =
    Rising-flat_map (steps_from p)
    (λ x. Rising-flat_map (λ z. (x ∷ z ∷ []) ∷ []) (λ z. single-Rising (x ∷ z ∷ [])) (pairs-across x) (filter (is_step p x) squares) (Increasing-filter (is_step p x) squares Increasing-squares))
    (λ x y l. steps-across p x y l (filter (is_step p x) squares) (filter (is_step p y) squares))
    (filter (is_own p) squares) (Increasing-filter (is_own p) squares Increasing-squares)

either : (p : Board) (b : Bool) → has_jump p ≡ b → IsLawful p → AreLegalPaths p (cond b (captures p) (steps p))
either p true jump lawful = record {
  sound = λ path h. inl (captures-sound p path lawful h);
  complete = λ path l. elim l [ inl c ↦ captures-complete p path lawful c | inr s ↦ absurd (true≢false (sym jump ∙ s.no_jump)) ];
  rising = Rising-pairs (captures p) (captures-Rising p);
}
either p false jump lawful = record {
  sound = λ path h. inr (steps-sound p path jump h);
  complete = λ path l. elim l [ inl c ↦ absurd (false≢true (sym jump ∙ capture-has_jump p path c)) | inr s ↦ steps-complete p path s ];
  rising = Rising-pairs (steps p) (steps-Rising p);
}

-- the function gives the legal paths
pub legal_paths_are_legal : (p : Board) → IsLawful p → AreLegalPaths p (legal_paths p)
unfolding legal_paths
legal_paths_are_legal p lawful = either p (has_jump p) refl lawful

-- ---- the squares of a legal path

-- the squares of a path of jumps are squares
jumps-squares : (p : Board) (s x : ℕ) (rest : List ℕ) → is_square x ≡ true → all_following (is_jump p s) (x ∷ rest) ≡ true → list_all is_square (x ∷ rest) ≡ true
jumps-squares p s x [] hx h = both_true hx refl
jumps-squares p s x (z ∷ rest) hx h = both_true hx (jumps-squares p s z rest (jump_square p s x z (first_so _ _ h)) (second_so _ _ h))

pub legal-squares : (p : Board) (path : List ℕ) → IsLegal p path → list_all is_square path ≡ true
legal-squares p [] l = refl
legal-squares p (x ∷ rest) (inl c) = jumps-squares p x x rest (first_so _ _ c.own) c.jumps
legal-squares p (x ∷ []) (inr s) = let l = s.two in absurd (omega arith)
legal-squares p (x ∷ z ∷ y ∷ rest) (inr s) = let l = s.two in absurd (omega arith)
legal-squares p (x ∷ z ∷ []) (inr s) = both_true (first_so _ _ s.own) (both_true (first_so _ _ (first_so _ _ (first_so _ _ s.step))) refl)

pub all-squares : (path : List ℕ) → list_all is_square path ≡ true → All IsSquare path
all-squares [] h = All-nil IsSquare
all-squares (x ∷ rest) h = All-cons IsSquare x rest (leb-true _ _ (first_so _ _ (first_so _ _ h)), leb-true _ _ (second_so _ _ (first_so _ _ h))) (all-squares rest (second_so _ _ h))

-- a legal path has 2 to 13 squares
pub legal_paths_fit : LegalPathsFit
legal_paths_fit p [] lawful (inl c) = let l = c.long in absurd (omega arith)
legal_paths_fit p (x ∷ rest) lawful (inl c) = let short = capture-short p x rest lawful c in let long = c.long in (omega arith, omega arith, all-squares (x ∷ rest) (legal-squares p (x ∷ rest) (inl c)))
legal_paths_fit p path lawful (inr s) = let two = s.two in (omega arith, omega arith, all-squares path (legal-squares p path (inr s)))
