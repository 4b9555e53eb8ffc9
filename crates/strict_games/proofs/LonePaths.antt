-- Paths of two squares that are alone between their ends.
use Rattle.std.proofs.Common.{◌≡◌, ◌∙◌, ℕ, ◌+◌, ◌-◌, ◌*◌, ◌<◌, ◌≤◌, Bool, true, false, cond, not, ◌||◌, List, [], ◌∷◌, length, Ok, refl, sym, ap, subst, arith, inl, inr}
use Rattle.std.specs.Prelude.{◌↔◌, IsTrue, filter, Contains}
use Rattle.std.specs.Bool.{OnTrue}
use Rattle.std.specs.Cmp.{first_so, second_so}
use Rattle.std.specs.Cmp.Derive.{both_true}
use Rattle.std.proofs.lemmas.Bool.{eq-eqb, eqb-true, ltb-true, true≢false}
use Rattle.std.proofs.lemmas.List.Elements.{All-contains, filter_passes}
use Rattle.draughts_board.specs.Board.{Board, IsLawful, cell_at}
use Rattle.draughts_board.specs.Same.{same_board-Decides}
use Rattle.draughts_board.specs.Geometry.{are_near, are_jump_apart, distance, row}
use Rattle.draughts_board.specs.Play.{legal_paths}
use Rattle.draughts_board.specs.Resolution.{elsewhere, first_of, is_written, matches, meaning, meaning_beside}
use Rattle.draughts_board.specs.Rules.{IsCapture, IsLegal, IsStep, after, all_following, first_square, is_jump, last_square, may_go}
use Rattle.draughts_board.specs.declared.pieces.Cell.TheVariants.{Man}
use Rattle.draughts_board.specs.declared.pieces.Side.{Side}
use Rattle.draughts_board.specs.declared.pieces.Side.TheVariants.{Black, White}
use Rattle.draughts_board.proofs.Legal.{capture-has_jump, legal_paths_are_legal}
use Rattle.draughts_board.proofs.Members.{Contains-filter, Contains-from_filter, Contains-head, Contains-nil, Contains-tail}
use Rattle.strict_games.specs.Playing.{IsDirect}
use Rattle.swift_moves.proofs.MovedMasks.{near_not_apart}

-- ---- paths that are all the same mean it

none_elsewhere : (p : Board) (a : List ℕ) (paths : List (List ℕ)) → ((q : List ℕ) → Contains paths q → q ≡ a) → elsewhere p (after p a) paths ≡ []
none_elsewhere p a [] all = refl
none_elsewhere p a (q ∷ paths) all =
    let same = (same_board-Decides (after p q) (after p a)).1 (ap (after p) (all q (Contains-head q paths))) in
    ap (λ b. cond (not b) (q ∷ elsewhere p (after p a) paths) (elsewhere p (after p a) paths)) same
    ∙ none_elsewhere p a paths (λ r h. all r (Contains-tail q r paths h))

means_one : (p : Board) (a : List ℕ) (paths : List (List ℕ)) → Contains paths a → ((q : List ℕ) → Contains paths q → q ≡ a) → meaning p paths ≡ Ok a
means_one p a [] h all = absurd (Contains-nil a h)
means_one p a (q ∷ paths) h all =
    subst (λ x. meaning p (x ∷ paths) ≡ Ok a) (sym (all q (Contains-head q paths)))
    (ap (λ ps. meaning_beside a (first_of ps)) (none_elsewhere p a paths (λ r k. all r (Contains-tail q r paths k))))

-- the legal path of two squares, where each legal path with its ends is the same
means_lone : (p : Board) (x z : ℕ) → IsLawful p → IsLegal p (x ∷ z ∷ [])
    → ((q : List ℕ) → IsLegal p q → first_square q ≡ x → last_square q ≡ z → q ≡ x ∷ z ∷ [])
    → meaning p (matches p x [] z) ≡ Ok (x ∷ z ∷ [])
unfolding matches
means_lone p x z lawful legal alone =
    let paths = legal_paths_are_legal p lawful in
    let test = is_written x [] z in
    means_one p (x ∷ z ∷ []) (filter test (legal_paths p))
    (Contains-filter test (legal_paths p) (x ∷ z ∷ []) (paths.complete (x ∷ z ∷ []) legal) (both_true (eq-eqb x x refl) (eq-eqb z z refl)))
    (λ q h.
    let passes = All-contains (λ a. test a ≡ true) (filter test (legal_paths p)) q (filter_passes test (legal_paths p)) h in
    alone q (paths.sound q (Contains-from_filter test (legal_paths p) q h)) (eqb-true (first_square q) x (first_so _ _ passes)) (eqb-true (last_square q) z (second_so _ _ passes)))

-- ---- steps

step_alone : (p : Board) (x z : ℕ) (q : List ℕ) → IsStep p (x ∷ z ∷ []) → IsLegal p q → first_square q ≡ x → last_square q ≡ z → q ≡ x ∷ z ∷ []
step_alone p x z q s (inl c) first last = absurd (true≢false (sym (capture-has_jump p q c) ∙ s.no_jump))
step_alone p x z [] s (inr t) first last = let l = t.two in absurd (omega arith)
step_alone p x z (u ∷ []) s (inr t) first last = let l = t.two in absurd (omega arith)
step_alone p x z (u ∷ v ∷ []) s (inr t) first last = λ i. first i ∷ last i ∷ []
step_alone p x z (u ∷ v ∷ w ∷ more) s (inr t) first last = let l = t.two in absurd (omega arith)

-- ---- a man's capture

-- a jump of the piece on s
apart : (p : Board) (s x z : ℕ) → is_jump p s x z ≡ true → are_jump_apart x z ≡ true
apart p s x z h = second_so _ _ (first_so _ _ (first_so _ _ (first_so _ _ h)))

goes : (p : Board) (s x z : ℕ) → is_jump p s x z ≡ true → may_go (cell_at p s) x z ≡ true
goes p s x z h = second_so _ _ (first_so _ _ (first_so _ _ h))

two_rows : (x z : ℕ) → are_jump_apart x z ≡ true → (row x - row z) + (row z - row x) ≡ 2
two_rows x z h = eqb-true (distance (row x) (row z)) 2 (first_so _ _ h)

-- each jump of a man leads two rows on
black_rows : (p : Board) (s u : ℕ) (rest : List ℕ) → cell_at p s ≡ Man Black → all_following (is_jump p s) (u ∷ rest) ≡ true → row u + 2 * length rest ≤ row (last_square (u ∷ rest))
black_rows p s u [] man h = omega arith
black_rows p s u (v ∷ rest) man h =
    let jump : is_jump p s u v ≡ true = first_so _ _ h in
    let on : row u < row v = ltb-true (row u) (row v) (subst (λ c. may_go c u v ≡ true) man (goes p s u v jump)) in
    let far = two_rows u v (apart p s u v jump) in
    let more = black_rows p s v rest man (second_so _ _ h) in
    omega arith

white_rows : (p : Board) (s u : ℕ) (rest : List ℕ) → cell_at p s ≡ Man White → all_following (is_jump p s) (u ∷ rest) ≡ true → row (last_square (u ∷ rest)) + 2 * length rest ≤ row u
white_rows p s u [] man h = omega arith
white_rows p s u (v ∷ rest) man h =
    let jump : is_jump p s u v ≡ true = first_so _ _ h in
    let on : row v < row u = ltb-true (row v) (row u) (subst (λ c. may_go c u v ≡ true) man (goes p s u v jump)) in
    let far = two_rows u v (apart p s u v jump) in
    let more = white_rows p s v rest man (second_so _ _ h) in
    omega arith

-- so a man's jumps between two squares that are a jump apart are one jump
one_jump : (p : Board) (s x z : ℕ) (rest : List ℕ) (side : Side) → cell_at p s ≡ Man side → are_jump_apart x z ≡ true → all_following (is_jump p s) (x ∷ rest) ≡ true
    → last_square (x ∷ rest) ≡ z → length rest ≤ 1
one_jump p s x z rest Black man far h last =
    let rows = black_rows p s x rest man h in
    let two = two_rows x z far in
    let there : row (last_square (x ∷ rest)) ≡ row z = ap row last in
    omega arith
one_jump p s x z rest White man far h last =
    let rows = white_rows p s x rest man h in
    let two = two_rows x z far in
    let there : row (last_square (x ∷ rest)) ≡ row z = ap row last in
    omega arith

capture_alone : (p : Board) (x z : ℕ) (side : Side) (q : List ℕ) → cell_at p x ≡ Man side → are_jump_apart x z ≡ true → IsCapture p (x ∷ z ∷ []) → IsLegal p q → first_square q ≡ x
    → last_square q ≡ z → q ≡ x ∷ z ∷ []
capture_alone p x z side q man far c (inr t) first last = absurd (true≢false (sym (capture-has_jump p (x ∷ z ∷ []) c) ∙ t.no_jump))
capture_alone p x z side [] man far c (inl d) first last = let l = d.long in absurd (omega arith)
capture_alone p x z side (u ∷ []) man far c (inl d) first last = let l = d.long in absurd (omega arith)
capture_alone p x z side (u ∷ v ∷ []) man far c (inl d) first last = λ i. first i ∷ last i ∷ []
capture_alone p x z side (u ∷ v ∷ w ∷ more) man far c (inl d) first last =
    let man_there : cell_at p u ≡ Man side = ap (cell_at p) first ∙ man in
    let far_there : are_jump_apart u z ≡ true = ap (λ n. are_jump_apart n z) first ∙ far in
    let short = one_jump p u u z (v ∷ w ∷ more) side man_there far_there d.jumps last in
    absurd (omega arith)

-- ---- both

-- a step between squares that are near
pub near_lone : (p : Board) (x z : ℕ) → IsLawful p → are_near x z ≡ true → IsLegal p (x ∷ z ∷ []) → meaning p (matches p x [] z) ≡ Ok (x ∷ z ∷ [])
near_lone p x z lawful near (inl c) = absurd (true≢false (sym (apart p x x z (first_so _ _ c.jumps)) ∙ near_not_apart x z near))
near_lone p x z lawful near (inr s) = means_lone p x z lawful (inr s) (λ q. step_alone p x z q s)

-- a man's capture between squares that are a jump apart
pub jump_lone : (p : Board) (x z : ℕ) (side : Side) → IsLawful p → cell_at p x ≡ Man side → are_jump_apart x z ≡ true → IsLegal p (x ∷ z ∷ []) → meaning p (matches p x [] z) ≡ Ok (x ∷ z ∷ [])
jump_lone p x z side lawful man far (inl c) = means_lone p x z lawful (inl c) (λ q. capture_alone p x z side q man far c)
jump_lone p x z side lawful man far (inr s) = absurd (true≢false (sym far ∙ near_not_apart x z (second_so _ _ (first_so _ _ (first_so _ _ s.step)))))

-- ---- as the tests tell

pub lone : (p : Board) (x z : ℕ) → IsLawful p → IsDirect p x z → IsLegal p (x ∷ z ∷ []) → meaning p (matches p x [] z) ≡ Ok (x ∷ z ∷ [])
lone p x z lawful (inl near) legal = near_lone p x z lawful near legal
lone p x z lawful (inr man) legal = jump_lone p x z man.0 lawful man.1.0 man.1.1 legal

pub lone_if : (r : Bool) (p : Board) (x z : ℕ) (m : List ℕ) → m ≡ x ∷ z ∷ [] → IsLawful p → IsDirect p x z → IsTrue r ↔ IsLegal p m
    → OnTrue r (meaning p (matches p x [] z) ≡ Ok (x ∷ z ∷ []))
lone_if true p x z m e lawful direct legal = lone p x z lawful direct (subst (IsLegal p) e (legal.0 refl))
lone_if false p x z m e lawful direct legal = tt

pub legal_if : (r : Bool) (p : Board) (x z : ℕ) (m : List ℕ) → m ≡ x ∷ z ∷ [] → IsTrue r ↔ IsLegal p m → OnTrue r (IsLegal p (x ∷ z ∷ []))
legal_if true p x z m e legal = subst (IsLegal p) e (legal.0 refl)
legal_if false p x z m e legal = tt

-- the tests on two squares, the first of which has a man, or any piece
pub direct_man : (near far : Bool) (p : Board) (x z : ℕ) (side : Side) → cell_at p x ≡ Man side → near ≡ are_near x z → far ≡ are_jump_apart x z → OnTrue (near || far) (IsDirect p x z)
direct_man true far p x z side man n f = inl (sym n)
direct_man false true p x z side man n f = inr (side, (man, sym f))
direct_man false false p x z side man n f = tt

pub direct_near : (near : Bool) (p : Board) (x z : ℕ) → near ≡ are_near x z → OnTrue near (IsDirect p x z)
direct_near true p x z n = inl (sym n)
direct_near false p x z n = tt

pub so : (b : Bool) (P : Type 0) → b ≡ true → OnTrue b P → P
so b P e h = subst (λ x. OnTrue x P) e h
