-- The legal paths are the captures where there is a jump, and else the steps.
use Rattle.std.proofs.Common.{◌≡◌, ◌∙◌, true, false, cond, ℕ, List, [], ◌∷◌, ◌++◌, map, ap, sym, subst}
use Rattle.std.specs.Prelude.{Contains, flat_map}
use Rattle.draughts_board.specs.Geometry.{squares}
use Rattle.draughts_board.specs.Board.{Board, IsLawful}
use Rattle.draughts_board.specs.Rules.{AreLegalPaths, AreSuccessors, IsLegal, is_own, is_step, has_jump, after, first_places}
use Rattle.draughts_board.specs.Play.{grown, starts, captures, steps, steps_from, legal_paths, successors_of}
use Rattle.draughts_board.proofs.Legal.{legal_paths_are_legal}
use Rattle.draughts_board.proofs.Successors.{successors_are}
use Rattle.draughts_board.proofs.Filters.{filter-same}
use Rattle.draughts_board.proofs.NoCapture.{starts-by_jump}
use Rattle.std.specs.List.{list_any}
use Rattle.draughts_board.specs.Masks.{IsMaskOf, stands_in, squares_of}
use Rattle.swift_moves.specs.Forces.{is_jumper, is_stepper}
use Rattle.draughts_board.proofs.OnSquares.{any-on_squares, squares_of-test}
use Rattle.swift_moves.proofs.Loops.{flat_map-some, none-kept}

pub with_jump : (p : Board) → has_jump p ≡ true → captures p ≡ legal_paths p
unfolding legal_paths
with_jump p e = ap (λ b. cond b (captures p) (steps p)) (sym e)

pub without_jump : (p : Board) → has_jump p ≡ false → steps p ≡ legal_paths p
unfolding legal_paths
without_jump p e = ap (λ b. cond b (captures p) (steps p)) (sym e)

-- some square stands in the mask of those that have a jump exactly where there is one
pub any-jumper : (p : Board) (m : ℕ) → IsMaskOf (is_jumper p) m → list_any (stands_in m) squares ≡ has_jump p
any-jumper p m h = any-on_squares (stands_in m) (is_jumper p) h

-- what was added to an empty list
pub captures-legal : (p : Board) (before found : List (List ℕ)) → before ≡ [] → has_jump p ≡ true → found ≡ before ++ captures p → found ≡ legal_paths p
captures-legal p before found none jump e = e ∙ ap (λ l. l ++ captures p) none ∙ with_jump p jump

pub steps-legal : (p : Board) (before found : List (List ℕ)) → before ≡ [] → has_jump p ≡ false → found ≡ before ++ steps p → found ≡ legal_paths p
steps-legal p before found none jump e = e ∙ ap (λ l. l ++ steps p) none ∙ without_jump p jump

-- a list that is the legal paths has what the rules ask
pub by_rules : (p : Board) (paths : List (List ℕ)) → IsLawful p → paths ≡ legal_paths p → AreLegalPaths p paths
by_rules p paths lawful e = subst (AreLegalPaths p) (sym e) (legal_paths_are_legal p lawful)

-- the steps of the pieces that have one are the steps
pub steps_of-mask : (p : Board) (m : ℕ) → IsMaskOf (is_stepper p) m → flat_map (steps_from p) (squares_of m) ≡ steps p
unfolding steps
steps_of-mask p m h =
    ap (flat_map (steps_from p)) (squares_of-test (is_stepper p) m h)
    ∙ flat_map-some (steps_from p) (is_own p) (λ x. list_any (is_step p x) squares) (λ x e. ap (flat_map (λ z. (x ∷ z ∷ []) ∷ [])) (none-kept (is_step p x) squares e)) squares

-- the captures of the pieces that have a jump are the captures
pub captures_of-mask : (p : Board) (m : ℕ) → IsLawful p → IsMaskOf (is_jumper p) m → flat_map (λ x. grown 12 p (x ∷ [])) (squares_of m) ≡ captures p
unfolding captures
captures_of-mask p m lawful h =
    ap (flat_map (λ x. grown 12 p (x ∷ []))) (squares_of-test (is_jumper p) m h ∙ sym (filter-same (starts p) (is_jumper p) squares (λ x. starts-by_jump p x lawful)))

-- the legal paths, and each of them
pub legal_of : (p : Board) (found : List (List ℕ)) → IsLawful p → found ≡ legal_paths p → (path : List ℕ) → Contains found path → IsLegal p path
legal_of p found lawful e path h = (by_rules p found lawful e).sound path h

-- the successors, where there is a jump
pub successors-of_captures : (p : Board) → has_jump p ≡ true → first_places (map (after p) (captures p)) ≡ successors_of p
unfolding successors_of
successors-of_captures p jump = ap (λ l. first_places (map (after p) l)) (with_jump p jump)

pub successors_by_rules : (p : Board) (found : List Board) → IsLawful p → found ≡ successors_of p → AreSuccessors p found
successors_by_rules p found lawful e = subst (AreSuccessors p) (sym e) (successors_are p lawful)
