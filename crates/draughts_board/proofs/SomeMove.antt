-- The side to move has a legal move exactly where one of its pieces has a jump or a step.
use Rattle.std.proofs.Common.{◌≡◌, ℕ, Bool, true, false, ◌&&◌, ◌||◌, not, List, [], ◌∷◌, refl, sym, ◌∙◌, ap, inl, inr, arith}
use Rattle.std.specs.Prelude.{Contains, ◌↔◌, IsTrue}
use Rattle.std.specs.List.{list_any}
use Rattle.std.specs.Cmp.{first_so, second_so}
use Rattle.std.specs.Cmp.Derive.{both_true}
use Rattle.std.proofs.lemmas.Bool.{cases_Bool, or_cases, or_left, or_right, true≢false}
use Rattle.draughts_board.specs.Geometry.{squares}
use Rattle.draughts_board.specs.Board.{Board, IsLawful}
use Rattle.draughts_board.specs.Rules.{is_own, is_step, has_jump, IsLegal, IsStep, last_square}
use Rattle.draughts_board.specs.Play.{is_nil, captures}
use Rattle.draughts_board.proofs.Members.{Contains-head, any_true, true_any}
use Rattle.draughts_board.proofs.Growth.{Contains-squares}
use Rattle.draughts_board.proofs.Legal.{captures-sound, capture-has_jump}
use Rattle.draughts_board.proofs.NoCapture.{nil-captures}

-- a piece of the mover that has a step stands on x
abbrev pub may_step : Board → ℕ → Bool
may_step p x = is_own p x && list_any (is_step p x) squares

list_has : {X : Type 0} (xs : List X) → is_nil xs ≡ false → (x : X) × Contains xs x
list_has [] h = absurd (true≢false h)
list_has (x ∷ xs) h = (x, Contains-head x xs)

some_capture : (p : Board) → IsLawful p → has_jump p ≡ true → (path : List ℕ) × IsLegal p path
some_capture p lawful jump =
    let r = list_has (captures p) (nil-captures p lawful ∙ ap not jump) in
    (r.0, inl (captures-sound p r.0 lawful r.1))

some_step : (p : Board) → has_jump p ≡ false → list_any (may_step p) squares ≡ true → (path : List ℕ) × IsLegal p path
some_step p no_jump some =
    let x = true_any (may_step p) squares some in
    let z = true_any (is_step p x.0) squares (second_so (is_own p x.0) _ x.1.1) in
    (x.0 ∷ z.0 ∷ [], inr (record { two = refl; own = first_so _ _ x.1.1; step = z.1.1; no_jump = no_jump }))

step_may : (p : Board) (path : List ℕ) → IsStep p path → list_any (may_step p) squares ≡ true
step_may p [] s = let l = s.two in absurd (omega arith)
step_may p (x ∷ rest) s =
    let own : is_own p x ≡ true = s.own in
    let step : is_step p x (last_square (x ∷ rest)) ≡ true = s.step in
    any_true (may_step p) squares x (Contains-squares x (first_so _ _ own))
    (both_true own (any_true (is_step p x) squares (last_square (x ∷ rest)) (Contains-squares _ (first_so _ _ (first_so _ _ (first_so _ _ step)))) step))

pub some_move : (p : Board) → IsLawful p → IsTrue (has_jump p || list_any (may_step p) squares) ↔ ((path : List ℕ) × IsLegal p path)
some_move p lawful = (
  λ h. elim (cases_Bool (has_jump p)) [
    | inl jump ↦ some_capture p lawful jump
    | inr no_jump ↦ some_step p no_jump (elim (or_cases (has_jump p) (list_any (may_step p) squares) h) [ inl jump ↦ absurd (true≢false (sym jump ∙ no_jump)) | inr s ↦ s ])
  ],
  λ r. elim r.1 [
    | inl c ↦ or_left (has_jump p) _ (capture-has_jump p r.0 c)
    | inr s ↦ or_right (has_jump p) _ (step_may p r.0 s)
  ],
)
