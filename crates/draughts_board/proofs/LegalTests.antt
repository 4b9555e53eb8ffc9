-- The tests of legality say what the rules say.
use Rattle.std.proofs.Common.{◌≡◌, ℕ, ◌≤◌, ◌<◌, Bool, true, List, [], ◌∷◌, length, refl, ap, arith, ◌⊎◌, inl, inr}
use Rattle.std.specs.Cmp.{first_so, second_so}
use Rattle.std.specs.Cmp.Derive.{both_true}
use Rattle.std.proofs.lemmas.Bool.{eqb-true, eq-eqb, not-true, not_from_false, or_cases, or_left, or_right}
use Rattle.draughts_board.specs.Board.{Board, cell_at}
use Rattle.draughts_board.specs.Rules.{first_square, last_square, all_following, all_but_last, jumped, are_distinct, is_crowned_on, further_jumps, has_jump, IsCapture, IsStep}
use Rattle.draughts_board.specs.Play.{is_nil, is_done, is_capture, is_lone_step}
use Rattle.draughts_board.proofs.NoCapture.{nil_is}

-- ---- paths of less than two squares

pub following-short : (test : ℕ → ℕ → Bool) (path : List ℕ) → length path < 2 → true ≡ all_following test path
following-short test [] h = refl
following-short test (x ∷ []) h = refl
following-short test (x ∷ z ∷ rest) h = absurd (omega arith)

pub distinct-short : (path : List ℕ) → length path < 2 → true ≡ are_distinct (jumped path)
distinct-short [] h = refl
distinct-short (x ∷ []) h = refl
distinct-short (x ∷ z ∷ rest) h = absurd (omega arith)

pub but_last-short : (test : ℕ → Bool) (path : List ℕ) → length path < 2 → true ≡ all_but_last test path
but_last-short test [] h = refl
but_last-short test (x ∷ []) h = refl
but_last-short test (x ∷ z ∷ rest) h = absurd (omega arith)

-- ---- captures

done-complete : (p : Board) (path : List ℕ) → is_done p path ≡ true → (is_crowned_on (cell_at p (first_square path)) (last_square path) ≡ true) ⊎ (further_jumps p path ≡ [])
done-complete p path h =
    elim (or_cases (is_crowned_on (cell_at p (first_square path)) (last_square path)) (is_nil (further_jumps p path)) h) [ inl c ↦ inl c | inr n ↦ inr (nil_is (further_jumps p path) n) ]

complete-done : (p : Board) (path : List ℕ) → (is_crowned_on (cell_at p (first_square path)) (last_square path) ≡ true) ⊎ (further_jumps p path ≡ []) → is_done p path ≡ true
complete-done p path h = elim h [ inl c ↦ or_left _ (is_nil (further_jumps p path)) c | inr n ↦ or_right (is_crowned_on (cell_at p (first_square path)) (last_square path)) _ (ap is_nil n) ]

pub capture-from_test : (p : Board) (path : List ℕ) → 2 ≤ length path → is_capture p path ≡ true → IsCapture p path
capture-from_test p path long h = record {
  long = long;
  own = first_so _ _ (first_so _ _ (first_so _ _ (first_so _ _ h)));
  jumps = second_so _ _ (first_so _ _ (first_so _ _ (first_so _ _ h)));
  once = second_so _ _ (first_so _ _ (first_so _ _ h));
  crowned_last = second_so _ _ (first_so _ _ h);
  complete = done-complete p path (second_so _ _ h);
}

pub test-from_capture : (p : Board) (path : List ℕ) → IsCapture p path → is_capture p path ≡ true
test-from_capture p path c = both_true (both_true (both_true (both_true c.own c.jumps) c.once) c.crowned_last) (complete-done p path c.complete)

-- ---- steps

pub step-from_test : (p : Board) (path : List ℕ) → is_lone_step p path ≡ true → IsStep p path
step-from_test p path h = record {
  two = eqb-true (length path) 2 (first_so _ _ (first_so _ _ (first_so _ _ h)));
  own = second_so _ _ (first_so _ _ (first_so _ _ h));
  step = second_so _ _ (first_so _ _ h);
  no_jump = not-true (has_jump p) (second_so _ _ h);
}

pub test-from_step : (p : Board) (path : List ℕ) → IsStep p path → is_lone_step p path ≡ true
test-from_step p path s = both_true (both_true (both_true (eq-eqb (length path) 2 s.two) s.own) s.step) (not_from_false (has_jump p) s.no_jump)
