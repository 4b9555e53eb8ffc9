-- Captures read square by square.
use Rattle.std.proofs.Common.{◌≡◌, ℕ, zero, suc, ◌+◌, ◌-◌, ◌<◌, ◌≤◌, Bool, true, false, not, ◌&&◌, List, [], ◌∷◌, ◌++◌, length, get_or, take, drop, refl, sym, ◌∙◌, ap, subst, arith, inl, inr, ◌==◌}
use Rattle.std.proofs.lemmas.Bool.{cases_Bool, not-true, false≢true}
use Rattle.std.proofs.lemmas.Nat.Bits.{bit_at-zero}
use Rattle.std.specs.Cmp.{first_so, second_so}
use Rattle.std.specs.Cmp.Derive.{both_true}
use Rattle.draughts_board.specs.Board.{Board, cell_at}
use Rattle.draughts_board.specs.Rules.{first_square, last_square, jumped, contains, goes_on, is_own, is_crowned_on, IsCapture}
use Rattle.draughts_board.specs.Play.{IsCapturePrefix, is_capture, is_done}
use Rattle.draughts_board.proofs.PathLemmas.{but_last-middle}
use Rattle.draughts_board.proofs.Growth.{prefix-push, further_has, further_goes_on}
use Rattle.draughts_board.proofs.LegalTests.{capture-from_test}
use Rattle.draughts_board.specs.Masks.{IsMaskOf}

-- the path may go on to z, and no crowning has ended it
abbrev pub continues : Board → List ℕ → ℕ → Bool
continues p path z = goes_on p path z && not (is_crowned_on (cell_at p (first_square path)) (last_square path))

pub prefix-one : (p : Board) (path : List ℕ) → 1 ≤ length path → is_own p (first_square path) ≡ true → IsCapturePrefix p (take 1 path)
prefix-one p [] some own = absurd (omega arith)
prefix-one p (x ∷ rest) some own = record { own = own; jumps = refl; once = refl; crowned_last = refl }

pub mask-one : (path : List ℕ) → IsMaskOf (contains (jumped (take 1 path))) 0
mask-one [] n h = ap (λ b. b == 1) (bit_at-zero (n - 1))
mask-one (x ∷ rest) n h = ap (λ b. b == 1) (bit_at-zero (n - 1))

pub prefix-more : (p : Board) (path : List ℕ) (z : ℕ) → 1 ≤ length path → IsCapturePrefix p path → continues p path z ≡ true → IsCapturePrefix p (path ++ z ∷ [])
prefix-more p [] z some h c = absurd (omega arith)
prefix-more p (x ∷ rest) z some h c = prefix-push p x rest z h (not-true _ (second_so (goes_on p (x ∷ rest) z) _ c)) (first_so _ _ c)

-- a capture goes on behind each of its parts
capture-continues : (p : Board) (path : List ℕ) (z : ℕ) (more : List ℕ) → 1 ≤ length path → IsCapture p (path ++ z ∷ more) → continues p path z ≡ true
capture-continues p [] z more some c = absurd (omega arith)
capture-continues p (x ∷ rest) z more some c =
    both_true (further_goes_on p (x ∷ rest) z (further_has p x rest z more c))
    (but_last-middle (λ w. not (is_crowned_on (cell_at p x) w)) x rest z more c.crowned_last)

split-at : (path : List ℕ) (i d : ℕ) → i < length path → path ≡ take i path ++ get_or path i d ∷ drop (i + 1) path
split-at [] i d l = absurd (omega arith)
split-at (x ∷ path) zero d l = refl
split-at (x ∷ path) (suc i) d l =
    let e : suc (i + 1) ≡ suc i + 1 = omega arith in
    ap (λ q. x ∷ q) (split-at path i d (omega arith)) ∙ ap (λ k. x ∷ (take i path ++ get_or path i d ∷ drop k (x ∷ path))) e

pub no_capture : (p : Board) (path : List ℕ) (i z : ℕ) → 1 ≤ i → i < length path → z ≡ get_or path i z → 1 ≤ length (take i path) → continues p (take i path) z ≡ false → is_capture p path ≡ false
no_capture p path i z least within at some stops =
    elim (cases_Bool (is_capture p path)) [
      | inr none ↦ none
      | inl whole ↦
          let c : IsCapture p path = capture-from_test p path (omega arith) whole in
          let split : path ≡ take i path ++ z ∷ drop (i + 1) path = split-at path i z within ∙ ap (λ y. take i path ++ y ∷ drop (i + 1) path) (sym at) in
          absurd (false≢true (sym stops ∙ capture-continues p (take i path) z (drop (i + 1) path) some (subst (IsCapture p) split c)))
    ]

pub whole_capture : (p : Board) (path : List ℕ) → IsCapturePrefix p path → is_done p path ≡ is_capture p path
whole_capture p path h = sym (ap (λ b. b && is_done p path) (both_true (both_true (both_true h.own h.jumps) h.once) h.crowned_last))
