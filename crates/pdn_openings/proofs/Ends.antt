-- The ends of a path, as the code reads them.
use Rattle.std.proofs.Common.{◌≡◌, ℕ, zero, suc, ◌-◌, ◌≤◌, List, [], ◌∷◌, length, get_or, sym, ap, subst, arith}
use Rattle.draughts_board.specs.Board.{Board}
use Rattle.draughts_board.specs.Rules.{first_square, last_square}
use Rattle.draughts_board.specs.Resolution.{matches, meaning}
use Rattle.pdn_openings.specs.Playing.{squares_between, meaning_of}
use Rattle.pdn_text.specs.declared.game.MoveText.{MoveText}

first-read : (squares : List ℕ) (a : ℕ) → 1 ≤ length squares → a ≡ get_or squares 0 a → first_square squares ≡ a
first-read [] a h e = absurd (omega arith)
first-read (x ∷ squares) a h e = sym e

last-read : (squares : List ℕ) (z i : ℕ) → suc i ≡ length squares → z ≡ get_or squares i z → last_square squares ≡ z
last-read [] z i h e = absurd (omega arith)
last-read (x ∷ []) z zero h e = sym e
last-read (x ∷ []) z (suc i) h e = absurd (omega arith)
last-read (x ∷ y ∷ squares) z zero h e = absurd (omega arith)
last-read (x ∷ y ∷ squares) z (suc i) h e = last-read (y ∷ squares) z i (omega arith) e

-- What `resolve` answers of the squares as they are read is what the written move means.
pub meaning-read : (p : Board) (written : MoveText) (squares : List ℕ) (a z : ℕ) → squares ≡ written.squares → 2 ≤ length written.squares
    → a ≡ get_or squares 0 a → z ≡ get_or squares (length squares - 1) z
    → meaning_of p written ≡ meaning p (matches p a (squares_between squares) z)
unfolding meaning_of
meaning-read p written squares a z same least first last =
    let long : 2 ≤ length squares = subst (λ s. 2 ≤ length s) (sym same) least in
    let f : first_square written.squares ≡ a = subst (λ s. first_square s ≡ a) same (first-read squares a (omega (arith, long)) first) in
    let l : last_square written.squares ≡ z = subst (λ s. last_square s ≡ z) same (last-read squares z (length squares - 1) (omega (arith, long)) last) in
    let m : squares_between written.squares ≡ squares_between squares = sym (ap squares_between same) in
    λ j. meaning p (matches p (f j) (m j) (l j))
