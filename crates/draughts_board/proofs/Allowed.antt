-- Whether each cell may stand where it does, square by square.
use Rattle.std.proofs.Common.{◌≡◌, ℕ, zero, suc, ◌+◌, ◌<◌, true, List, [], ◌∷◌, length, get_or, refl, subst, arith}
use Rattle.std.specs.Cmp.{first_so, second_so}
use Rattle.std.specs.Cmp.Derive.{both_true}
use Rattle.draughts_board.specs.declared.pieces.Cell.{Cell}
use Rattle.draughts_board.specs.declared.pieces.Cell.TheVariants.{Empty}
use Rattle.draughts_board.specs.Board.{is_allowed, all_allowed}

pub allowed_at : (n : ℕ) (cells : List Cell) (k : ℕ) → all_allowed n cells ≡ true → k < length cells → is_allowed (n + k) (get_or cells k Empty) ≡ true
allowed_at n [] k h l = absurd (omega arith)
allowed_at n (c ∷ cells) zero h l = let e : n ≡ n + 0 = omega arith in subst (λ m. is_allowed m c ≡ true) e (first_so _ _ h)
allowed_at n (c ∷ cells) (suc k) h l =
    let e : n + 1 + k ≡ n + suc k = omega arith in
    subst (λ m. is_allowed m (get_or cells k Empty) ≡ true) e (allowed_at (n + 1) cells k (second_so _ _ h) (omega arith))

pub allowed_from : (n : ℕ) (cells : List Cell) → ((k : ℕ) → k < length cells → is_allowed (n + k) (get_or cells k Empty) ≡ true) → all_allowed n cells ≡ true
allowed_from n [] each = refl
allowed_from n (c ∷ cells) each =
    let e : n + 0 ≡ n = omega arith in
    both_true (subst (λ m. is_allowed m c ≡ true) e (each 0 (omega arith)))
    (allowed_from (n + 1) cells (λ k l. let f : n + suc k ≡ n + 1 + k = omega arith in subst (λ m. is_allowed m (get_or cells k Empty) ≡ true) f (each (suc k) (omega arith))))
