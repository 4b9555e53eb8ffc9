-- A path that jumps over nothing.
use Rattle.std.proofs.Common.{ℕ, ◌-◌, ◌<◌, ◌==◌, List, [], ◌∷◌, length, ap, arith}
use Rattle.std.proofs.lemmas.Nat.Bits.{bit_at-zero}
use Rattle.draughts_board.specs.Rules.{contains, jumped}
use Rattle.draughts_board.specs.Masks.{IsMaskOf}

-- a path of one square, or of none
pub jumped_over-nothing : (path : List ℕ) → length path < 2 → IsMaskOf (contains (jumped path)) 0
jumped_over-nothing [] l n h = ap (λ b. b == 1) (bit_at-zero (n - 1))
jumped_over-nothing (x ∷ []) l n h = ap (λ b. b == 1) (bit_at-zero (n - 1))
jumped_over-nothing (x ∷ z ∷ rest) l n h = absurd (omega arith)
