-- First places in a list.
use Rattle.std.proofs.Common.{◌≡◌, ℕ, Bool, List, length, unwrap_or, arith, not}
use Rattle.std.specs.List.{position, position_or_len}
use Rattle.std.proofs.lemmas.List.Sums.{prefix_len-le-length}
use Rattle.std.proofs.lemmas.Grind.{common_steps}

-- the first place that passes, or the end where none does
pub place_or_end : (p : ℕ → Bool) (xs : List ℕ) → unwrap_or (position p xs) (length xs) ≡ position_or_len p xs
place_or_end p xs = grind (arith, common_steps, prefix_len-le-length (λ x. not (p x)) xs)
