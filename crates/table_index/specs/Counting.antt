-- How many choices there are.
use Rattle.std.specs.Prelude.{ℕ, zero, suc, ◌+◌}

-- in how many ways one can choose n out of m: with the first, or without it
unfoldable pub choose : ℕ → ℕ → ℕ
choose zero m = 1
choose (suc n) zero = 0
choose (suc n) (suc m) = choose n m + choose (suc n) m
