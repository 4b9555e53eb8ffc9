-- The least of some numbers.
use Rattle.std.specs.Prelude.{◌≤◌, min, ℕ, Option, Some, None}

-- the least number that meets R, if any does
abbrev pub IsLeast : (ℕ → Type 0) → Option ℕ → Type 0
IsLeast R None = (r : ℕ) → R r → ⊥
IsLeast R (Some r) = R r × ((m : ℕ) → R m → r ≤ m)

-- the lesser of two numbers, where either may be missing
abbrev pub lesser_of : Option ℕ → Option ℕ → Option ℕ
lesser_of None b = b
lesser_of (Some x) None = Some x
lesser_of (Some x) (Some y) = Some (min x y)
