-- Counts of what went wrong.
use Rattle.std.specs.Prelude.{ℕ, ◌+◌, ◌-◌, ◌^◌, ◌≤◌, min, Result, OnErr}

-- the greatest value of a count of 64 bits: there it stays
abbrev pub last_count : ℕ
last_count = 2 ^ 64 - 1

-- a count after one more
abbrev pub one_more : ℕ → ℕ
one_more count = min (count + 1) last_count

-- the count rose: at least one more was counted
abbrev pub Rose : ℕ → ℕ → Type 0
Rose before now = one_more before ≤ now

-- what a call did to a count of faults: it did not fall, and where the call answered a fault it
-- rose
pub record HasCause {T E : Type 0} (before now : ℕ) (result : Result T E) : Type 0 where
  pub later : before ≤ now
  pub fault : OnErr result (Rose before now)
