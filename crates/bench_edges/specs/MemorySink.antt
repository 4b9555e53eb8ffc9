-- A sink in memory, as contracts see it.
use Rattle.std.specs.Prelude.{ℕ, List}

-- the bytes that it has taken, the numbers of the writes that fail, how many bytes one write takes
-- at most, and how many writes and faults there were
pub record Store : Type 0 where
  pub taken : List ℕ
  pub failing : List ℕ
  pub most : ℕ
  pub calls : ℕ
  pub faults : ℕ
