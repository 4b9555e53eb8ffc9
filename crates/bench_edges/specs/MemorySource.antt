-- A source in memory, as contracts see it.
use Rattle.std.specs.Prelude.{ℕ, List}

-- the bytes that it has left, the numbers of the reads that fail, how many bytes one read gives at
-- most, and how many reads and faults there were
pub record Supply : Type 0 where
  pub left : List ℕ
  pub failing : List ℕ
  pub most : ℕ
  pub calls : ℕ
  pub faults : ℕ
