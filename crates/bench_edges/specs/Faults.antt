-- What a call does to the count of faults that a source or a sink keeps.
use Rattle.std.specs.Prelude.{◌≡◌, ℕ, Result, OnOk}
use Rattle.shared_words.specs.Counts.{HasCause}

-- The count never falls. A call that is Ok leaves it, and one that fails raised it: so a fault is
-- answered only where there was one.
pub record CountsFaults {T E : Type 0} (before after : ℕ) (result : Result T E) : Type 0 where
  pub cause : HasCause before after result
  pub ok : OnOk result (after ≡ before)
