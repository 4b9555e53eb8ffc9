-- Lists of entries that only grow.
use Rattle.std.specs.Prelude.{◌≡◌, List, ◌++◌, All}

-- the new list is the old one and then entries that pass the test
pub record GrowsTo {E : Type 0} (may_add : E → Type 0) (old new : List E) : Type 0 where
  pub added : List E
  pub whole : old ++ added ≡ new
  pub allowed : All may_add added
