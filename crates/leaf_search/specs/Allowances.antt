-- What a search may spend beyond what its depth demands.
use Rattle.std.specs.Prelude.{◌≡◌, ◌≤◌}
use Rattle.leaf_search.specs.declared.allowances.Allowance.{Allowance}

-- nothing may be spent
pub record IsNothing (a : Allowance) : Type 0 where
  pub lists : a.move_lists ≡ 0
  pub slices : a.slice_positions ≡ 0
  pub sets : a.set_positions ≡ 0
  pub entries : a.entries ≡ 0

-- no more than a million lists of moves by proof numbers, 42 million positions slice by slice, 8,000 in a closed set and
-- 1.5 million entries
pub record IsWithinBounds (a : Allowance) : Type 0 where
  pub lists : a.move_lists ≤ 1000000
  pub slices : a.slice_positions ≤ 42000000
  pub sets : a.set_positions ≤ 8000
  pub entries : a.entries ≤ 1500000
