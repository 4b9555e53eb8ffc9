-- How a table keeps its rows: in order under their numbers, and of each node the number of its last lease.
use Rattle.std.specs.Prelude.{◌≡◌, ℕ, List, eqb, filter_map, slice_get, Option, Some, IfSome}
use Rattle.std.specs.List.{IsDistinct, AllByRecursion}
use Rattle.std.specs.Map.{keys_of}
use Rattle.lease_table.specs.declared.leases.Row.{Row}

-- a number, and its row; none where its lease has ended
abbrev pub Entry : Type 0
Entry = ℕ × Option Row

-- the rows that stand, in the order in which they were given
abbrev pub rows_of : List Entry → List Row
rows_of = filter_map (λ e. e.1)

-- a row stands under its own number
abbrev pub IsKeyed : Entry → Type 0
IsKeyed e = IfSome e.1 (λ row. e.0 ≡ row.lease.id)

-- the number of the row is the last of its node's
abbrev pub IsNoted : List ℕ → Row → Type 0
IsNoted numbers row = slice_get numbers row.lease.node ≡ Some row.lease.id

-- no two rows stand under one number, each under its own, which is its node's last
pub record IsLeaseTable (entries : List Entry) (numbers : List ℕ) : Type 0 where
  pub unique : IsDistinct eqb (keys_of entries)
  pub keyed : AllByRecursion IsKeyed entries
  pub noted : AllByRecursion (IsNoted numbers) (rows_of entries)
