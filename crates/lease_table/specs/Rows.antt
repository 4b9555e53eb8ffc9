-- Leases that were given, each a row, and which of them live at a number.
use Rattle.std.specs.Prelude.{ℕ, ◌+◌, Bool, false, cond, not, ◌||◌, ◌&&◌, ◌==◌, nat_lt, List, filter, find, map, Option}
use Rattle.std.specs.List.{list_any}
use Rattle.std.specs.Option.{option_map_or}
use Rattle.lease_table.specs.declared.leases.Row.{Row}

-- a table of leases: for how many leases one lasts, and the rows that stand, in the order in which
-- they were given
pub record LeaseRows : Type 0 where
  pub limit : ℕ
  pub rows : List Row

-- ---- rows

-- A row lives while it is kept, or while the number is below its own and the limit.
abbrev pub is_live_row : ℕ → ℕ → Row → Bool
is_live_row limit now row = row.kept || nat_lt now (row.lease.id + limit)

-- It waits while it lives and is not kept.
abbrev pub is_waiting_row : ℕ → ℕ → Row → Bool
is_waiting_row limit now row = is_live_row limit now row && not row.kept

abbrev pub has_id : ℕ → Row → Bool
has_id id row = id == row.lease.id

abbrev pub is_of : ℕ → Row → Bool
is_of node row = node == row.lease.node

-- ---- look-ups

-- the row with this number
abbrev pub row_with : ℕ → List Row → Option Row
row_with id rows = find (has_id id) rows

-- the lease with this number lives
abbrev pub is_live : LeaseRows → ℕ → ℕ → Bool
is_live t id now = option_map_or (is_live_row t.limit now) (row_with id t.rows) false

-- the lease with this number is kept
abbrev pub is_kept : LeaseRows → ℕ → Bool
is_kept t id = option_map_or (λ row. row.kept) (row_with id t.rows) false

-- the first row that is not kept, and the first that lives and is not
abbrev pub first_unkept : List Row → Option Row
first_unkept rows = find (λ row. not row.kept) rows

abbrev pub first_waiting : LeaseRows → ℕ → Option Row
first_waiting t now = find (is_waiting_row t.limit now) t.rows

-- a lease of this node lives
abbrev pub is_leased : LeaseRows → ℕ → ℕ → Bool
is_leased t node now = list_any (λ row. is_of node row && is_live_row t.limit now row) t.rows

-- ---- changes

-- the rows that live
abbrev pub live_rows : LeaseRows → ℕ → List Row
live_rows t now = filter (is_live_row t.limit now) t.rows

-- without the row with this number, and without those of this node
abbrev pub without : ℕ → List Row → List Row
without id = filter (λ row. not (has_id id row))

abbrev pub without_node : ℕ → List Row → List Row
without_node node = filter (λ row. not (is_of node row))

-- the row with this number is kept, or is not
abbrev pub marked : ℕ → Bool → List Row → List Row
marked id kept = map (λ row. cond (has_id id row) (record row { kept = kept }) row)
