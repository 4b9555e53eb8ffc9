-- Sweeping changes no answer about what lives at its number or a later one.
use Rattle.std.specs.Prelude.{◌≡◌, ℕ, ◌≤◌}
use Rattle.lease_table.specs.Rows.{LeaseRows, is_leased, live_rows}

-- the table that a sweep leaves
abbrev pub swept : LeaseRows → ℕ → LeaseRows
swept t now = record t { rows = live_rows t now }

-- what lives later is what lived of the swept table
abbrev pub SweptRowsStayDead : Type 0
SweptRowsStayDead = (t : LeaseRows) (now later : ℕ) → now ≤ later
    → live_rows (swept t now) later ≡ live_rows t later

-- so is which nodes are leased
abbrev pub SweptNodesStayFree : Type 0
SweptNodesStayFree = (t : LeaseRows) (node now later : ℕ) → now ≤ later
    → is_leased (swept t now) node later ≡ is_leased t node later
