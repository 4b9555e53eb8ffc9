-- The first lease that waits, of the table and of the leases that live.
use Rattle.std.proofs.Common.{◌≡◌, ℕ, List, [], ◌∷◌, refl, ap}
use Rattle.std.specs.Prelude.{Bool, true, false, cond, not, ◌&&◌, filter, find, Option, Some}
use Rattle.lease_table.specs.declared.leases.Row.{Row}
use Rattle.lease_table.specs.Rows.{LeaseRows, is_live_row, first_unkept, first_waiting, live_rows}

waits_cond : (b : Bool) (row : Row) (rest : List Row) (more : Option Row) → more ≡ first_unkept rest → cond (b && not row.kept) (Some row) more ≡ first_unkept (cond b (row ∷ rest) rest)
waits_cond true row rest more h = ap (cond (not row.kept) (Some row)) h
waits_cond false row rest more h = h

waits_among : (lives : Row → Bool) (rows : List Row) → find (λ row. lives row && not row.kept) rows ≡ first_unkept (filter lives rows)
waits_among lives [] = refl
waits_among lives (row ∷ rows) = waits_cond (lives row) row (filter lives rows) (find (λ r. lives r && not r.kept) rows) (waits_among lives rows)

pub waits_first : (t : LeaseRows) (now : ℕ) → first_waiting t now ≡ first_unkept (live_rows t now)
waits_first t now = waits_among (is_live_row t.limit now) t.rows
