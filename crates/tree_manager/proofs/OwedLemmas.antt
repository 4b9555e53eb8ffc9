-- How many leases wait, after each entry.
use Rattle.std.proofs.Common.{◌≡◌, ◌≤◌, ◌+◌, ℕ, List, [], ◌∷◌, ◌++◌, map, ap, sym, ◌∙◌, ⊎_elim, arith}
use Rattle.std.specs.Prelude.{Bool, true, false, cond, not, filter, Contains}
use Rattle.std.proofs.lemmas.List.Sums.{sum_by-append, sum_by-cons}
use Rattle.std.proofs.lemmas.Bool.{eq-eqb}
use Rattle.lease_table.specs.declared.leases.Row.{Row}
use Rattle.lease_table.specs.declared.leases.Lease.{Lease}
use Rattle.lease_table.specs.Rows.{has_id, without}
use Rattle.bench_records.specs.declared.records.BenchRecord.{BenchRecord}
use Rattle.bench_core.specs.Records.{is_work_on}
use Rattle.bench_core.specs.Cores.{Core, IsResult, keep_for}
use Rattle.tree_manager.specs.Keeping.{waiting_leases}
use Rattle.tree_manager.proofs.CoreLemmas.{Contains-cases, contains_nothing}

-- ---- counts

waiting_cons : (row : Row) (rows : List Row) → waiting_leases (row ∷ rows) ≡ cond (not row.kept) 1 0 + waiting_leases rows
waiting_cons row rows = sum_by-cons (λ (r : Row). cond (not r.kept) 1 0) row rows

pub waiting_append : (rows more : List Row) → waiting_leases (rows ++ more) ≡ waiting_leases rows + waiting_leases more
waiting_append rows more = sum_by-append (λ (r : Row). cond (not r.kept) 1 0) rows more

-- ---- those that pass a test

waiting_cond : (b : Bool) (row : Row) (rows : List Row) → waiting_leases (cond b (row ∷ rows) rows) ≤ cond (not row.kept) 1 0 + waiting_leases rows
waiting_cond true row rows = omega (arith, waiting_cons row rows)
waiting_cond false row rows = omega arith

pub waiting_filter : (t : Row → Bool) (rows : List Row) → waiting_leases (filter t rows) ≤ waiting_leases rows
waiting_filter t [] = omega arith
waiting_filter t (row ∷ rows) = omega (arith, waiting_cond (t row) row (filter t rows), waiting_filter t rows, waiting_cons row rows)

-- .. where one that waits does not
waiting_dropped : (b : Bool) (row : Row) (rows : List Row) → b ≡ false → row.kept ≡ false → waiting_leases (cond b (row ∷ rows) rows) + 1 ≤ cond (not row.kept) 1 0 + waiting_leases rows
waiting_dropped b row rows none waits = rw (none, waits) (omega arith)

pub waiting_without : (rows : List Row) (id : ℕ) (row : Row) → Contains rows row → row.lease.id ≡ id → row.kept ≡ false → waiting_leases (without id rows) + 1 ≤ waiting_leases rows
waiting_without [] id row there number waits = absurd (contains_nothing row there)
waiting_without (x ∷ rows) id row there number waits = ⊎_elim
    (λ here.
    let dropped : not (has_id id x) ≡ false = ap not (eq-eqb id x.lease.id (sym number ∙ ap (λ (r : Row). r.lease.id) (sym here))) in
    omega (arith, waiting_dropped (not (has_id id x)) x (without id rows) dropped (ap (λ (r : Row). r.kept) here ∙ waits), waiting_filter (λ r. not (has_id id r)) rows, waiting_cons x rows))
    (λ rest. omega (arith, waiting_cond (not (has_id id x)) x (without id rows), waiting_without rows id row rest number waits, waiting_cons x rows))
    (Contains-cases x row rows there)

-- ---- a lease

pub waiting_leased : (t : Row → Bool) (rows : List Row) (lease : Lease) → waiting_leases (filter t rows ++ record { lease = lease; kept = false } ∷ []) ≤ waiting_leases rows + 1
waiting_leased t rows lease =
    omega (arith, waiting_append (filter t rows) (record { lease = lease; kept = false } ∷ []), waiting_filter t rows, waiting_cons (record { lease = lease; kept = false }) [])

-- ---- a record is staged

kept_cond : (b : Bool) (row : Row) → cond (not (cond b (record row { kept = true }) row).kept) 1 0 ≤ cond (not row.kept) 1 0
kept_cond true row = omega arith
kept_cond false row = omega arith

pub waiting_kept : (r : BenchRecord) (rows : List Row) → waiting_leases (map (keep_for true r) rows) ≤ waiting_leases rows
waiting_kept r [] = omega arith
waiting_kept r (row ∷ rows) =
    omega (arith, waiting_cons (keep_for true r row) (map (keep_for true r) rows), kept_cond (is_work_on row.lease.node r) row, waiting_kept r rows, waiting_cons row rows)

kept_own : (b : Bool) (row : Row) → b ≡ true → row.kept ≡ false → cond (not (cond b (record row { kept = true }) row).kept) 1 0 + 1 ≤ cond (not row.kept) 1 0
kept_own b row own waits = rw (own, waits) (omega arith)

waiting_result : (r : BenchRecord) (rows : List Row) (row : Row) → Contains rows row → is_work_on row.lease.node r ≡ true → row.kept ≡ false
    → waiting_leases (map (keep_for true r) rows) + 1 ≤ waiting_leases rows
waiting_result r [] row there own waits = absurd (contains_nothing row there)
waiting_result r (x ∷ rows) row there own waits = ⊎_elim
    (λ here.
    omega (
      arith,
      waiting_cons (keep_for true r x) (map (keep_for true r) rows),
      kept_own (is_work_on x.lease.node r) x (ap (λ (y : Row). is_work_on y.lease.node r) here ∙ own) (ap (λ (y : Row). y.kept) here ∙ waits),
      waiting_kept r rows,
      waiting_cons x rows,
    ))
    (λ rest. omega (arith, waiting_cons (keep_for true r x) (map (keep_for true r) rows), kept_cond (is_work_on x.lease.node r) x, waiting_result r rows row rest own waits, waiting_cons x rows))
    (Contains-cases x row rows there)

pub waiting_staged : (core : Core) (r : BenchRecord) → IsResult core r → waiting_leases (map (keep_for true r) core.state.leases.rows) + 1 ≤ waiting_leases core.state.leases.rows
waiting_staged core r result = waiting_result r core.state.leases.rows result.row result.there result.found.own result.unkept
