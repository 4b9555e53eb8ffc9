-- A live row that is not kept, by the look-ups of the table.
use Rattle.std.proofs.Common.{◌≡◌, ℕ, List, refl, ap, sym, ◌∙◌, subst}
use Rattle.std.specs.Prelude.{Bool, true, false, Contains, Option, Some, None}
use Rattle.std.specs.Option.{option_map, option_map_or}
use Rattle.std.proofs.lemmas.Bool.{true≢false, false≢true}
use Rattle.lease_table.specs.declared.leases.Lease.{Lease}
use Rattle.lease_table.specs.declared.leases.Row.{Row}
use Rattle.lease_table.specs.Rows.{LeaseRows, is_live_row, row_with, is_live, is_kept, live_rows}
use Rattle.bench_core.specs.States.{AreRowsApart}
use Rattle.bench_core.specs.Answers.{unkept}
use Rattle.bench_core.proofs.Lists.{Contains-filter}
use Rattle.bench_core.proofs.RowsApart.{row_there, row_found, found_lives, found_kept}

module _ (t : LeaseRows) (now : ℕ) (lease : Lease) (apart : AreRowsApart t.rows) where
  -- its lease is looked up under its number
  pub looked_up : Contains (live_rows t now) (unkept lease) → option_map (λ row. row.lease) (row_with lease.id t.rows) ≡ Some lease
  looked_up there = ap (option_map (λ (row : Row). row.lease)) (row_found t now (unkept lease) apart there).0

  pub not_dead : Contains (live_rows t now) (unkept lease) → is_live t lease.id now ≡ false → ⊥
  not_dead there dead = true≢false (sym (found_lives t now (unkept lease) apart there) ∙ dead)

  pub not_kept : Contains (live_rows t now) (unkept lease) → is_kept t lease.id ≡ false
  not_kept there = found_kept t now (unkept lease) apart there

  same_row : (o : Option Row) → row_with lease.id t.rows ≡ o → option_map (λ row. row.lease) o ≡ Some lease → option_map_or (is_live_row t.limit now) o false ≡ true → option_map_or (λ row. row.kept) o false ≡ false
      → Contains (live_rows t now) (unkept lease)
  same_row None e same lives free = absurd (false≢true lives)
  same_row (Some row) e same lives free =
      let is : row.lease ≡ lease = cc in
      let at = row_there lease.id t.rows row e in
      subst (λ (x : Row). Contains (live_rows t now) x) (λ i. record { lease = is i; kept = free i }) (Contains-filter (is_live_row t.limit now) t.rows row at.0 lives)

  pub stands : option_map (λ row. row.lease) (row_with lease.id t.rows) ≡ Some lease → is_live t lease.id now ≡ true → is_kept t lease.id ≡ false → Contains (live_rows t now) (unkept lease)
  stands same lives free = same_row (row_with lease.id t.rows) refl same lives free
