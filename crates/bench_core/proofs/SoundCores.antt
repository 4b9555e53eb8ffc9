-- Every change of a bench leaves its core sound.
use Rattle.std.proofs.Common.{◌≡◌, ℕ, List, ap, sym, ◌∙◌, inr}
use Rattle.std.specs.Prelude.{Bool, true, false, not, filter, Contains}
use Rattle.std.specs.List.{list_any}
use Rattle.std.proofs.lemmas.Bool.{true≢false, false_from_ne_true, not_from_false, eqb-true}
use Rattle.lease_table.specs.declared.leases.Row.{Row}
use Rattle.lease_table.specs.Rows.{has_id, without}
use Rattle.bench_records.specs.declared.records.BenchRecord.{BenchRecord}
use Rattle.bench_core.specs.Records.{is_work, is_work_on}
use Rattle.bench_core.specs.States.{HasRow, with_lease_rows}
use Rattle.bench_core.specs.Cores.{Core, IsSoundCore, HasKeptRow}
use Rattle.bench_core.proofs.Lists.{Each-weaker, Each-filter, Contains-filter}
use Rattle.bench_core.proofs.RowsApart.{apart_one}
use Rattle.bench_core.proofs.SoundLeases.{sound_filtered}

-- ---- rows that are left

abbrev pub with_rows : Core → List Row → Core
with_rows core rows = record core { state = with_lease_rows core.state rows }

pub kept_moves : (core : Core) (rows : List Row) (r : BenchRecord) (h : HasKeptRow core r) → Contains rows h.row → HasKeptRow (with_rows core rows) r
kept_moves core rows r h there = record {
  row = h.row;
  there = there;
  kept = h.kept;
  found = record { own = h.found.own; lawful = h.found.lawful; found = h.found.found };
}

-- every kept row passes the test
pub filtered_keeps : (core : Core) (t : Row → Bool) → ((row : Row) → Contains core.state.leases.rows row → row.kept ≡ true → t row ≡ true) → IsSoundCore core
    → IsSoundCore (with_rows core (filter t core.state.leases.rows))
filtered_keeps core t passes sound = record {
  state = sound_filtered core.records core.state t sound.state;
  kept = Each-weaker (λ r. is_work r ≡ true → HasKeptRow core r) (λ r. is_work r ≡ true → HasKeptRow (with_rows core (filter t core.state.leases.rows)) r)
      (λ r h work. let by = h work in kept_moves core (filter t core.state.leases.rows) r by (Contains-filter t core.state.leases.rows by.row by.there (passes by.row by.there by.kept)))
      core.staged sound.kept;
  awaited = Each-filter (λ row. row.kept ≡ true → list_any (is_work_on row.lease.node) core.staged ≡ true) (λ row. row.kept ≡ true → list_any (is_work_on row.lease.node) core.staged ≡ true) t (λ row h e. h) core.state.leases.rows sound.awaited;
  own = sound.own;
  lawful = sound.lawful;
  distinct = sound.distinct;
  room = sound.room;
}

-- a kept row is not the one released
pub not_released : (core : Core) (id : ℕ) → HasRow (λ row. row.kept ≡ false) core.state id → IsSoundCore core
    → (row : Row) → Contains core.state.leases.rows row → row.kept ≡ true → not (has_id id row) ≡ true
not_released core id released sound row there kept =
    not_from_false (has_id id row) (false_from_ne_true (has_id id row) (λ e.
    let one : released.row ≡ row = apart_one core.state.leases.rows released.row row sound.state.apart released.there there (inr (released.number ∙ eqb-true id row.lease.id e)) in
    true≢false (sym kept ∙ (ap (λ (x : Row). x.kept) (sym one) ∙ released.holds))))

pub released_keeps : (core : Core) (id : ℕ) → HasRow (λ row. row.kept ≡ false) core.state id → IsSoundCore core
    → IsSoundCore (with_rows core (without id core.state.leases.rows))
released_keeps core id released sound = filtered_keeps core (λ row. not (has_id id row)) (not_released core id released sound) sound
