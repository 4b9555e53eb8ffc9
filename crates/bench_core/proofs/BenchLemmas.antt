-- What ties the fields of a bench stays when its leases change.
use Rattle.std.proofs.Common.{◌≡◌, ◌≤◌, ℕ, List, ap, sym, ◌∙◌, subst}
use Rattle.std.specs.Prelude.{Bool, true, false, not, Contains}
use Rattle.std.specs.List.{AllByRecursion as Each}
use Rattle.std.proofs.lemmas.Bool.{true≢false}
use Rattle.lease_table.specs.declared.leases.Row.{Row}
use Rattle.lease_table.specs.Rows.{LeaseRows, has_id, is_live, is_kept, without}
use Rattle.bench_core.specs.declared.settings.Settings.{Settings}
use Rattle.bench_core.specs.declared.staged.Staged.{Staged}
use Rattle.bench_core.specs.declared.staged.Staged.TheVariants.{Begin, Solve, Expand}
use Rattle.bench_core.specs.Grown.{GrownState}
use Rattle.bench_core.specs.States.{CoreState, HasRow, with_lease_rows, AreRowsApart}
use Rattle.bench_core.specs.Cores.{Core, IsSoundCore}
use Rattle.bench_core.specs.Benches.{seen, IsReady, IsKeptFor, IsBench}
use Rattle.bench_core.proofs.Lists.{Each-weaker, Each-filter, Contains-filter}
use Rattle.bench_core.proofs.RowsApart.{apart_filter, open_row, found_lives, found_kept, live_without}
use Rattle.bench_core.proofs.SoundCores.{with_rows, released_keeps, not_released}

-- ---- what is staged stays ready while the kept rows stay

stays_for : (old new : List Row) (id node : ℕ) → ((row : Row) → Contains old row → row.kept ≡ true → Contains new row) → IsKeptFor old id node → IsKeptFor new id node
stays_for old new id node stays h = record { row = h.row; there = stays h.row h.there h.kept; number = h.number; own = h.own; kept = h.kept }

pub ready_moves : (s : CoreState) (rows : List Row) → ((row : Row) → Contains s.leases.rows row → row.kept ≡ true → Contains rows row) → (item : Staged) → IsReady s item → IsReady (with_lease_rows s rows) item
ready_moves s rows stays (Begin child) h = h
ready_moves s rows stays (Solve lease node position facts shown) h = (stays_for s.leases.rows rows lease node stays h.0, h.1)
ready_moves s rows stays (Expand lease node children) h = (stays_for s.leases.rows rows lease node stays h.0, h.1)

module _ (grown : GrownState) (leases : LeaseRows) (waiting : List Staged) (given work due : ℕ) (settings : Settings) where
  abbrev pub core : Core
  core = seen grown leases waiting given work settings

  abbrev pub Bench : Type 0
  Bench = IsBench core grown leases waiting due

  pub bench_rows : (rows : List Row) (new : LeaseRows) → Bench → IsSoundCore (with_rows core rows) → ((row : Row) → Contains core.state.leases.rows row → row.kept ≡ true → Contains rows row)
      → Each (λ row. row.lease.id ≤ given) new.rows → AreRowsApart new.rows → seen grown new waiting given work settings ≡ with_rows core rows
      → IsBench (seen grown new waiting given work settings) grown new waiting due
  bench_rows rows new bench sound stays numbers apart is =
      subst (λ (x : Core). IsBench x grown new waiting due) (sym is)
      (record {
        table = bench.table;
        few = bench.few;
        core = sound;
        numbers = numbers;
        apart = apart;
        ready = Each-weaker (IsReady core.state) (IsReady (with_lease_rows core.state rows)) (λ item h. ready_moves core.state rows stays item h) waiting bench.ready;
        made = bench.made;
        nodes = bench.nodes;
        room = bench.room;
        countable = bench.countable;
      })

  -- ---- a release

  pub released_is : (id : ℕ) → seen grown (record leases { rows = without id leases.rows }) waiting given work settings ≡ with_rows core (without id core.state.leases.rows)
  released_is id = ap (λ (rows : List Row). with_rows core rows) (live_without leases.limit given id leases.rows)

  pub bench_released : (id : ℕ) → HasRow (λ row. row.kept ≡ false) core.state id → Bench
      → IsBench (seen grown (record leases { rows = without id leases.rows }) waiting given work settings) grown (record leases { rows = without id leases.rows }) waiting due
  bench_released id released bench =
      let test : Row → Bool = λ row. not (has_id id row) in
      bench_rows (without id core.state.leases.rows) (record leases { rows = without id leases.rows }) bench (released_keeps core id released bench.core)
      (λ row there kept. Contains-filter test core.state.leases.rows row there (not_released core id released bench.core row there kept))
      (Each-filter (λ row. row.lease.id ≤ given) (λ row. row.lease.id ≤ given) test (λ row h t. h) leases.rows bench.numbers)
      (apart_filter test leases.rows bench.apart)
      (released_is id)

  pub can_release : (id : ℕ) → is_live leases id given ≡ true → is_kept leases id ≡ false → HasRow (λ row. row.kept ≡ false) core.state id
  can_release id lives unkept = let at = open_row leases id given lives unkept in record { row = at.0; there = at.1.0; number = at.1.1.0; holds = at.1.1.1 }

  pub no_release_of_dead : (id : ℕ) → Bench → is_live leases id given ≡ false → ¬ HasRow (λ row. row.kept ≡ false) core.state id
  no_release_of_dead id bench dead h =
      true≢false (sym (found_lives leases given h.row bench.apart h.there) ∙ (ap (λ n. is_live leases n given) h.number ∙ dead))

  pub no_release_of_kept : (id : ℕ) → Bench → is_kept leases id ≡ true → ¬ HasRow (λ row. row.kept ≡ false) core.state id
  no_release_of_kept id bench kept h =
      true≢false (sym (sym (found_kept leases given h.row bench.apart h.there) ∙ (ap (λ n. is_kept leases n) h.number ∙ kept)) ∙ h.holds)
