-- What a bench answers to a worker who asks for a lease, and what the lease leaves.
use Rattle.std.proofs.Common.{◌≡◌, ◌≤◌, ◌+◌, ℕ, List, [], ◌∷◌, ◌++◌, refl, ap, sym, ◌∙◌, subst, arith, length}
use Rattle.std.specs.Prelude.{Bool, true, false, cond, not, ◌==◌, nat_le, nat_lt, filter, count_by, Contains, Option, None, Err, IsSomeAnd}
use Rattle.std.specs.List.{list_any, AllByRecursion as Each}
use Rattle.std.proofs.lemmas.Bool.{true≢false, or_left, lt-ltb, not_from_false, ne_eqb}
use Rattle.std.proofs.lemmas.List.Sums.{length-filter}
use Rattle.std.proofs.lemmas.List.Elements.{filter-append, Contains-append_left}
use Rattle.draughts_board.specs.declared.pieces.Side.{Side}
use Rattle.proof_tree.specs.Forest.{node_at}
use Rattle.proof_tree.specs.Picking.{pick, IsOpenLeaf}
use Rattle.lease_table.specs.declared.leases.Lease.{Lease}
use Rattle.lease_table.specs.declared.leases.Row.{Row}
use Rattle.lease_table.specs.Rows.{LeaseRows, is_live_row, has_id, is_of, row_with, is_leased, live_rows, without_node}
use Rattle.lease_table.specs.Laws.{swept}
use Rattle.lease_table.proofs.Sweeping.{swept_free}
use Rattle.bench_core.specs.declared.refusals.LeaseRefusal.TheVariants.{Done, Spent, NoLeaf}
use Rattle.bench_core.specs.declared.settings.Settings.{Settings}
use Rattle.bench_core.specs.declared.staged.Staged.{Staged}
use Rattle.bench_core.specs.declared.staged.Staged.TheVariants.{Begin, Solve, Expand}
use Rattle.bench_core.specs.Records.{is_work, is_work_on}
use Rattle.bench_core.specs.Grown.{GrownState}
use Rattle.bench_core.specs.States.{CoreState, are_settled, lease_of, lease_of_picked, lease_answer, with_lease}
use Rattle.bench_core.specs.Cores.{Core, IsSoundCore, HasKeptRow}
use Rattle.bench_core.specs.Benches.{seen, IsReady, IsBench}
use Rattle.bench_core.proofs.Lists.{Each-weaker, Each-append, Each-filter, Each-none, Contains-filter, filter_all, filter_swaps}
use Rattle.bench_core.proofs.RowsApart.{other_way, apart_filter, apart_push, live_twice}
use Rattle.bench_core.proofs.SoundLeases.{IsPicked, not_leased, picked_free, sound_leased}

-- ---- the core

abbrev pub leased_core : Core → Lease → Core
leased_core core lease = record core { state = with_lease core.state lease }

kept_stays : (s : CoreState) (lease : Lease) (row : Row) → Contains s.leases.rows row → row.kept ≡ true → Contains (with_lease s lease).leases.rows row
kept_stays s lease row there kept =
    Contains-append_left (live_rows s.leases (s.given + 1)) _ row
    (Contains-filter (is_live_row s.leases.limit (s.given + 1)) s.leases.rows row there (or_left row.kept (nat_lt (s.given + 1) (row.lease.id + s.leases.limit)) kept))

pub leased_keeps : (core : Core) (worker : ℕ) (leaf : ℕ × Side) → IsPicked core.state leaf → IsSoundCore core → IsSoundCore (leased_core core (lease_of core.state worker leaf))
leased_keeps core worker leaf picked sound =
    let lease = lease_of core.state worker leaf in
    let test = is_live_row core.state.leases.limit (core.state.given + 1) in
    record {
      state = sound_leased core.records core.state worker leaf picked sound.state;
      kept = Each-weaker (λ r. is_work r ≡ true → HasKeptRow core r) (λ r. is_work r ≡ true → HasKeptRow (leased_core core lease) r)
          (λ r h work. let by = h work in record {
            row = by.row;
            there = kept_stays core.state lease by.row by.there by.kept;
            kept = by.kept;
            found = record { own = by.found.own; lawful = by.found.lawful; found = by.found.found };
          }) core.staged sound.kept;
      awaited = Each-append (λ row. row.kept ≡ true → list_any (is_work_on row.lease.node) core.staged ≡ true) (live_rows core.state.leases (core.state.given + 1)) _
          (Each-filter (λ row. row.kept ≡ true → list_any (is_work_on row.lease.node) core.staged ≡ true) (λ row. row.kept ≡ true → list_any (is_work_on row.lease.node) core.staged ≡ true) test (λ row h t. h) core.state.leases.rows sound.awaited)
          ((λ e. absurd (true≢false (sym e))), tt);
      own = sound.own;
      lawful = sound.lawful;
      distinct = sound.distinct;
      room = sound.room;
    }

-- ---- the table

none_with : (id : ℕ) (rows : List Row) → Each (λ row. row.lease.id ≤ id) rows → row_with (id + 1) rows ≡ None
none_with id [] below = refl
none_with id (row ∷ rows) below =
    let other : has_id (id + 1) row ≡ false = ne_eqb (id + 1) row.lease.id (λ e. omega (arith, below.0, e)) in
    rw other (none_with id rows below.1)

module _ (grown : GrownState) (leases : LeaseRows) (waiting : List Staged) (given work due : ℕ) (settings : Settings) where
  abbrev core : Core
  core = seen grown leases waiting given work settings

  abbrev Bench : Type 0
  Bench = IsBench core grown leases waiting due

  abbrev taken : ℕ → Bool
  taken n = is_leased leases n (given + 1)

  abbrev taken_seen : ℕ → Bool
  taken_seen n = is_leased (swept leases given) n (given + 1)

  same_taken : taken ≡ taken_seen
  same_taken = λ i n. sym (swept_free leases.limit n given (given + 1) leases.rows (omega arith)) i

  pub no_row : Bench → row_with (given + 1) leases.rows ≡ None
  no_row bench = none_with given leases.rows bench.numbers

  -- ---- the answer

  pub answer_done : (worker : ℕ) → are_settled grown.forest ≡ true → lease_answer core.state worker ≡ Err Done
  answer_done worker all = ap (λ b. cond b (Err Done) (cond (nat_le settings.budget work) (Err (Spent work settings.budget)) (lease_of_picked core.state worker (pick taken_seen grown.forest)))) all

  pub answer_of_picked : (worker : ℕ) (o : Option (ℕ × Side)) → are_settled grown.forest ≡ false → nat_le settings.budget work ≡ false → o ≡ pick taken grown.forest
      → lease_answer core.state worker ≡ lease_of_picked core.state worker o
  answer_of_picked worker o some left picked =
      ap (λ b. cond b (Err Done) (cond (nat_le settings.budget work) (Err (Spent work settings.budget)) (lease_of_picked core.state worker (pick taken_seen grown.forest)))) some
      ∙ (ap (λ b. cond b (Err (Spent work settings.budget)) (lease_of_picked core.state worker (pick taken_seen grown.forest))) left
      ∙ ap (lease_of_picked core.state worker) (sym (picked ∙ ap (λ t. pick t grown.forest) same_taken)))

  pub live_is : length (live_rows (swept leases given) (given + 1)) ≡ count_by (is_live_row leases.limit (given + 1)) leases.rows
  live_is = ap length (live_twice leases.limit given (given + 1) leases.rows (omega arith)) ∙ length-filter (is_live_row leases.limit (given + 1)) leases.rows

  pub answer_none : (worker live : ℕ) → are_settled grown.forest ≡ false → nat_le settings.budget work ≡ false → None ≡ pick taken grown.forest → live ≡ count_by (is_live_row leases.limit (given + 1)) leases.rows
      → lease_answer core.state worker ≡ Err (NoLeaf live)
  answer_none worker live some left picked is = answer_of_picked worker None some left picked ∙ ap (λ n. Err (NoLeaf n)) (live_is ∙ sym is)

  -- ---- the leaf

  pub leaf_picked : (leaf : ℕ × Side) → IsSomeAnd (node_at leaf.0 grown.forest) (IsOpenLeaf leaf.1 taken) → IsPicked core.state leaf
  leaf_picked leaf found = record { found = subst (λ t. IsSomeAnd (node_at leaf.0 grown.forest) (IsOpenLeaf leaf.1 t)) same_taken found }

  pub leaf_free : (leaf : ℕ × Side) → IsSomeAnd (node_at leaf.0 grown.forest) (IsOpenLeaf leaf.1 taken) → is_leased leases leaf.0 (given + 1) ≡ false
  leaf_free leaf found = ap (λ t. t leaf.0) same_taken ∙ picked_free core.state leaf (leaf_picked leaf found)

  -- ---- the new table

  abbrev pub given_rows : Lease → LeaseRows
  given_rows lease = record leases { rows = without_node lease.node leases.rows ++ record { lease = lease; kept = false } ∷ [] }

  pub rows_given : (lease : Lease) → lease.id ≡ given + 1 → 1 ≤ leases.limit → is_leased leases lease.node (given + 1) ≡ false
      → filter (is_live_row leases.limit (given + 1)) (given_rows lease).rows ≡ live_rows (swept leases given) (given + 1) ++ record { lease = lease; kept = false } ∷ []
  rows_given lease id lasts free =
      let row : Row = record { lease = lease; kept = false } in
      let live = is_live_row leases.limit (given + 1) in
      let lives : live row ≡ true = lt-ltb (given + 1) (lease.id + leases.limit) (omega (arith, id, lasts)) in
      let alone : filter live (row ∷ []) ≡ row ∷ [] = rw lives refl in
      let others : filter live (without_node lease.node leases.rows) ≡ filter live leases.rows =
      filter_swaps live (λ r. not (is_of lease.node r)) leases.rows
      ∙ filter_all (λ r. not (is_of lease.node r)) (filter live leases.rows)
      (Each-weaker (λ r. is_of lease.node r ≡ false) (λ r. not (is_of lease.node r) ≡ true) (λ r h. not_from_false (is_of lease.node r) h) (filter live leases.rows)
      (Each-none (is_of lease.node) (filter live leases.rows) (not_leased leases lease.node (given + 1) free))) in
      filter-append live (without_node lease.node leases.rows) (row ∷ [])
      ∙ (ap (λ (rs : List Row). rs ++ filter live (row ∷ [])) (others ∙ sym (live_twice leases.limit given (given + 1) leases.rows (omega arith)))
      ∙ ap (λ (rs : List Row). live_rows (swept leases given) (given + 1) ++ rs) alone)

  pub leased_is : (lease : Lease) → lease.id ≡ given + 1 → 1 ≤ leases.limit → is_leased leases lease.node (given + 1) ≡ false
      → seen grown (given_rows lease) waiting (given + 1) work settings ≡ leased_core core lease
  leased_is lease id lasts free = ap (λ (rows : List Row). record core { state = record core.state { leases = record core.state.leases { rows = rows }; given = given + 1 } }) (rows_given lease id lasts free)

  ready_leased : (s : CoreState) (lease : Lease) (item : Staged) → IsReady s item → IsReady (with_lease s lease) item
  ready_leased s lease (Begin child) h = h
  ready_leased s lease (Solve id node position facts shown) h = (record { row = h.0.row; there = kept_stays s lease h.0.row h.0.there h.0.kept; number = h.0.number; own = h.0.own; kept = h.0.kept }, h.1)
  ready_leased s lease (Expand id node children) h = (record { row = h.0.row; there = kept_stays s lease h.0.row h.0.there h.0.kept; number = h.0.number; own = h.0.own; kept = h.0.kept }, h.1)

  pub bench_leased : (worker : ℕ) (leaf : ℕ × Side) → IsSomeAnd (node_at leaf.0 grown.forest) (IsOpenLeaf leaf.1 taken) → Bench
      → IsBench (seen grown (given_rows (lease_of core.state worker leaf)) waiting (given + 1) work settings) grown (given_rows (lease_of core.state worker leaf)) waiting due
  bench_leased worker leaf found bench =
      let lease = lease_of core.state worker leaf in
      let free = leaf_free leaf found in
      subst (λ (x : Core). IsBench x grown (given_rows lease) waiting due) (sym (leased_is lease refl bench.core.state.lasts free))
      (record {
        table = bench.table;
        few = bench.few;
        core = leased_keeps core worker leaf (leaf_picked leaf found) bench.core;
        numbers = Each-append (λ row. row.lease.id ≤ given + 1) (without_node lease.node leases.rows) _
            (Each-filter (λ row. row.lease.id ≤ given) (λ row. row.lease.id ≤ given + 1) (λ r. not (is_of lease.node r)) (λ row h t. omega (arith, h)) leases.rows bench.numbers) (omega arith, tt);
        apart = apart_push (without_node lease.node leases.rows) _ (apart_filter (λ r. not (is_of lease.node r)) leases.rows bench.apart)
            (Each-filter (λ row. row.lease.id ≤ given) (λ r. (r.lease.node == lease.node) ≡ false) (λ r. not (is_of lease.node r)) (λ r h t. other_way lease.node r.lease.node (not_is (is_of lease.node r) t)) leases.rows bench.numbers)
            (Each-filter (λ row. row.lease.id ≤ given) (λ r. (r.lease.id == (given + 1)) ≡ false) (λ r. not (is_of lease.node r)) (λ r h t. ne_eqb r.lease.id (given + 1) (λ e. omega (arith, h, e))) leases.rows bench.numbers);
        ready = Each-weaker (IsReady core.state) (IsReady (with_lease core.state lease)) (λ item h. ready_leased core.state lease item h) waiting bench.ready;
        made = bench.made;
        nodes = bench.nodes;
        room = bench.room;
        countable = bench.countable;
      })
    where
      not_is : (b : Bool) → not b ≡ true → b ≡ false
      not_is true h = sym h
      not_is false h = refl
