-- A result staged leaves a bench sound.
use Rattle.std.proofs.Common.{◌≡◌, ◌≤◌, ◌<◌, ◌+◌, ℕ, List, [], ◌∷◌, ◌++◌, map, length, refl, ap, sym, ◌∙◌, subst, inl, inr, arith, append_assoc, append-nil, length-append}
use Rattle.std.specs.Prelude.{◌^◌, Bool, true, false, cond, not, ◌||◌, ◌==◌, nat_lt, filter, Contains, All, Option, Some, None}
use Rattle.std.specs.List.{list_any, IsDistinct, AllByRecursion as Each}
use Rattle.std.proofs.lemmas.Bool.{true≢false, false≢true, or_left, or_right, eqb-true, eq-eqb, false_from_ne_true}
use Rattle.draughts_board.specs.Board.{Board, IsLawful, same_board}
use Rattle.proof_tree.specs.Sound.{root_positions}
use Rattle.lease_table.specs.declared.leases.Lease.{Lease}
use Rattle.lease_table.specs.declared.leases.Row.{Row}
use Rattle.lease_table.specs.Rows.{LeaseRows, is_live_row, is_live, has_id, is_of, live_rows, marked}
use Rattle.bench_records.specs.declared.records.BenchRecord.{BenchRecord}
use Rattle.bench_records.specs.declared.records.BenchRecord.TheVariants as records
use Rattle.bench_core.specs.declared.settings.Settings.{Settings}
use Rattle.bench_core.specs.declared.staged.Staged.{Staged}
use Rattle.bench_core.specs.declared.staged.Staged.TheVariants.{Begin, Solve, Expand}
use Rattle.bench_core.specs.Records.{is_work, is_work_on, begun}
use Rattle.bench_core.specs.Growing.{IsLeafWith}
use Rattle.bench_core.specs.Grown.{GrownState}
use Rattle.bench_core.specs.States.{CoreState, HasRow, with_lease_rows, IsFoundUnder, IsOpenFor, IsSoundRow, IsSoundBy}
use Rattle.bench_core.specs.Cores.{Core, IsSoundCore, HasKeptRow, AreOfOwnNodes, keep_for, with_staged}
use Rattle.bench_core.specs.Benches.{seen, record_staged, lease_kept, nodes_made, all_nodes_made, IsPrepared, IsReady, IsKeptFor, IsBench}
use Rattle.bench_core.proofs.Lists.{Each-weaker, Each-append, Each-map, Each-contains, Each-both, Contains-map, Contains-unfilter, none_from_each, each_of_contains}
use Rattle.bench_core.proofs.RowsApart.{apart_one, apart_map, there_row, found_lives}
use Rattle.bench_core.proofs.BenchLemmas.{ready_moves}
use Rattle.bench_core.proofs.StageLemmas.{any_push, any_pushed, begun_push, own_push, map_push, made_push}
use Rattle.bench_core.proofs.SoundApplied.{one_node}

-- ---- a row that is kept from now on, or is of another node

same_lease : (b : Bool) (row : Row) → (cond b (record row { kept = true }) row).lease ≡ row.lease
same_lease true row = refl
same_lease false row = refl

keep_lease : (r : BenchRecord) (row : Row) → (keep_for true r row).lease ≡ row.lease
keep_lease r row = same_lease (is_work_on row.lease.node r) row

same_kept : (b : Bool) (row : Row) → row.kept ≡ true → cond b (record row { kept = true }) row ≡ row
same_kept true row h = λ i. record row { kept = sym h i }
same_kept false row h = refl

keep_kept : (r : BenchRecord) (row : Row) → row.kept ≡ true → keep_for true r row ≡ row
keep_kept r row h = same_kept (is_work_on row.lease.node r) row h

keep_own : (r : BenchRecord) (row : Row) → is_work_on row.lease.node r ≡ true → keep_for true r row ≡ record row { kept = true }
keep_own r row own = ap (λ b. cond b (record row { kept = true }) row) own

lives_kept : (b : Bool) (limit now : ℕ) (row : Row) → is_live_row limit now row ≡ true → is_live_row limit now (cond b (record row { kept = true }) row) ≡ true
lives_kept true limit now row h = refl
lives_kept false limit now row h = h

module _ (core : Core) (r : BenchRecord) (id : ℕ) (work : is_work r ≡ true) (found : HasRow (λ row. (row.kept ≡ false) × IsFoundUnder core.state row.lease r) core.state id) (sound : IsSoundCore core) where
  abbrev s : CoreState
  s = core.state

  abbrev rows : List Row
  rows = map (keep_for true r) s.leases.rows

  abbrev new : Core
  new = with_staged core r

  row_kept : (row : Row) → IsSoundRow s row → IsSoundRow new.state (keep_for true r row)
  row_kept row h =
      let e = keep_lease r row in
      record {
        leaf = subst (λ (l : Lease). IsLeafWith (IsOpenFor l) s.forest l.node) (sym e) h.leaf;
        lives = lives_kept (is_work_on row.lease.node r) s.leases.limit s.given row h.lives;
        given = subst (λ (l : Lease). l.id ≤ s.given) (sym e) h.given;
        depth = subst (λ (l : Lease). l.depth ≡ s.settings.depth) (sym e) h.depth;
        pieces = subst (λ (l : Lease). l.pieces ≡ s.settings.pieces) (sym e) h.pieces;
      }

  -- the lease's row, kept
  pub kept_row : HasKeptRow new r
  kept_row = record {
    row = record found.row { kept = true };
    there = subst (λ (x : Row). Contains rows x) (keep_own r found.row found.holds.1.own) (Contains-map (keep_for true r) s.leases.rows found.row found.there);
    kept = refl;
    found = record { own = found.holds.1.own; lawful = found.holds.1.lawful; found = found.holds.1.found };
  }

  old_kept : (q : BenchRecord) → HasKeptRow core q → HasKeptRow new q
  old_kept q h = record {
    row = h.row;
    there = subst (λ (x : Row). Contains rows x) (keep_kept r h.row h.kept) (Contains-map (keep_for true r) s.leases.rows h.row h.there);
    kept = h.kept;
    found = record { own = h.found.own; lawful = h.found.lawful; found = h.found.found };
  }

  work_on : (n : ℕ) (q : BenchRecord) → is_work_on n q ≡ true → is_work q ≡ true
  work_on n (records.Begin p) own = own
  work_on n (records.Solve m p shown) own = refl
  work_on n (records.Expand m) own = refl

  -- no staged record is of the lease's node
  none_staged : (n : ℕ) → is_work_on n r ≡ true → list_any (is_work_on n) core.staged ≡ false
  none_staged n own =
      none_from_each (is_work_on n) core.staged
      (Each-weaker (λ q. is_work q ≡ true → HasKeptRow core q) (λ q. is_work_on n q ≡ false)
      (λ q h. false_from_ne_true (is_work_on n q) (λ t.
      let by = h (work_on n q t) in
      let same : by.row ≡ found.row = apart_one s.leases.rows by.row found.row sound.state.apart by.there found.there
      (inl (one_node by.row.lease.node n q by.found.own t ∙ one_node n found.row.lease.node r own found.holds.1.own)) in
      true≢false (sym by.kept ∙ (ap (λ (x : Row). x.kept) same ∙ found.holds.0))))
      core.staged sound.kept)

  awaited_by : (b : Bool) (row : Row) → is_work_on row.lease.node r ≡ b → (row.kept ≡ true → list_any (is_work_on row.lease.node) core.staged ≡ true)
      → (cond b (record row { kept = true }) row).kept ≡ true → list_any (is_work_on (cond b (record row { kept = true }) row).lease.node) (core.staged ++ r ∷ []) ≡ true
  awaited_by true row is h k = any_push (is_work_on row.lease.node) core.staged r ∙ or_right (list_any (is_work_on row.lease.node) core.staged) (is_work_on row.lease.node r) is
  awaited_by false row is h k = any_pushed (is_work_on row.lease.node) core.staged r (h k)

  begins_none : (q : BenchRecord) → is_work q ≡ true → begun (q ∷ []) ≡ []
  begins_none (records.Begin p) h = absurd (false≢true h)
  begins_none (records.Solve n p shown) h = refl
  begins_none (records.Expand n) h = refl

  begun_same : begun (core.staged ++ r ∷ []) ≡ begun core.staged
  begun_same = begun_push core.staged r ∙ (ap (λ (l : List Board). begun core.staged ++ l) (begins_none r work) ∙ append-nil (begun core.staged))

  pub work_keeps : IsSoundCore new
  work_keeps = record {
    state = record {
      lasts = sound.state.lasts;
      forest = sound.state.forest;
      numbered = sound.state.numbered;
      sight = sound.state.sight;
      certified = sound.state.certified;
      named = sound.state.named;
      apart = apart_map (keep_for true r) (λ row. keep_lease r row) s.leases.rows sound.state.apart;
      rows = Each-map (IsSoundRow s) (IsSoundRow new.state) (keep_for true r) (λ row h. row_kept row h) s.leases.rows sound.state.rows;
    };
    kept = Each-append (λ q. is_work q ≡ true → HasKeptRow new q) core.staged (r ∷ [])
        (Each-weaker (λ q. is_work q ≡ true → HasKeptRow core q) (λ q. is_work q ≡ true → HasKeptRow new q) (λ q h w. old_kept q (h w)) core.staged sound.kept)
        ((λ w. kept_row), tt);
    awaited = Each-map (λ row. row.kept ≡ true → list_any (is_work_on row.lease.node) core.staged ≡ true) (λ row. row.kept ≡ true → list_any (is_work_on row.lease.node) (core.staged ++ r ∷ []) ≡ true)
        (keep_for true r) (λ row h. awaited_by (is_work_on row.lease.node r) row refl h) s.leases.rows sound.awaited;
    own = own_push core.staged r sound.own none_staged;
    lawful = subst (All IsLawful) (sym begun_same) sound.lawful;
    distinct = subst (λ (l : List Board). IsDistinct same_board (root_positions s.forest ++ l)) (sym begun_same) sound.distinct;
    room = subst (λ (l : List Board). length (root_positions s.forest ++ l) ≤ 65536) (sym begun_same) sound.room;
  }

-- ---- the table

abbrev mark : ℕ → Row → Row
mark id row = cond (has_id id row) (record row { kept = true }) row

mark_by : (limit now id : ℕ) (r : BenchRecord) (row : Row) (rows rest : List Row) (b l : Bool) → has_id id row ≡ b → is_live_row limit now row ≡ l
    → (b ≡ true → (l ≡ true) × (is_work_on row.lease.node r ≡ true)) → (l ≡ true → b ≡ false → is_work_on row.lease.node r ≡ false) → filter (is_live_row limit now) rest ≡ map (keep_for true r) (filter (is_live_row limit now) rows)
    → filter (is_live_row limit now) (cond b (record row { kept = true }) row ∷ rest) ≡ map (keep_for true r) (cond l (row ∷ filter (is_live_row limit now) rows) (filter (is_live_row limit now) rows))
mark_by limit now id r row rows rest true true is_b is_l p q same = rw (same, (p refl).1) refl
mark_by limit now id r row rows rest true false is_b is_l p q same = absurd (false≢true (p refl).0)
mark_by limit now id r row rows rest false true is_b is_l p q same = rw (is_l, same, q refl refl) refl
mark_by limit now id r row rows rest false false is_b is_l p q same = rw is_l same

live_marked : (limit now id : ℕ) (r : BenchRecord) (rows : List Row)
    → Each (λ row. (has_id id row ≡ true → (is_live_row limit now row ≡ true) × (is_work_on row.lease.node r ≡ true)) × (is_live_row limit now row ≡ true → has_id id row ≡ false → is_work_on row.lease.node r ≡ false)) rows
    → filter (is_live_row limit now) (marked id true rows) ≡ map (keep_for true r) (filter (is_live_row limit now) rows)
live_marked limit now id r [] each = refl
live_marked limit now id r (row ∷ rows) each =
    mark_by limit now id r row rows (marked id true rows) (has_id id row) (is_live_row limit now row) refl refl each.0.0 each.0.1 (live_marked limit now id r rows each.1)

module _ (grown new : GrownState) (leases : LeaseRows) (waiting : List Staged) (given work due : ℕ) (settings : Settings) (forest : new.forest ≡ grown.forest) (recs : new.records ≡ grown.records)
    (item : Staged) (id : ℕ) (bench : IsBench (seen grown leases waiting given work settings) grown leases waiting due)
    (found : HasRow (λ row. (row.kept ≡ false) × IsFoundUnder (seen grown leases waiting given work settings).state row.lease (record_staged item)) (seen grown leases waiting given work settings).state id) where
  abbrev old : Core
  old = seen grown leases waiting given work settings

  abbrev r : BenchRecord
  r = record_staged item

  abbrev marked_leases : LeaseRows
  marked_leases = record leases { rows = marked id true leases.rows }

  at : Contains leases.rows found.row × (is_live_row leases.limit given found.row ≡ true)
  at = Contains-unfilter (is_live_row leases.limit given) leases.rows found.row found.there

  pub found_live : is_live leases id given ≡ true
  found_live = subst (λ n. is_live leases n given ≡ true) found.number (found_lives leases given found.row bench.apart found.there)

  each_row : Each (λ row. (has_id id row ≡ true → (is_live_row leases.limit given row ≡ true) × (is_work_on row.lease.node r ≡ true)) × (is_live_row leases.limit given row ≡ true → has_id id row ≡ false → is_work_on row.lease.node r ≡ false)) leases.rows
  each_row = each_of_contains _ leases.rows (λ row there. (
    (λ e.
        let same : row ≡ found.row = apart_one leases.rows row found.row bench.apart there at.0 (inr (sym (eqb-true id row.lease.id e) ∙ sym found.number)) in
        (subst (λ (x : Row). is_live_row leases.limit given x ≡ true) (sym same) at.1, subst (λ (x : Row). is_work_on x.lease.node r ≡ true) (sym same) found.holds.1.own)),
    (λ lives other. false_from_ne_true (is_work_on row.lease.node r) (λ own.
        let same : row ≡ found.row = apart_one leases.rows row found.row bench.apart there at.0 (inl (one_node row.lease.node found.row.lease.node r own found.holds.1.own)) in
        true≢false (sym (eq-eqb id row.lease.id (sym found.number ∙ ap (λ (x : Row). x.lease.id) (sym same))) ∙ other))),
  ))

  pub work_seen : (items : List Staged) → items ≡ waiting ++ item ∷ [] → seen new marked_leases items given work settings ≡ with_staged old r
  work_seen items is =
      ap (λ (ws : List Staged). seen new marked_leases ws given work settings) is
      ∙ (λ i. record {
        state = record old.state { forest = forest i; leases = record { limit = leases.limit; rows = live_marked leases.limit given id r leases.rows each_row i } };
        records = recs i;
        staged = map_push waiting item i;
      })

  stays : (row : Row) → Contains old.state.leases.rows row → row.kept ≡ true → Contains (map (keep_for true r) old.state.leases.rows) row
  stays row there kept = subst (λ (x : Row). Contains (map (keep_for true r) old.state.leases.rows) x) (keep_kept r row kept) (Contains-map (keep_for true r) old.state.leases.rows row there)

  kept_for : (n : ℕ) → is_work_on n r ≡ true → IsKeptFor (map (keep_for true r) old.state.leases.rows) id n
  unfolding kept_row
  kept_for n own =
      let k = kept_row old r id (work_of n r own) found bench.core in
      record { row = k.row; there = k.there; number = found.number; own = one_node found.row.lease.node n r found.holds.1.own own; kept = refl }
    where
      work_of : (n : ℕ) (q : BenchRecord) → is_work_on n q ≡ true → is_work q ≡ true
      work_of n (records.Begin p) own = own
      work_of n (records.Solve m p shown) own = refl
      work_of n (records.Expand m) own = refl

  new_ready : (q : Staged) → q ≡ item → lease_kept q ≡ Some id → IsPrepared old.state q → IsReady (with_staged old r).state q
  new_ready (Begin child) is none h = absurd (cc)
  new_ready (Solve lease n p facts shown) is some h =
      let same : lease ≡ id = cc in
      (subst (λ i. IsKeptFor (map (keep_for true r) old.state.leases.rows) i n) (sym same) (kept_for n (subst (λ (x : Staged). is_work_on n (record_staged x) ≡ true) is (eq-eqb n n refl))), h)
  new_ready (Expand lease n children) is some h =
      let same : lease ≡ id = cc in
      (subst (λ i. IsKeptFor (map (keep_for true r) old.state.leases.rows) i n) (sym same) (kept_for n (subst (λ (x : Staged). is_work_on n (record_staged x) ≡ true) is (eq-eqb n n refl))), h)

  is_of_work : (q : Staged) → lease_kept q ≡ Some id → is_work (record_staged q) ≡ true
  is_of_work (Begin child) none = absurd (cc)
  is_of_work (Solve lease n p facts shown) some = refl
  is_of_work (Expand lease n children) some = refl

  marks_lease : (row : Row) → (mark id row).lease ≡ row.lease
  marks_lease row = same_lease (has_id id row) row

  pub bench_worked : (items : List Staged) → items ≡ waiting ++ item ∷ [] → lease_kept item ≡ Some id → IsPrepared old.state item → due + nodes_made item ≤ new.nodes → length waiting + 1 ≤ new.room → work + (length waiting + 1) < 2 ^ 64
      → IsBench (seen new marked_leases items given work settings) new marked_leases items (due + nodes_made item)
  bench_worked items is kept prepared nodes room count =
      subst (λ (x : Core). IsBench x new marked_leases items (due + nodes_made item)) (sym (work_seen items is))
      (subst (λ (ws : List Staged). IsBench (with_staged old r) new marked_leases ws (due + nodes_made item)) (sym is)
      (record {
        table = bench.table;
        few = bench.few;
        core = work_keeps old r id (is_of_work item kept) found bench.core;
        numbers = Each-map (λ row. row.lease.id ≤ given) (λ row. row.lease.id ≤ given) (mark id) (λ row h. subst (λ (l : Lease). l.id ≤ given) (sym (marks_lease row)) h) leases.rows bench.numbers;
        apart = apart_map (mark id) marks_lease leases.rows bench.apart;
        ready = Each-append (IsReady (with_staged old r).state) waiting (item ∷ [])
            (Each-weaker (IsReady old.state) (IsReady (with_staged old r).state) (λ q h. ready_moves old.state (map (keep_for true r) old.state.leases.rows) stays q h) waiting bench.ready)
            (new_ready item refl kept prepared, tt);
        made = made_push waiting item ∙ ap (λ n. n + nodes_made item) bench.made;
        nodes = nodes;
        room = (let more : length (waiting ++ item ∷ []) ≡ length waiting + 1 = length-append waiting _ in omega (arith, more, room));
        countable = (let more : length (waiting ++ item ∷ []) ≡ length waiting + 1 = length-append waiting _ in omega (arith, more, count));
      }))
