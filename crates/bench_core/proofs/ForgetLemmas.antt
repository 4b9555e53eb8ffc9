-- What is staged last and taken back leaves a bench sound.
use Rattle.std.proofs.Common.{◌≡◌, ◌≤◌, ◌+◌, ◌-◌, ℕ, List, [], ◌∷◌, ◌++◌, map, length, refl, ap, sym, ◌∙◌, subst, inl, inr, arith, append_assoc, length-append}
use Rattle.std.specs.Prelude.{Bool, true, false, cond, ◌||◌, nat_lt, filter, Contains, Some, None}
use Rattle.std.specs.List.{list_any, IsDistinct, AllByRecursion as Each}
use Rattle.std.proofs.lemmas.Bool.{true≢false, false≢true, or_left, or_parts, eqb-true, eq-eqb, false_from_ne_true}
use Rattle.std.proofs.lemmas.List.Elements.{All-from_recursion, recursion_from_All}
use Rattle.draughts_board.specs.Board.{Board, IsLawful, same_board}
use Rattle.proof_tree.specs.Sound.{root_positions}
use Rattle.lease_table.specs.declared.leases.Lease.{Lease}
use Rattle.lease_table.specs.declared.leases.Row.{Row}
use Rattle.lease_table.specs.Rows.{LeaseRows, is_live_row, is_kept, has_id, marked}
use Rattle.bench_records.specs.declared.records.BenchRecord.{BenchRecord}
use Rattle.bench_core.specs.declared.settings.Settings.{Settings}
use Rattle.bench_core.specs.declared.staged.Staged.{Staged}
use Rattle.bench_core.specs.declared.staged.Staged.TheVariants.{Begin, Solve, Expand}
use Rattle.bench_core.specs.Records.{is_work, is_work_on, begun}
use Rattle.bench_core.specs.Growing.{IsLeafWith}
use Rattle.bench_core.specs.Grown.{GrownState}
use Rattle.bench_core.specs.States.{CoreState, with_lease_rows, IsOpenFor, IsSoundRow, AreRowsApart}
use Rattle.bench_core.specs.Cores.{Core, IsSoundCore, HasKeptRow, AreOfOwnNodes, keep_for, IsForgotten}
use Rattle.bench_core.specs.Benches.{seen, record_staged, lease_kept, nodes_made, all_nodes_made, IsReady, IsKeptFor, IsBench}
use Rattle.bench_core.proofs.Lists.{Each-weaker, Each-both, Each-map, Each-filter, Contains-map, Contains-filter, Contains-unfilter, each_of_contains}
use Rattle.bench_core.proofs.RowsApart.{apart_one, apart_map, apart_filter, found_kept, live_twice}
use Rattle.bench_core.proofs.StageLemmas.{any_push, begun_push, map_push, made_push}
use Rattle.bench_core.proofs.SoundApplied.{one_node}
use Rattle.bench_core.proofs.ApplyLemmas.{each_unmap}

-- ---- lists without their last

each_parts : {X : Type 0} (P : X → Type 0) (xs ys : List X) → Each P (xs ++ ys) → Each P xs × Each P ys
each_parts P [] ys h = (tt, h)
each_parts P (x ∷ xs) ys h = let more = each_parts P xs ys h.1 in ((h.0, more.0), more.1)

distinct_front : (xs ys : List Board) → IsDistinct same_board (xs ++ ys) → IsDistinct same_board xs
unfolding IsDistinct
distinct_front [] ys h = tt
distinct_front (x ∷ xs) ys h = ((each_parts (λ y. same_board x y ≡ false) xs ys h.0).0, distinct_front xs ys h.1)

-- the others are of their own nodes, none of which is the last one's
own_parts : (qs : List BenchRecord) (r : BenchRecord) → AreOfOwnNodes (qs ++ r ∷ []) → AreOfOwnNodes qs × Each (λ q. (n : ℕ) → is_work_on n q ≡ true → is_work_on n r ≡ false) qs
own_parts [] r h = (tt, tt)
own_parts (q ∷ qs) r h =
    let more = own_parts qs r h.1 in
    let parts : (n : ℕ) → is_work_on n q ≡ true → (list_any (is_work_on n) qs ≡ false) × (is_work_on n r ≡ false) =
    λ n own. or_parts (list_any (is_work_on n) qs) (is_work_on n r) (sym (any_push (is_work_on n) qs r) ∙ h.0 n own) in
    (((λ n own. (parts n own).0), more.0), ((λ n own. (parts n own).1), more.1))

-- ---- a row that is kept no more, or is of another node

same_lease : (b : Bool) (row : Row) → (cond b (record row { kept = false }) row).lease ≡ row.lease
same_lease true row = refl
same_lease false row = refl

unkept_lease : (r : BenchRecord) (row : Row) → (keep_for false r row).lease ≡ row.lease
unkept_lease r row = same_lease (is_work_on row.lease.node r) row

of_other : (r : BenchRecord) (row : Row) → is_work_on row.lease.node r ≡ false → keep_for false r row ≡ row
of_other r row other = ap (λ b. cond b (record row { kept = false }) row) other

first_true : (a b : Bool) → (a || b) ≡ true → b ≡ false → a ≡ true
first_true true b h e = refl
first_true false b h e = absurd (true≢false (sym h ∙ e))

-- ---- the core

module _ (s : CoreState) (records qs : List BenchRecord) (r : BenchRecord) (sound : IsSoundCore (record { state = s; records = records; staged = qs ++ r ∷ [] })) where
  abbrev before : Core
  before = record { state = s; records = records; staged = qs ++ r ∷ [] }

  abbrev live : Row → Bool
  live = is_live_row s.leases.limit s.given

  abbrev rows : List Row
  rows = filter live (map (keep_for false r) s.leases.rows)

  abbrev new : Core
  new = record { state = with_lease_rows s rows; records = records; staged = qs }

  pub others_stay : (row : Row) → Contains s.leases.rows row → row.kept ≡ true → is_work_on row.lease.node r ≡ false → Contains rows row
  others_stay row there kept other =
      Contains-filter live (map (keep_for false r) s.leases.rows) row
      (subst (λ (x : Row). Contains (map (keep_for false r) s.leases.rows) x) (of_other r row other) (Contains-map (keep_for false r) s.leases.rows row there))
      (or_left row.kept (nat_lt s.given (row.lease.id + s.leases.limit)) kept)

  row_unkept : (row : Row) → IsSoundRow s row → live (keep_for false r row) ≡ true → IsSoundRow new.state (keep_for false r row)
  row_unkept row h lives =
      let e = unkept_lease r row in
      record {
        leaf = subst (λ (l : Lease). IsLeafWith (IsOpenFor l) s.forest l.node) (sym e) h.leaf;
        lives = lives;
        given = subst (λ (l : Lease). l.id ≤ s.given) (sym e) h.given;
        depth = subst (λ (l : Lease). l.depth ≡ s.settings.depth) (sym e) h.depth;
        pieces = subst (λ (l : Lease). l.pieces ≡ s.settings.pieces) (sym e) h.pieces;
      }

  still_kept : (q : BenchRecord) → HasKeptRow before q → ((n : ℕ) → is_work_on n q ≡ true → is_work_on n r ≡ false) → HasKeptRow new q
  still_kept q h other = record {
    row = h.row;
    there = others_stay h.row h.there h.kept (other h.row.lease.node h.found.own);
    kept = h.kept;
    found = record { own = h.found.own; lawful = h.found.lawful; found = h.found.found };
  }

  awaited_by : (b : Bool) (row : Row) → is_work_on row.lease.node r ≡ b → (row.kept ≡ true → list_any (is_work_on row.lease.node) (qs ++ r ∷ []) ≡ true)
      → (cond b (record row { kept = false }) row).kept ≡ true → list_any (is_work_on (cond b (record row { kept = false }) row).lease.node) qs ≡ true
  awaited_by true row is h k = absurd (false≢true k)
  awaited_by false row is h k = first_true (list_any (is_work_on row.lease.node) qs) (is_work_on row.lease.node r) (sym (any_push (is_work_on row.lease.node) qs r) ∙ h k) is

  abbrev roots : List Board
  roots = root_positions s.forest

  fewer_roots : roots ++ begun (qs ++ r ∷ []) ≡ (roots ++ begun qs) ++ begun (r ∷ [])
  fewer_roots = ap (λ (l : List Board). roots ++ l) (begun_push qs r) ∙ sym (append_assoc roots (begun qs) (begun (r ∷ [])))

  pub forgotten_keeps : IsSoundCore new
  forgotten_keeps =
      let own = own_parts qs r sound.own in
      record {
        state = record {
          lasts = sound.state.lasts;
          forest = sound.state.forest;
          numbered = sound.state.numbered;
          sight = sound.state.sight;
          certified = sound.state.certified;
          named = sound.state.named;
          apart = apart_filter live (map (keep_for false r) s.leases.rows) (apart_map (keep_for false r) (λ row. unkept_lease r row) s.leases.rows sound.state.apart);
          rows = Each-filter (λ row. live row ≡ true → IsSoundRow new.state row) (IsSoundRow new.state) live (λ row h lives. h lives) (map (keep_for false r) s.leases.rows)
              (Each-map (IsSoundRow s) (λ row. live row ≡ true → IsSoundRow new.state row) (keep_for false r) (λ row h. row_unkept row h) s.leases.rows sound.state.rows);
        };
        kept = Each-weaker (λ q. (is_work q ≡ true → HasKeptRow before q) × ((n : ℕ) → is_work_on n q ≡ true → is_work_on n r ≡ false)) (λ q. is_work q ≡ true → HasKeptRow new q)
            (λ q h work. still_kept q (h.0 work) h.1) qs
            (Each-both (λ q. is_work q ≡ true → HasKeptRow before q) (λ q. (n : ℕ) → is_work_on n q ≡ true → is_work_on n r ≡ false) qs
            (each_parts (λ q. is_work q ≡ true → HasKeptRow before q) qs (r ∷ []) sound.kept).0 own.1);
        awaited = Each-filter (λ row. row.kept ≡ true → list_any (is_work_on row.lease.node) qs ≡ true) (λ row. row.kept ≡ true → list_any (is_work_on row.lease.node) qs ≡ true) live (λ row h lives. h) (map (keep_for false r) s.leases.rows)
            (Each-map (λ row. row.kept ≡ true → list_any (is_work_on row.lease.node) (qs ++ r ∷ []) ≡ true) (λ row. row.kept ≡ true → list_any (is_work_on row.lease.node) qs ≡ true)
            (keep_for false r) (λ row h. awaited_by (is_work_on row.lease.node r) row refl h) s.leases.rows sound.awaited);
        own = own.0;
        lawful = All-from_recursion IsLawful (begun qs)
            (each_parts IsLawful (begun qs) (begun (r ∷ [])) (subst (Each IsLawful) (begun_push qs r) (recursion_from_All IsLawful (begun (qs ++ r ∷ [])) sound.lawful))).0;
        distinct = distinct_front (roots ++ begun qs) (begun (r ∷ [])) (subst (IsDistinct same_board) fewer_roots sound.distinct);
        room = (let h : length ((roots ++ begun qs) ++ begun (r ∷ [])) ≤ 65536 = subst (λ (l : List Board). length l ≤ 65536) fewer_roots sound.room in
            let more : length ((roots ++ begun qs) ++ begun (r ∷ [])) ≡ length (roots ++ begun qs) + length (begun (r ∷ [])) = length-append (roots ++ begun qs) (begun (r ∷ [])) in
            omega (arith, h, more));
      }

-- ---- the table

abbrev unmark : ℕ → Row → Row
unmark id row = cond (has_id id row) (record row { kept = false }) row

unmark_by : (limit now id : ℕ) (r : BenchRecord) (row : Row) (rows rest : List Row) (b l : Bool) → has_id id row ≡ b → is_live_row limit now row ≡ l
    → (b ≡ true → (l ≡ true) × (is_work_on row.lease.node r ≡ true)) → (l ≡ true → b ≡ false → is_work_on row.lease.node r ≡ false)
    → filter (is_live_row limit now) rest ≡ filter (is_live_row limit now) (map (keep_for false r) (filter (is_live_row limit now) rows))
    → filter (is_live_row limit now) (cond b (record row { kept = false }) row ∷ rest)
    ≡ filter (is_live_row limit now) (map (keep_for false r) (cond l (row ∷ filter (is_live_row limit now) rows) (filter (is_live_row limit now) rows)))
unmark_by limit now id r row rows rest true true is_b is_l p q same = rw (same, (p refl).1) refl
unmark_by limit now id r row rows rest true false is_b is_l p q same = absurd (false≢true (p refl).0)
unmark_by limit now id r row rows rest false true is_b is_l p q same = rw (same, q refl refl) refl
unmark_by limit now id r row rows rest false false is_b is_l p q same = rw is_l same

live_unmarked : (limit now id : ℕ) (r : BenchRecord) (rows : List Row)
    → Each (λ row. (has_id id row ≡ true → (is_live_row limit now row ≡ true) × (is_work_on row.lease.node r ≡ true)) × (is_live_row limit now row ≡ true → has_id id row ≡ false → is_work_on row.lease.node r ≡ false)) rows
    → filter (is_live_row limit now) (marked id false rows) ≡ filter (is_live_row limit now) (map (keep_for false r) (filter (is_live_row limit now) rows))
live_unmarked limit now id r [] each = refl
live_unmarked limit now id r (row ∷ rows) each =
    unmark_by limit now id r row rows (marked id false rows) (has_id id row) (is_live_row limit now row) refl refl each.0.0 each.0.1 (live_unmarked limit now id r rows each.1)

-- a record without a lease keeps none
none_kept : (item : Staged) (rows : List Row) → lease_kept item ≡ None → map (keep_for false (record_staged item)) rows ≡ rows
none_kept item [] none = refl
none_kept (Begin child) (row ∷ rows) none = ap (λ (l : List Row). row ∷ l) (none_kept (Begin child) rows none)
none_kept (Solve id n p facts shown) (row ∷ rows) none = absurd (cc)
none_kept (Expand id n children) (row ∷ rows) none = absurd (cc)

-- ---- the bench

module _ (grown : GrownState) (leases : LeaseRows) (rest : List Staged) (item : Staged) (given work due : ℕ) (settings : Settings)
    (bench : IsBench (seen grown leases (rest ++ item ∷ []) given work settings) grown leases (rest ++ item ∷ []) due) where
  abbrev old : Core
  old = seen grown leases (rest ++ item ∷ []) given work settings

  abbrev s : CoreState
  s = old.state

  abbrev qs : List BenchRecord
  qs = map record_staged rest

  abbrev r : BenchRecord
  r = record_staged item

  abbrev pub unmarked : ℕ → LeaseRows
  unmarked id = record leases { rows = marked id false leases.rows }

  sound : IsSoundCore (record { state = s; records = grown.records; staged = qs ++ r ∷ [] })
  sound = subst (λ (l : List BenchRecord). IsSoundCore (record { state = s; records = grown.records; staged = l })) (map_push rest item) bench.core

  abbrev pub left : Core
  left = record {
    state = with_lease_rows s (filter (is_live_row s.leases.limit s.given) (map (keep_for false r) s.leases.rows));
    records = grown.records;
    staged = qs;
  }

  pub fewer_nodes : nodes_made item ≤ due
  fewer_nodes = let more : all_nodes_made (rest ++ item ∷ []) ≡ all_nodes_made rest + nodes_made item = made_push rest item in let h = bench.made in omega (arith, more, h)

  -- the item's lease
  kept_at : (q : Staged) (id : ℕ) → lease_kept q ≡ Some id → IsReady s q → (n : ℕ) × ((is_work_on n (record_staged q) ≡ true) × IsKeptFor s.leases.rows id n)
  kept_at (Begin child) id none h = absurd (cc)
  kept_at (Solve lease n p facts shown) id some h = let same : lease ≡ id = cc in (n, (eq-eqb n n refl, subst (λ i. IsKeptFor s.leases.rows i n) same h.0))
  kept_at (Expand lease n children) id some h = let same : lease ≡ id = cc in (n, (eq-eqb n n refl, subst (λ i. IsKeptFor s.leases.rows i n) same h.0))

  item_kept : (id : ℕ) → lease_kept item ≡ Some id → (n : ℕ) × ((is_work_on n r ≡ true) × IsKeptFor s.leases.rows id n)
  item_kept id some = kept_at item id some (each_parts (IsReady s) rest (item ∷ []) bench.ready).1.0

  pub can_unkeep : (id : ℕ) → lease_kept item ≡ Some id → is_kept leases id ≡ true
  can_unkeep id some =
      let k = (item_kept id some).1.1 in
      subst (λ i. is_kept leases i ≡ true) k.number (found_kept leases given k.row bench.apart k.there ∙ k.kept)

  -- ---- what is seen

  pub root_left : lease_kept item ≡ None → seen grown leases rest given work settings ≡ left
  root_left none =
      let same : filter (is_live_row leases.limit given) (map (keep_for false r) s.leases.rows) ≡ s.leases.rows =
      ap (filter (is_live_row leases.limit given)) (none_kept item s.leases.rows none) ∙ live_twice leases.limit given given leases.rows (omega arith) in
      ap (λ (rows : List Row). record (seen grown leases rest given work settings) { state = with_lease_rows s rows }) (sym same)

  pub work_left : (id : ℕ) → lease_kept item ≡ Some id → seen grown (unmarked id) rest given work settings ≡ left
  work_left id some =
      let found = item_kept id some in
      let k = found.1.1 in
      let own : is_work_on k.row.lease.node r ≡ true = subst (λ n. is_work_on n r ≡ true) (sym k.own) found.1.0 in
      let at = Contains-unfilter (is_live_row leases.limit given) leases.rows k.row k.there in
      ap (λ (rows : List Row). record (seen grown leases rest given work settings) { state = with_lease_rows s rows })
      (live_unmarked leases.limit given id r leases.rows (each_of_contains _ leases.rows (λ row there. (
        (λ e.
            let same : row ≡ k.row = apart_one leases.rows row k.row bench.apart there at.0 (inr (sym (eqb-true id row.lease.id e) ∙ sym k.number)) in
            (subst (λ (x : Row). is_live_row leases.limit given x ≡ true) (sym same) at.1, subst (λ (x : Row). is_work_on x.lease.node r ≡ true) (sym same) own)),
        (λ lives other. false_from_ne_true (is_work_on row.lease.node r) (λ mine.
            let same : row ≡ k.row = apart_one leases.rows row k.row bench.apart there at.0 (inl (one_node row.lease.node k.row.lease.node r mine own)) in
            true≢false (sym (eq-eqb id row.lease.id (sym k.number ∙ ap (λ (x : Row). x.lease.id) (sym same))) ∙ other))),
      ))))

  pub forgotten : (now : Core) → now ≡ left → IsForgotten old now
  forgotten now is = record {
    last = r;
    staged = map_push rest item ∙ ap (λ (x : Core). x.staged ++ r ∷ []) (sym is);
    rest = is ∙ ap (λ (x : Core). record left { staged = x.staged }) (sym is);
  }

  -- ---- what ties the fields

  kept_for : (id n : ℕ) → is_work_on n r ≡ false → IsKeptFor s.leases.rows id n → IsKeptFor left.state.leases.rows id n
  kept_for id n other k = record {
    row = k.row;
    there = others_stay s grown.records qs r sound k.row k.there k.kept (subst (λ m. is_work_on m r ≡ false) (sym k.own) other);
    number = k.number;
    own = k.own;
    kept = k.kept;
  }

  ready_left : (q : Staged) → IsReady s q → ((n : ℕ) → is_work_on n (record_staged q) ≡ true → is_work_on n r ≡ false) → IsReady left.state q
  ready_left (Begin child) h other = h
  ready_left (Solve id n p facts shown) h other = (kept_for id n (other n (eq-eqb n n refl)) h.0, h.1)
  ready_left (Expand id n children) h other = (kept_for id n (other n (eq-eqb n n refl)) h.0, h.1)

  bench_left : (table : LeaseRows) → seen grown table rest given work settings ≡ left → Each (λ row. row.lease.id ≤ given) table.rows → AreRowsApart table.rows
      → IsBench (seen grown table rest given work settings) grown table rest (due - nodes_made item)
  bench_left table is numbers apart =
      let more : all_nodes_made (rest ++ item ∷ []) ≡ all_nodes_made rest + nodes_made item = made_push rest item in
      let longer : length (rest ++ item ∷ []) ≡ length rest + 1 = length-append rest (item ∷ []) in
      subst (λ (x : Core). IsBench x grown table rest (due - nodes_made item)) (sym is)
      (record {
        table = bench.table;
        few = bench.few;
        core = forgotten_keeps s grown.records qs r sound;
        numbers = numbers;
        apart = apart;
        ready = Each-weaker (λ q. IsReady s q × ((n : ℕ) → is_work_on n (record_staged q) ≡ true → is_work_on n r ≡ false)) (IsReady left.state) (λ q h. ready_left q h.0 h.1) rest
            (Each-both (IsReady s) (λ q. (n : ℕ) → is_work_on n (record_staged q) ≡ true → is_work_on n r ≡ false) rest
            (each_parts (IsReady s) rest (item ∷ []) bench.ready).0
            (each_unmap (λ q. (n : ℕ) → is_work_on n q ≡ true → is_work_on n r ≡ false) rest (own_parts qs r sound.own).1));
        made = (let h = bench.made in omega (arith, more, h));
        nodes = (let h = bench.nodes in omega (arith, h));
        room = (let h = bench.room in omega (arith, h, longer));
        countable = (let h = bench.countable in omega (arith, h, longer));
      })

  pub bench_root_left : lease_kept item ≡ None → IsBench (seen grown leases rest given work settings) grown leases rest (due - nodes_made item)
  bench_root_left none = bench_left leases (root_left none) bench.numbers bench.apart

  pub bench_work_left : (id : ℕ) → lease_kept item ≡ Some id → IsBench (seen grown (unmarked id) rest given work settings) grown (unmarked id) rest (due - nodes_made item)
  bench_work_left id some =
      bench_left (unmarked id) (work_left id some)
      (Each-map (λ row. row.lease.id ≤ given) (λ row. row.lease.id ≤ given) (unmark id) (λ row h. subst (λ (l : Lease). l.id ≤ given) (sym (same_lease (has_id id row) row)) h) leases.rows bench.numbers)
      (apart_map (unmark id) (λ row. same_lease (has_id id row) row) leases.rows bench.apart)
