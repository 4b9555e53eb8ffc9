-- Applying what is staged first leaves a bench sound, and is an event of its state.
use Rattle.std.proofs.Common.{◌≡◌, ◌≤◌, ◌<◌, ◌+◌, ◌-◌, ℕ, List, [], ◌∷◌, ◌++◌, map, length, refl, ap, sym, ◌∙◌, subst, inl, inr, arith, append_assoc, append-nil, length-append, ⊎_elim}
use Rattle.std.specs.Prelude.{true, false, cond, not, filter, Contains, Option, IfSome, IsSomeAnd}
use Rattle.std.specs.List.{list_any, IsDistinct, AllByRecursion as Each}
use Rattle.std.proofs.lemmas.Bool.{true≢false, false≢true, or_parts, eqb-true, eq-eqb, false_from_ne_true, not_from_false, not-true}
use Rattle.std.proofs.lemmas.List.Elements.{All-head, Contains-append_right}
use Rattle.std.proofs.lemmas.List.{length-map}
use Rattle.draughts_board.specs.Play.{successors_of}
use Rattle.draughts_board.specs.Board.{Board, IsLawful, same_board}
use Rattle.draughts_board.specs.Same.{same_board-Decides}
use Rattle.proof_numbers.specs.declared.leaves.Child.{Child}
use Rattle.proof_numbers.specs.Facts.{known}
use Rattle.proof_numbers.specs.Known.{joined, IsConsistent}
use Rattle.proof_tree.specs.declared.rows.Mark.TheVariants.{Unexpanded}
use Rattle.proof_tree.specs.Forest.{Forest, Node, nodes, node_at}
use Rattle.proof_tree.specs.Changes.{with_facts}
use Rattle.proof_tree.specs.Sound.{root_positions, IsSoundForest}
use Rattle.certificate_checker.specs.Sight.{AreChildren}
use Rattle.lease_table.specs.declared.leases.Row.{Row}
use Rattle.lease_table.specs.Rows.{LeaseRows, has_id, is_live, without}
use Rattle.bench_records.specs.declared.records.BenchRecord.{BenchRecord}
use Rattle.bench_records.specs.declared.records.BenchRecord.TheVariants as records
use Rattle.bench_core.specs.declared.settings.Settings.{Settings}
use Rattle.bench_core.specs.declared.staged.Staged.{Staged}
use Rattle.bench_core.specs.declared.staged.Staged.TheVariants.{Begin, Solve, Expand}
use Rattle.bench_core.specs.Records.{is_work, is_work_on, begun, batches_shown}
use Rattle.bench_core.specs.Growing.{IsLeafWith, MayBeSolved, MayBeExpanded, GrowsWith}
use Rattle.bench_core.specs.Grown.{GrownState}
use Rattle.bench_core.specs.States.{CoreState, Event, Finds, BeginsRoot, Happens, IsRun}
use Rattle.bench_core.specs.Cores.{Core, HasKeptRow, applied_by, applied_by_all, IsCommitted, CanApplyAll}
use Rattle.bench_core.specs.Benches.{seen, record_staged, nodes_made, work_made, all_nodes_made, IsReady, IsKeptFor, IsBench}
use Rattle.bench_core.specs.Applying.{forest_after, leases_after, CanApply, HasApplied}
use Rattle.bench_core.proofs.Lists.{Each-weaker, Each-filter, Each-both, Each-contains, Contains-filter, Contains-here, Contains-cases, each_of_contains, filter_twice, filter_all}
use Rattle.bench_core.proofs.RowsApart.{apart_one, apart_filter, found_lives, live_without}
use Rattle.bench_core.proofs.SoundGrowth.{solved_agrees, leaf_stays}
use Rattle.bench_core.proofs.SoundApplied.{state_after, one_node, root_applied, work_applied, work_after}

-- ---- words about lists

contains_nothing : (p : Board) → Contains [] p → ⊥
contains_nothing p there = omega (arith, there.1)

absent_before : (xs : List Board) (p : Board) (ys : List Board) → IsDistinct same_board (xs ++ p ∷ ys) → ¬ Contains xs p
unfolding IsDistinct
absent_before [] p ys distinct there = contains_nothing p there
absent_before (x ∷ xs) p ys distinct there = ⊎_elim
    (λ same. true≢false (sym ((same_board-Decides x p).1 same) ∙ Each-contains (λ y. same_board x y ≡ false) (xs ++ p ∷ ys) p distinct.0 (Contains-append_right xs (p ∷ ys) p (Contains-here p ys))))
    (λ later. absent_before xs p ys distinct.1 later)
    (Contains-cases x p xs there)

count_roots : (f : Forest) → length (root_positions f) ≡ length (nodes f)
count_roots f = length-map (nodes f) (λ root. root.own.position)

pub each_unmap : (P : BenchRecord → Type 0) (rest : List Staged) → Each P (map record_staged rest) → Each (λ item. P (record_staged item)) rest
each_unmap P [] h = tt
each_unmap P (item ∷ rest) h = (h.0, each_unmap P rest h.1)

own_apart : (r : BenchRecord) (rest : List BenchRecord) → ((n : ℕ) → is_work_on n r ≡ true → list_any (is_work_on n) rest ≡ false)
    → Each (λ q. (n : ℕ) → is_work_on n q ≡ true → is_work_on n r ≡ false) rest
own_apart r [] h = tt
own_apart r (q ∷ rest) h = (
  (λ n own. false_from_ne_true (is_work_on n r) (λ t. true≢false (sym own ∙ (or_parts (is_work_on n q) (list_any (is_work_on n) rest) (h n t)).0))),
  own_apart r rest (λ n t. (or_parts (is_work_on n q) (list_any (is_work_on n) rest) (h n t)).1),
)

-- ---- what applying needs

some_and : (P Q : Node → Type 0) (f : Forest) (n : ℕ) (l : IsLeafWith P f n) → Q l.leaf → IsSomeAnd (node_at n f) Q
some_and P Q f n l h = subst (λ (o : Option Node). IsSomeAnd o Q) (sym l.there) h

if_some : (P Q : Node → Type 0) (f : Forest) (n : ℕ) (l : IsLeafWith P f n) → Q l.leaf → IfSome (node_at n f) Q
if_some P Q f n l h = subst (λ (o : Option Node). IfSome o Q) (sym l.there) h

of_some : (P Q : Node → Type 0) (f : Forest) (n : ℕ) (l : IsLeafWith P f n) → IfSome (node_at n f) Q → Q l.leaf
of_some P Q f n l h = subst (λ (o : Option Node). IfSome o Q) l.there h

module _ (grown : GrownState) (leases : LeaseRows) (rest : List Staged) (given work due : ℕ) (settings : Settings) where
  abbrev Bench : Staged → Type 0
  Bench item = IsBench (seen grown leases (item ∷ rest) given work settings) grown leases (item ∷ rest) due

  lives : (item : Staged) (id n : ℕ) → Bench item → IsKeptFor (seen grown leases (item ∷ rest) given work settings).state.leases.rows id n → is_live leases id given ≡ true
  lives item id n bench k = subst (λ i. is_live leases i given ≡ true) k.number (found_lives leases given k.row bench.apart k.there)

  fewer_roots : (p : Board) (ys : List Board) → length (root_positions grown.forest ++ p ∷ ys) ≤ 65536 → length (root_positions grown.forest) < 65536
  fewer_roots p ys few = let more : length (root_positions grown.forest ++ p ∷ ys) ≡ length (root_positions grown.forest) + length (p ∷ ys) = length-append (root_positions grown.forest) (p ∷ ys) in omega (arith, more, few)

  pub can_apply : (item : Staged) → Bench item → CanApply grown leases given item
  can_apply (Begin child) bench = (
    absent_before (root_positions grown.forest) child.position (begun (map record_staged rest)) bench.core.distinct,
    (
      (let c = count_roots grown.forest in omega (arith, c, fewer_roots child.position (begun (map record_staged rest)) bench.core.room)),
      ((let m = bench.made in let h = bench.nodes in omega (arith, m, h)), (let h = bench.room in omega (arith, h))),
    ),
  )
  can_apply (Solve id n p facts shown) bench =
      let by = bench.core.kept.0 refl in
      let l = by.found.lawful in
      let agree = solved_agrees settings.pieces n (batches_shown grown.records) grown.forest p shown l bench.core.state.numbered bench.core.state.certified in (
        some_and (MayBeSolved settings.pieces p shown) (λ x. x.own.mark ≡ Unexpanded) grown.forest n l l.unexpanded,
        (
          if_some (MayBeSolved settings.pieces p shown) (λ x. IsConsistent (joined x.own.facts (known facts))) grown.forest n l (subst (λ k. IsConsistent (joined l.leaf.own.facts k)) (sym bench.ready.0.1) agree),
          ((let h = bench.room in omega (arith, h)), lives (Solve id n p facts shown) id n bench bench.ready.0.0),
        ),
      )
  can_apply (Expand id n children) bench =
      let by = bench.core.kept.0 refl in
      let l = by.found.lawful in
      let are = of_some (MayBeExpanded settings.pieces) (λ x. AreChildren settings.pieces x.own.position children) grown.forest n l bench.ready.0.1 in (
        some_and (MayBeExpanded settings.pieces) (λ x. x.own.mark ≡ Unexpanded) grown.forest n l l.unexpanded,
        (
          if_some (MayBeExpanded settings.pieces) (λ x. map (λ child. child.position) children ≡ successors_of x.own.position) grown.forest n l are.positions,
          (
            (let m = bench.made in let h = bench.nodes in omega (arith, m, h)),
            ((let h = bench.room in omega (arith, h)), lives (Expand id n children) id n bench bench.ready.0.0),
          ),
        ),
      )

  -- ---- the forest grows by the record

  pub grows_by : (item : Staged) (new : GrownState) → Bench item → HasApplied item grown new → GrowsWith settings.pieces grown.forest (record_staged item) new.forest
  grows_by (Begin child) new bench applied = record {
    lawful = record {
      lawful = All-head IsLawful child.position (begun (map record_staged rest)) bench.core.lawful;
      absent = absent_before (root_positions grown.forest) child.position (begun (map record_staged rest)) bench.core.distinct;
      room = fewer_roots child.position (begun (map record_staged rest)) bench.core.room;
    };
    applied = (child, (refl, (bench.ready.0, applied.forest)));
  }
  grows_by (Solve id n p facts shown) new bench applied = record {
    lawful = (bench.core.kept.0 refl).found.lawful;
    applied = applied.forest ∙ ap (λ k. with_facts n k grown.forest) bench.ready.0.1;
  }
  grows_by (Expand id n children) new bench applied = record {
    lawful = (bench.core.kept.0 refl).found.lawful;
    applied = (children, (bench.ready.0.1, applied.forest));
  }

-- ---- what is staged behind it stays ready

module _ (core : Core) (r : BenchRecord) (g : Forest) (work : ℕ) (rows : List Row) (sound : IsSoundForest core.state.forest) (grows : GrowsWith core.state.settings.pieces core.state.forest r g)
    (keeps : (row : Row) → Contains core.state.leases.rows row → row.kept ≡ true → is_work_on row.lease.node r ≡ false → Contains rows row) where
  kept_for : (id n : ℕ) → is_work_on n r ≡ false → IsKeptFor core.state.leases.rows id n → IsKeptFor rows id n
  kept_for id n other k = record {
    row = k.row;
    there = keeps k.row k.there k.kept (subst (λ m. is_work_on m r ≡ false) (sym k.own) other);
    number = k.number;
    own = k.own;
    kept = k.kept;
  }

  pub ready_after : (item : Staged) → (is_work (record_staged item) ≡ true → HasKeptRow core (record_staged item)) → ((n : ℕ) → is_work_on n (record_staged item) ≡ true → is_work_on n r ≡ false)
      → IsReady core.state item → IsReady (state_after core.state g work rows) item
  ready_after (Begin child) kept other h = h
  ready_after (Solve id n p facts shown) kept other h = (kept_for id n (other n (eq-eqb n n refl)) h.0, h.1)
  ready_after (Expand id n children) kept other h =
      let l = (kept refl).found.lawful in
      let k = core.state.settings.pieces in
      let stays = leaf_stays k n core.state.forest g r l.leaf sound grows (other n (eq-eqb n n refl)) l.there l.unexpanded in
      let are = of_some (MayBeExpanded k) (λ x. AreChildren k x.own.position children) core.state.forest n l h.1 in (
        kept_for id n (other n (eq-eqb n n refl)) h.0,
        subst (λ (o : Option Node). IfSome o (λ x. AreChildren k x.own.position children)) (sym stays) are,
      )

-- ---- a step

module _ (grown new : GrownState) (leases : LeaseRows) (rest : List Staged) (given work due : ℕ) (settings : Settings) where
  abbrev old_core : Staged → Core
  old_core item = seen grown leases (item ∷ rest) given work settings

  abbrev pub new_core : Staged → Core
  new_core item = seen new (leases_after item leases) rest given (work + work_made item) settings

  -- one step of applying what is staged
  pub record IsStep (item : Staged) : Type 0 where
    pub bench : IsBench (new_core item) new (leases_after item leases) rest (due - nodes_made item)
    pub event : Event
    pub one : applied_by event ≡ record_staged item ∷ []
    pub happens : Happens (old_core item).state event (new_core item).state
    pub unkept : filter (λ row. not row.kept) (new_core item).state.leases.rows ≡ filter (λ row. not row.kept) (old_core item).state.leases.rows

  fewer_nodes : (item : Staged) (n : ℕ) → nodes_made item + all_nodes_made rest ≡ due → all_nodes_made rest ≡ due - nodes_made item
  fewer_nodes item n made = omega (arith, made)

  root_is : (child : Child) → HasApplied (Begin child) grown new
      → new_core (Begin child) ≡ record { state = state_after (old_core (Begin child)).state new.forest work (old_core (Begin child)).state.leases.rows; records = grown.records ++ records.Begin child.position ∷ []; staged = map record_staged rest }
  root_is child applied =
      let same : work + 0 ≡ work = omega arith in
      λ i. record {
        state = record (seen new leases rest given work settings).state { work = same i };
        records = applied.added i;
        staged = map record_staged rest;
      }

  pub root_step : (child : Child) → IsBench (old_core (Begin child)) grown leases (Begin child ∷ rest) due → HasApplied (Begin child) grown new → IsStep (Begin child)
  root_step child bench applied =
      let item = Begin child in
      let old = old_core item in
      let s = old.state in
      let r = records.Begin child.position in
      let qs = map record_staged rest in
      let grows = grows_by grown leases rest given work due settings item new bench applied in
      let is = root_is child applied in
      record {
        bench = subst (λ (x : Core). IsBench x new leases rest (due - 1)) (sym is) (record {
          table = bench.table;
          few = bench.few;
          core = root_applied s grown.records r qs new.forest (λ n. refl) grows bench.core;
          numbers = bench.numbers;
          apart = bench.apart;
          ready = Each-weaker (λ q. (IsReady s q × (is_work (record_staged q) ≡ true → HasKeptRow old (record_staged q)))) (IsReady (state_after s new.forest work s.leases.rows))
              (λ q h. ready_after old r new.forest work s.leases.rows bench.core.state.numbered grows (λ row there kept other. there) q h.1 (λ n own. refl) h.0) rest
              (Each-both (IsReady s) (λ q. is_work (record_staged q) ≡ true → HasKeptRow old (record_staged q)) rest bench.ready.1 (each_unmap (λ q. is_work q ≡ true → HasKeptRow old q) rest bench.core.kept.1));
          made = fewer_nodes item 0 bench.made;
          nodes = (let h = bench.nodes in let a = applied.nodes in omega (arith, h, a));
          room = (let h = bench.room in let a = applied.room in omega (arith, h, a));
          countable = (let h = bench.countable in omega (arith, h));
        });
        event = BeginsRoot child.position;
        one = refl;
        happens = record { grown = grows; rest = ap (λ (x : Core). x.state) is };
        unkept = refl;
      }

  -- ---- a result

  module _ (item : Staged) (id n : ℕ) (leases_is : leases_after item leases ≡ record leases { rows = without id leases.rows }) (work_is : is_work (record_staged item) ≡ true) (own_node : is_work_on n (record_staged item) ≡ true)
      (bench : IsBench (old_core item) grown leases (item ∷ rest) due) (k : IsKeptFor (old_core item).state.leases.rows id n) (applied : HasApplied item grown new) where
    abbrev s : CoreState
    s = (old_core item).state

    abbrev r : BenchRecord
    r = record_staged item

    abbrev qs : List BenchRecord
    qs = map record_staged rest

    by : HasKeptRow (old_core item) r
    by = bench.core.kept.0 work_is

    same_row : k.row ≡ by.row
    same_row = apart_one s.leases.rows k.row by.row bench.core.state.apart k.there by.there (inl (k.own ∙ one_node n by.row.lease.node r own_node by.found.own))

    number : by.row.lease.id ≡ id
    number = ap (λ (x : Row). x.lease.id) (sym same_row) ∙ k.number

    grows : GrowsWith settings.pieces grown.forest r new.forest
    grows = grows_by grown leases rest given work due settings item new bench applied

    abbrev after : Core
    after = work_after s grown.records r qs new.forest id by number bench.core

    is : new_core item ≡ after
    is =
        ap (λ (t : LeaseRows). seen new t rest given (work + work_made item) settings) leases_is
        ∙ (ap (λ b. seen new (record leases { rows = without id leases.rows }) rest given (work + cond b 1 0) settings) work_is
        ∙ (λ i. record {
          state = record (seen new leases rest given (work + 1) settings).state { leases = record { limit = leases.limit; rows = live_without leases.limit given id leases.rows i } };
          records = applied.added i;
          staged = qs;
        }))

    stays : (row : Row) → Contains s.leases.rows row → row.kept ≡ true → is_work_on row.lease.node r ≡ false → Contains (without id s.leases.rows) row
    stays row there kept other =
        Contains-filter (λ x. not (has_id id x)) s.leases.rows row there
        (not_from_false (has_id id row) (false_from_ne_true (has_id id row) (λ e.
        let one : row ≡ by.row = apart_one s.leases.rows row by.row bench.core.state.apart there by.there (inr (sym (eqb-true id row.lease.id e) ∙ sym number)) in
        true≢false (sym (subst (λ (x : Row). is_work_on x.lease.node r ≡ true) (sym one) by.found.own) ∙ other))))

    new_bench : IsBench after new (record leases { rows = without id leases.rows }) rest (due - nodes_made item)
    new_bench = record {
      table = bench.table;
      few = bench.few;
      core = work_applied s grown.records r qs new.forest id by number bench.core grows;
      numbers = Each-filter (λ row. row.lease.id ≤ given) (λ row. row.lease.id ≤ given) (λ row. not (has_id id row)) (λ row h t. h) leases.rows bench.numbers;
      apart = apart_filter (λ row. not (has_id id row)) leases.rows bench.apart;
      ready = Each-weaker (λ q. (IsReady s q × (is_work (record_staged q) ≡ true → HasKeptRow (old_core item) (record_staged q))) × ((m : ℕ) → is_work_on m (record_staged q) ≡ true → is_work_on m r ≡ false)) (IsReady after.state)
          (λ q h. ready_after (old_core item) r new.forest (work + 1) (without id s.leases.rows) bench.core.state.numbered grows stays q h.0.1 h.1 h.0.0) rest
          (Each-both (λ q. IsReady s q × (is_work (record_staged q) ≡ true → HasKeptRow (old_core item) (record_staged q))) (λ q. (m : ℕ) → is_work_on m (record_staged q) ≡ true → is_work_on m r ≡ false) rest
          (Each-both (IsReady s) (λ q. is_work (record_staged q) ≡ true → HasKeptRow (old_core item) (record_staged q)) rest bench.ready.1 (each_unmap (λ q. is_work q ≡ true → HasKeptRow (old_core item) q) rest bench.core.kept.1))
          (each_unmap (λ q. (m : ℕ) → is_work_on m q ≡ true → is_work_on m r ≡ false) rest (own_apart r qs bench.core.own.0)));
      made = fewer_nodes item 0 bench.made;
      nodes = (let h = bench.nodes in let a = applied.nodes in omega (arith, h, a));
      room = (let h = bench.room in let a = applied.room in omega (arith, h, a));
      countable = (let h = bench.countable in omega (arith, h));
    }

    pub work_step : IsStep item
    work_step = record {
      bench = subst (λ (t : LeaseRows). IsBench (new_core item) new t rest (due - nodes_made item)) (sym leases_is) (subst (λ (x : Core). IsBench x new (record leases { rows = without id leases.rows }) rest (due - nodes_made item)) (sym is) new_bench);
      event = Finds id r;
      one = refl;
      happens = record {
        row = record { row = by.row; there = by.there; number = number; holds = by.found };
        grown = grows;
        rest = ap (λ (x : Core). x.state) is;
      };
      unkept = ap (λ (x : Core). filter (λ row. not row.kept) x.state.leases.rows) is
          ∙ filter_twice (λ row. not row.kept) (λ row. not (has_id id row)) s.leases.rows
          (each_of_contains (λ row. not row.kept ≡ true → not (has_id id row) ≡ true) s.leases.rows (λ row there un.
          not_from_false (has_id id row) (false_from_ne_true (has_id id row) (λ e.
          let one : row ≡ by.row = apart_one s.leases.rows row by.row bench.core.state.apart there by.there (inr (sym (eqb-true id row.lease.id e) ∙ sym number)) in
          true≢false (sym by.kept ∙ (ap (λ (x : Row). x.kept) (sym one) ∙ not-true row.kept un))))));
    }

  pub step : (item : Staged) → IsBench (old_core item) grown leases (item ∷ rest) due → HasApplied item grown new → IsStep item
  step (Begin child) bench applied = root_step child bench applied
  step (Solve id n p facts shown) bench applied = work_step (Solve id n p facts shown) id n refl refl (eq-eqb n n refl) bench bench.ready.0.0 applied
  step (Expand id n children) bench applied = work_step (Expand id n children) id n refl refl (eq-eqb n n refl) bench bench.ready.0.0 applied

-- ---- all steps

applied_push : (events : List Event) (e : Event) → applied_by_all (events ++ e ∷ []) ≡ applied_by_all events ++ applied_by e
applied_push [] e = append-nil (applied_by e)
applied_push (x ∷ events) e = ap (λ (l : List BenchRecord). applied_by x ++ l) (applied_push events e) ∙ sym (append_assoc (applied_by x) (applied_by_all events) (applied_by e))

run_push : (s mid new : CoreState) (events : List Event) (e : Event) → IsRun s events mid → Happens mid e new → IsRun s (events ++ e ∷ []) new
run_push s mid new [] e run happens = (new, (subst (λ (x : CoreState). Happens x e new) run happens, refl))
run_push s mid new (x ∷ events) e run happens = (run.0, (run.1.0, run_push run.0 mid new events e run.1.1 happens))

-- what stands while the staged records are applied one after another
pub record IsApplying (old : Core) (grown : GrownState) (leases : LeaseRows) (waiting : List Staged) (given work due : ℕ) (settings : Settings) : Type 0 where
  pub bench : IsBench (seen grown leases waiting given work settings) grown leases waiting due
  pub events : List Event
  pub in_order : applied_by_all events ++ map record_staged waiting ≡ old.staged
  pub run : IsRun old.state events (seen grown leases waiting given work settings).state
  pub unkept : filter (λ row. not row.kept) (seen grown leases waiting given work settings).state.leases.rows ≡ filter (λ row. not row.kept) old.state.leases.rows
  pub added : grown.records ++ map record_staged waiting ≡ old.records ++ old.staged
  pub counted : given ≡ old.state.given

pub applying_begun : (grown : GrownState) (leases : LeaseRows) (waiting : List Staged) (given work due : ℕ) (settings : Settings) → IsBench (seen grown leases waiting given work settings) grown leases waiting due
    → IsApplying (seen grown leases waiting given work settings) grown leases waiting given work due settings
applying_begun grown leases waiting given work due settings bench = record {
  bench = bench;
  events = [];
  in_order = refl;
  run = refl;
  unkept = refl;
  added = refl;
  counted = refl;
}

pub applying_step : (old : Core) (grown new : GrownState) (leases : LeaseRows) (item : Staged) (rest : List Staged) (given work due : ℕ) (settings : Settings)
    → IsApplying old grown leases (item ∷ rest) given work due settings → HasApplied item grown new
    → IsApplying old new (leases_after item leases) rest given (work + work_made item) (due - nodes_made item) settings
applying_step old grown new leases item rest given work due settings a applied =
    let st = step grown new leases rest given work due settings item a.bench applied in
    let r = record_staged item in
    let qs = map record_staged rest in
    record {
      bench = st.bench;
      events = a.events ++ st.event ∷ [];
      in_order = ap (λ (l : List BenchRecord). l ++ qs) (applied_push a.events st.event ∙ ap (λ (l : List BenchRecord). applied_by_all a.events ++ l) st.one)
          ∙ (append_assoc (applied_by_all a.events) (r ∷ []) qs ∙ a.in_order);
      run = run_push old.state (seen grown leases (item ∷ rest) given work settings).state _ a.events st.event a.run st.happens;
      unkept = st.unkept ∙ a.unkept;
      added = ap (λ (l : List BenchRecord). l ++ qs) applied.added ∙ (append_assoc grown.records (r ∷ []) qs ∙ a.added);
      counted = a.counted;
    }

pub applying_done : (old : Core) (grown : GrownState) (leases : LeaseRows) (given work due : ℕ) (settings : Settings) → IsApplying old grown leases [] given work due settings
    → IsCommitted old (seen grown leases [] given work settings)
applying_done old grown leases given work due settings a =
    let rows = (seen grown leases [] given work settings).state.leases.rows in
    record {
      events = a.events;
      in_order = sym (append-nil (applied_by_all a.events)) ∙ a.in_order;
      run = a.run;
      ended = sym (filter_all (λ row. not row.kept) rows
          (Each-weaker (λ row. row.kept ≡ true → false ≡ true) (λ row. not row.kept ≡ true) (λ row h. not_from_false row.kept (false_from_ne_true row.kept (λ k. false≢true (h k)))) rows a.bench.core.awaited)) ∙ a.unkept;
      records = sym (append-nil grown.records) ∙ a.added;
      staged = refl;
      given = a.counted;
    }

-- what is staged in a bench may be applied, one record after another
pub applies_all : (grown : GrownState) (leases : LeaseRows) (waiting : List Staged) (given work due : ℕ) (settings : Settings) → IsBench (seen grown leases waiting given work settings) grown leases waiting due
    → CanApplyAll (seen grown leases waiting given work settings)
applies_all grown leases [] given work due settings bench = (grown.forest, refl)
applies_all grown leases (item ∷ rest) given work due settings bench =
    let new : GrownState = record { forest = forest_after item grown.forest; records = grown.records ++ record_staged item ∷ []; nodes = grown.nodes; room = grown.room } in
    let applied : HasApplied item grown new = record { forest = refl; added = refl; nodes = omega arith; room = omega arith } in
    let next = applies_all new (leases_after item leases) rest given (work + work_made item) (due - nodes_made item) settings (step grown new leases rest given work due settings item bench applied).bench in
    (next.0, (new.forest, (grows_by grown leases rest given work due settings item new bench applied, next.1)))
