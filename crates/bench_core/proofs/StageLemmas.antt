-- A root staged, and a session begun, leave a bench sound.
use Rattle.std.proofs.Common.{◌≡◌, ◌≤◌, ◌<◌, ◌+◌, ℕ, List, [], ◌∷◌, ◌++◌, map, length, refl, ap, sym, ◌∙◌, subst, arith, append_assoc, length-append}
use Rattle.std.specs.Prelude.{◌^◌, Bool, true, false, ◌||◌, All}
use Rattle.std.specs.List.{list_any, IsDistinct}
use Rattle.std.proofs.lemmas.Bool.{true≢false, false≢true, or_parts}
use Rattle.std.proofs.lemmas.List.Elements.{All-push}
use Rattle.std.proofs.lemmas.Map.Keys.{IsDistinct-push}
use Rattle.draughts_board.specs.Board.{Board, IsLawful, same_board}
use Rattle.draughts_board.specs.Same.{same_board-equivalence}
use Rattle.proof_numbers.specs.declared.leaves.Child.{Child}
use Rattle.proof_tree.specs.Sound.{root_positions}
use Rattle.proof_tree.proofs.SoundForests.{none_any}
use Rattle.certificate_checker.specs.Sight.{IsAtSight}
use Rattle.lease_table.specs.declared.leases.Row.{Row}
use Rattle.lease_table.specs.Rows.{LeaseRows}
use Rattle.bench_records.specs.declared.records.BenchRecord.{BenchRecord}
use Rattle.bench_records.specs.declared.records.BenchRecord.TheVariants as records
use Rattle.bench_core.specs.declared.settings.Settings.{Settings}
use Rattle.bench_core.specs.declared.staged.Staged.{Staged}
use Rattle.bench_core.specs.declared.staged.Staged.TheVariants.{Begin, Solve, Expand}
use Rattle.bench_core.specs.Records.{is_work, is_work_on, begun}
use Rattle.bench_core.specs.Grown.{GrownState}
use Rattle.bench_core.specs.States.{CoreState, IsSoundRow}
use Rattle.bench_core.specs.Cores.{Core, IsSoundCore, HasKeptRow, AreOfOwnNodes, keep_for, with_staged, with_budget, MayStage}
use Rattle.bench_core.specs.Benches.{seen, record_staged, nodes_made, all_nodes_made, IsReady, IsBench}
use Rattle.bench_core.proofs.Lists.{Each-weaker, Each-append}

-- ---- lists with one more at the end

pub any_push : {X : Type 0} (t : X → Bool) (xs : List X) (x : X) → list_any t (xs ++ x ∷ []) ≡ (list_any t xs || t x)
any_push t [] x = by (t x)
  where
    by : (b : Bool) → (b || false) ≡ (false || b)
    by true = refl
    by false = refl
any_push t (y ∷ xs) x = ap (λ b. t y || b) (any_push t xs x) ∙ or_assoc (t y) (list_any t xs) (t x)
  where
    or_assoc : (a b c : Bool) → (a || (b || c)) ≡ ((a || b) || c)
    or_assoc true b c = refl
    or_assoc false b c = refl

or_yes : (a b : Bool) → a ≡ true → (a || b) ≡ true
or_yes true b h = refl
or_yes false b h = absurd (false≢true h)

pub any_pushed : {X : Type 0} (t : X → Bool) (xs : List X) (x : X) → list_any t xs ≡ true → list_any t (xs ++ x ∷ []) ≡ true
any_pushed t xs x h = any_push t xs x ∙ or_yes (list_any t xs) (t x) h

pub begun_push : (rs : List BenchRecord) (r : BenchRecord) → begun (rs ++ r ∷ []) ≡ begun rs ++ begun (r ∷ [])
begun_push [] r = refl
begun_push (records.Begin p ∷ rs) r = ap (λ (l : List Board). p ∷ l) (begun_push rs r)
begun_push (records.Solve n p shown ∷ rs) r = begun_push rs r
begun_push (records.Expand n ∷ rs) r = begun_push rs r

pub own_push : (rs : List BenchRecord) (r : BenchRecord) → AreOfOwnNodes rs → ((n : ℕ) → is_work_on n r ≡ true → list_any (is_work_on n) rs ≡ false) → AreOfOwnNodes (rs ++ r ∷ [])
own_push [] r own apart = ((λ n is. refl), tt)
own_push (x ∷ rs) r own apart = (
  (λ n is. any_push (is_work_on n) rs r ∙ both_false (list_any (is_work_on n) rs) (is_work_on n r) (own.0 n is)
      (not_both (is_work_on n r) (λ t. true≢false (sym is ∙ (or_parts (is_work_on n x) (list_any (is_work_on n) rs) (apart n t)).0)))),
  own_push rs r own.1 (λ n is. (or_parts (is_work_on n x) (list_any (is_work_on n) rs) (apart n is)).1),
)
  where
    both_false : (a b : Bool) → a ≡ false → b ≡ false → (a || b) ≡ false
    both_false true b h k = absurd (false≢true (sym h))
    both_false false b h k = k

    not_both : (b : Bool) → (b ≡ true → ⊥) → b ≡ false
    not_both true h = absurd (h refl)
    not_both false h = refl

same_rows : (p : Board) (rows : List Row) → map (keep_for true (records.Begin p)) rows ≡ rows
same_rows p [] = refl
same_rows p (row ∷ rows) = ap (λ (l : List Row). row ∷ l) (same_rows p rows)

pub map_push : (waiting : List Staged) (item : Staged) → map record_staged (waiting ++ item ∷ []) ≡ map record_staged waiting ++ record_staged item ∷ []
map_push [] item = refl
map_push (x ∷ waiting) item = ap (λ (l : List BenchRecord). record_staged x ∷ l) (map_push waiting item)

pub made_push : (waiting : List Staged) (item : Staged) → all_nodes_made (waiting ++ item ∷ []) ≡ all_nodes_made waiting + nodes_made item
made_push [] item = omega arith
made_push (x ∷ waiting) item = let rest = made_push waiting item in omega (arith, rest)

-- ---- a root

abbrev pub staged_more : Core → BenchRecord → Core
staged_more core r = record core { staged = core.staged ++ r ∷ [] }

pub root_staged_is : (core : Core) (p : Board) → with_staged core (records.Begin p) ≡ staged_more core (records.Begin p)
root_staged_is core p = ap (λ (rows : List Row). record core { state = record core.state { leases = record core.state.leases { rows = rows } }; staged = core.staged ++ records.Begin p ∷ [] }) (same_rows p core.state.leases.rows)

pub root_keeps : (core : Core) (p : Board) → MayStage core (records.Begin p) → IsSoundCore core → IsSoundCore (staged_more core (records.Begin p))
root_keeps core p may sound =
    let r = records.Begin p in
    let new = staged_more core r in
    let all = root_positions core.state.forest ++ begun core.staged in
    let is : root_positions core.state.forest ++ begun (core.staged ++ r ∷ []) ≡ all ++ p ∷ [] =
    ap (λ (l : List Board). root_positions core.state.forest ++ l) (begun_push core.staged r) ∙ sym (append_assoc (root_positions core.state.forest) (begun core.staged) (p ∷ [])) in
    record {
      state = sound.state;
      kept = Each-append (λ q. is_work q ≡ true → HasKeptRow new q) core.staged (r ∷ [])
          (Each-weaker (λ q. is_work q ≡ true → HasKeptRow core q) (λ q. is_work q ≡ true → HasKeptRow new q)
          (λ q h work. let by = h work in record { row = by.row; there = by.there; kept = by.kept; found = record { own = by.found.own; lawful = by.found.lawful; found = by.found.found } }) core.staged sound.kept)
          ((λ work. absurd (false≢true work)), tt);
      awaited = Each-weaker (λ row. row.kept ≡ true → list_any (is_work_on row.lease.node) core.staged ≡ true) (λ row. row.kept ≡ true → list_any (is_work_on row.lease.node) (core.staged ++ r ∷ []) ≡ true)
          (λ row h k. any_pushed (is_work_on row.lease.node) core.staged r (h k)) core.state.leases.rows sound.awaited;
      own = own_push core.staged r sound.own (λ n is. absurd (false≢true is));
      lawful = subst (All IsLawful) (sym (begun_push core.staged r)) (All-push IsLawful (begun core.staged) p sound.lawful may.lawful);
      distinct = subst (IsDistinct same_board) (sym is) (IsDistinct-push same_board-equivalence all p sound.distinct (none_any all p may.absent));
      room = subst (λ (l : List Board). length l ≤ 65536) (sym is) (let more : length (all ++ p ∷ []) ≡ length all + 1 = length-append all (p ∷ []) in omega (arith, more, may.room));
    }

module _ (grown new : GrownState) (leases : LeaseRows) (waiting : List Staged) (given work due : ℕ) (settings : Settings) (forest : new.forest ≡ grown.forest) (recs : new.records ≡ grown.records) where
  pub same_seen : (items : List Staged) → seen new leases items given work settings ≡ seen grown leases items given work settings
  same_seen items = λ i. record {
    state = record (seen grown leases items given work settings).state { forest = forest i };
    records = recs i;
    staged = map record_staged items;
  }

  -- room that was made changes nothing
  pub bench_roomy : (items : List Staged) → items ≡ waiting → IsBench (seen grown leases waiting given work settings) grown leases waiting due → grown.nodes ≤ new.nodes → grown.room ≤ new.room
      → IsBench (seen new leases items given work settings) new leases items due
  bench_roomy items is bench nodes room =
      subst (λ (l : List Staged). IsBench (seen new leases l given work settings) new leases l due) (sym is)
      (subst (λ (x : Core). IsBench x new leases waiting due) (sym (same_seen waiting))
      (record {
        table = bench.table;
        few = bench.few;
        core = bench.core;
        numbers = bench.numbers;
        apart = bench.apart;
        ready = bench.ready;
        made = bench.made;
        nodes = (let h = bench.nodes in omega (arith, h, nodes));
        room = (let h = bench.room in omega (arith, h, room));
        countable = bench.countable;
      }))

  pub root_seen : (child : Child) (items : List Staged) → items ≡ waiting ++ Begin child ∷ [] → seen new leases items given work settings ≡ with_staged (seen grown leases waiting given work settings) (records.Begin child.position)
  root_seen child items is =
      same_seen items
      ∙ (ap (λ (l : List Staged). seen grown leases l given work settings) is
      ∙ (ap (λ (l : List BenchRecord). record (seen grown leases waiting given work settings) { staged = l }) (map_push waiting (Begin child))
      ∙ sym (root_staged_is (seen grown leases waiting given work settings) child.position)))

  pub bench_begun : (child : Child) (items : List Staged) → items ≡ waiting ++ Begin child ∷ [] → IsBench (seen grown leases waiting given work settings) grown leases waiting due
      → IsAtSight settings.pieces child → MayStage (seen grown leases waiting given work settings) (records.Begin child.position) → due + 1 ≤ new.nodes → length waiting + 1 ≤ new.room → work + (length waiting + 1) < 2 ^ 64
      → IsBench (seen new leases items given work settings) new leases items (due + 1)
  bench_begun child items is bench sight may nodes room count =
      let old = seen grown leases waiting given work settings in
      let staged_is : seen new leases items given work settings ≡ staged_more old (records.Begin child.position) = root_seen child items is ∙ root_staged_is old child.position in
      subst (λ (x : Core). IsBench x new leases items (due + 1)) (sym staged_is)
      (subst (λ (l : List Staged). IsBench (staged_more old (records.Begin child.position)) new leases l (due + 1)) (sym is)
      (record {
        table = bench.table;
        few = bench.few;
        core = root_keeps old child.position may bench.core;
        numbers = bench.numbers;
        apart = bench.apart;
        ready = Each-append (IsReady old.state) waiting (Begin child ∷ []) bench.ready (sight, tt);
        made = made_push waiting (Begin child) ∙ ap (λ n. n + 1) bench.made;
        nodes = nodes;
        room = (let more : length (waiting ++ Begin child ∷ []) ≡ length waiting + 1 = length-append waiting _ in omega (arith, more, room));
        countable = (let more : length (waiting ++ Begin child ∷ []) ≡ length waiting + 1 = length-append waiting _ in omega (arith, more, count));
      }))

-- ---- a session begins

budget_row : (s : CoreState) (b w : ℕ) (row : Row) → IsSoundRow s row → IsSoundRow (record s { work = w; settings = record s.settings { budget = b } }) row
budget_row s b w row h = record { leaf = h.leaf; lives = h.lives; given = h.given; depth = h.depth; pieces = h.pieces }

budget_ready : (s : CoreState) (b w : ℕ) (item : Staged) → IsReady s item → IsReady (record s { work = w; settings = record s.settings { budget = b } }) item
budget_ready s b w (Begin child) h = h
budget_ready s b w (Solve lease node position facts shown) h = h
budget_ready s b w (Expand lease node children) h = h

pub budget_keeps : (core : Core) (b : ℕ) → IsSoundCore core → IsSoundCore (with_budget b core)
budget_keeps core b sound =
    let new = with_budget b core in
    let by = sound.state in
    record {
      state = record {
        lasts = by.lasts;
        forest = by.forest;
        numbered = by.numbered;
        sight = by.sight;
        certified = by.certified;
        named = by.named;
        apart = by.apart;
        rows = Each-weaker (IsSoundRow core.state) (IsSoundRow new.state) (λ row h. budget_row core.state b 0 row h) core.state.leases.rows by.rows;
      };
      kept = Each-weaker (λ q. is_work q ≡ true → HasKeptRow core q) (λ q. is_work q ≡ true → HasKeptRow new q)
          (λ q h work. let k = h work in record { row = k.row; there = k.there; kept = k.kept; found = record { own = k.found.own; lawful = k.found.lawful; found = k.found.found } }) core.staged sound.kept;
      awaited = sound.awaited;
      own = sound.own;
      lawful = sound.lawful;
      distinct = sound.distinct;
      room = sound.room;
    }

pub bench_budget : (core : Core) (grown : GrownState) (leases : LeaseRows) (waiting : List Staged) (due b : ℕ) → IsBench core grown leases waiting due → IsBench (with_budget b core) grown leases waiting due
bench_budget core grown leases waiting due b bench = record {
  table = bench.table;
  few = bench.few;
  core = budget_keeps core b bench.core;
  numbers = bench.numbers;
  apart = bench.apart;
  ready = Each-weaker (IsReady core.state) (IsReady (with_budget b core).state) (λ item h. budget_ready core.state b 0 item h) waiting bench.ready;
  made = bench.made;
  nodes = bench.nodes;
  room = bench.room;
  countable = (let h = bench.countable in omega (arith, h));
}
