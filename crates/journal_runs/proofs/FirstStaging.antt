-- What is staged and applied in a first pass, one result after another.
use Rattle.std.proofs.Common.{◌≡◌, ◌≤◌, ◌<◌, ◌+◌, ℕ, suc, Bool, true, false, cond, eqb, List, [], ◌∷◌, ◌++◌, length, map, is_some, IsSome, refl, ap, sym, ◌∙◌, subst, inl, inr, ⊎_elim, arith, append_assoc, append-nil, length-append}
use Rattle.std.specs.Prelude.{◌⊎◌, ◌==◌, ◌||◌, not, filter, Contains, Result, Ok, Err, IfOk, OnOk}
use Rattle.std.specs.List.{list_any, AllByRecursion as Each}
use Rattle.std.proofs.lemmas.Bool.{false≢true}
use Rattle.std.proofs.lemmas.List.{map-append}
use Rattle.std.proofs.lemmas.List.Elements.{filter-append}
use Rattle.certificate_checker.specs.declared.outcomes.Outcome.{Outcome}
use Rattle.certificate_checker.specs.declared.outcomes.Outcome.TheVariants.{Solved, Exhausted}
use Rattle.certificate_checker.specs.Told.{facts_shown}
use Rattle.proof_numbers.specs.Known.{known_value}
use Rattle.proof_tree.specs.Forest.{Forest, Node, nodes, value_of}
use Rattle.lease_table.specs.declared.leases.Lease.{Lease}
use Rattle.lease_table.specs.declared.leases.Row.{Row}
use Rattle.lease_table.specs.Rows.{is_of}
use Rattle.bench_records.specs.declared.records.BenchRecord.{BenchRecord}
use Rattle.bench_records.specs.declared.records.BenchRecord.TheVariants as records
use Rattle.bench_core.specs.Answers.{unkept}
use Rattle.bench_core.specs.Records.{is_work_on, begun}
use Rattle.bench_core.specs.States.{CoreState, SessionSettings, IsRun, IsSoundState, AreRowsApart, with_lease_rows}
use Rattle.bench_core.specs.Cores.{Core, IsCommitted, applied_by_all, keep_for, record_of, with_staged}
use Rattle.bench_core.proofs.EventLaws.{events_keep_sound}
use Rattle.bench_core.proofs.Lists.{Contains-here, Contains-there, Each-append, Each-filter, Each-map, Each-weaker, Each-none, none_filter}
use Rattle.bench_core.proofs.RowsApart.{other_way}
use Rattle.tree_manager.proofs.CoreLemmas.{IsGrownState, run_grown}
use Rattle.worker_gate.specs.Work.{is_value_told}
use Rattle.journal_runs.specs.Ample.{IsSettledOrFresh, unsettled_roots}
use Rattle.journal_runs.specs.FirstPass.{Applies, AreAllLeased, IsAllLeased, IsPassing, IsPassingWith, IsSearched, IsUnsettledRoot}
use Rattle.journal_runs.proofs.AmpleLines.{keep_lease, kept_sound}
use Rattle.journal_runs.proofs.AmpleRoots.{left, left_is}
use Rattle.journal_runs.proofs.AttachedLines.{begun_append}
use Rattle.journal_runs.proofs.FirstReached.{IsDue, all_reached}
use Rattle.journal_runs.proofs.FirstRoots.{AreOnce, IsSettledOrOf, has, neither}
use Rattle.journal_runs.proofs.FirstRuns.{AreDue, AreReached, AreSettledBy, TellsValue, run_due, run_settled, work_nodes}
use Rattle.journal_runs.proofs.FirstStates.{by_nodes, has_node, leased_nodes, names_nodes, once_leased}

-- ---- rows that are kept, and rows that are not

abbrev pub kept_rows : List Row → List Row
kept_rows rows = filter (λ row. row.kept) rows

abbrev pub unkept_rows : List Row → List Row
unkept_rows rows = filter (λ row. not row.kept) rows

abbrev leases_of : List Row → List Lease
leases_of rows = map (λ (row : Row). row.lease) rows

none_kept : (leases : List Lease) → kept_rows (map unkept leases) ≡ []
none_kept [] = refl
none_kept (l ∷ leases) = none_kept leases

all_unkept : (leases : List Lease) → unkept_rows (map unkept leases) ≡ map unkept leases
all_unkept [] = refl
all_unkept (l ∷ leases) = ap (λ (rows : List Row). unkept l ∷ rows) (all_unkept leases)

-- each row is one or the other
both_rows : (rows : List Row) → length (kept_rows rows) + length (unkept_rows rows) ≡ length rows
both_rows [] = refl
both_rows (row ∷ rows) = by row.kept (both_rows rows)
  where
    by : (b : Bool) → length (kept_rows rows) + length (unkept_rows rows) ≡ length rows
        → length (cond b (row ∷ kept_rows rows) (kept_rows rows)) + length (cond (not b) (row ∷ unkept_rows rows) (unkept_rows rows)) ≡ suc (length rows)
    by true e = omega (arith, e)
    by false e = omega (arith, e)

only_kept : (rows : List Row) → unkept_rows rows ≡ [] → kept_rows rows ≡ rows
only_kept [] none = refl
only_kept (row ∷ rows) none = by row.kept none (only_kept rows)
  where
    by : (b : Bool) → cond (not b) (row ∷ unkept_rows rows) (unkept_rows rows) ≡ [] → (unkept_rows rows ≡ [] → kept_rows rows ≡ rows)
        → cond b (row ∷ kept_rows rows) (kept_rows rows) ≡ row ∷ rows
    by true none rest = ap (λ (more : List Row). row ∷ more) (rest none)
    by false none rest = absurd (cc none)

only_unkept : (rows : List Row) → kept_rows rows ≡ [] → unkept_rows rows ≡ rows
only_unkept [] none = refl
only_unkept (row ∷ rows) none = by row.kept none (only_unkept rows)
  where
    by : (b : Bool) → cond b (row ∷ kept_rows rows) (kept_rows rows) ≡ [] → (kept_rows rows ≡ [] → unkept_rows rows ≡ rows)
        → cond (not b) (row ∷ unkept_rows rows) (unkept_rows rows) ≡ row ∷ rows
    by true none rest = absurd (cc none)
    by false none rest = ap (λ (more : List Row). row ∷ more) (rest none)

-- no kept row is of the node of one that is not kept
kept_apart : (rows : List Row) → AreRowsApart rows → Each (λ row. has row.lease.node (leased_nodes (kept_rows rows)) ≡ false) (unkept_rows rows)
kept_apart [] apart = tt
kept_apart (row ∷ rows) apart = by row.kept (kept_apart rows apart.1.1)
  where
    others : Each (λ other. (other.lease.node == row.lease.node) ≡ false) (unkept_rows rows)
    others =
        Each-filter (λ other. (row.lease.node == other.lease.node) ≡ false) (λ other. (other.lease.node == row.lease.node) ≡ false) (λ other. not other.kept)
        (λ other differs passes. other_way row.lease.node other.lease.node differs) rows (Each-none (is_of row.lease.node) rows apart.0)

    none : has row.lease.node (leased_nodes (kept_rows rows)) ≡ false
    none = sym (has_node row.lease.node (kept_rows rows)) ∙ none_filter (is_of row.lease.node) (λ other. other.kept) rows apart.0

    one_more : (others : List Row) → Each (λ other. (other.lease.node == row.lease.node) ≡ false) others → Each (λ other. has other.lease.node (leased_nodes (kept_rows rows)) ≡ false) others
        → Each (λ other. has other.lease.node (row.lease.node ∷ leased_nodes (kept_rows rows)) ≡ false) others
    one_more [] differ rest = tt
    one_more (other ∷ others) differ rest = (λ i. differ.0 i || rest.0 i, one_more others differ.1 rest.1)

    by : (b : Bool) → Each (λ other. has other.lease.node (leased_nodes (kept_rows rows)) ≡ false) (unkept_rows rows)
        → Each (λ other. has other.lease.node (leased_nodes (cond b (row ∷ kept_rows rows) (kept_rows rows))) ≡ false) (cond (not b) (row ∷ unkept_rows rows) (unkept_rows rows))
    by true rest = one_more (unkept_rows rows) others rest
    by false rest = (none, rest)

once_kept : (rows : List Row) → AreRowsApart rows → AreOnce (leased_nodes (kept_rows rows))
once_kept [] apart = tt
once_kept (row ∷ rows) apart = by row.kept (once_kept rows apart.1.1)
  where
    by : (b : Bool) → AreOnce (leased_nodes (kept_rows rows)) → AreOnce (leased_nodes (cond b (row ∷ kept_rows rows) (kept_rows rows)))
    by true rest = (sym (has_node row.lease.node (kept_rows rows)) ∙ none_filter (is_of row.lease.node) (λ other. other.kept) rows apart.0, rest)
    by false rest = rest

-- ---- the row of one lease

abbrev kept : Lease → Row
kept l = record { lease = l; kept = true }

is_its : (l : Lease) (outcome : Outcome) (n : ℕ) → is_work_on n (record_of l outcome) ≡ (l.node == n)
is_its l (Solved found) n = refl
is_its l (Exhausted e) n = refl

module _ (l : Lease) (outcome : Outcome) where
  abbrev r : BenchRecord
  r = record_of l outcome

  keeps_other : (row : Row) → (l.node == row.lease.node) ≡ false → keep_for true r row ≡ row
  keeps_other row differs = ap (λ b. cond b (record row { kept = true }) row) (is_its l outcome row.lease.node ∙ differs)

  keeps_own : keep_for true r (unkept l) ≡ kept l
  keeps_own = ap (λ b. cond b (kept l) (unkept l)) (is_its l outcome l.node ∙ same l.node)
    where
      same : (n : ℕ) → (n == n) ≡ true
      same n = grind arith

  keeps_others : (rows : List Row) → Each (λ row. (l.node == row.lease.node) ≡ false) rows → map (keep_for true r) rows ≡ rows
  keeps_others [] each = refl
  keeps_others (row ∷ rows) each = λ i. keeps_other row each.0 i ∷ keeps_others rows each.1 i

  keeps_one : (front rest : List Row) → AreRowsApart (front ++ unkept l ∷ rest) → map (keep_for true r) (front ++ unkept l ∷ rest) ≡ front ++ kept l ∷ rest
  keeps_one [] rest apart = λ i. keeps_own i ∷ keeps_others rest (Each-none (is_of l.node) rest apart.0) i
  keeps_one (row ∷ front) rest apart = λ i. keeps_other row (other_way row.lease.node l.node (first front apart.0)) i ∷ keeps_one front rest apart.1.1 i
    where
      first : (front : List Row) → list_any (is_of row.lease.node) (front ++ unkept l ∷ rest) ≡ false → (row.lease.node == l.node) ≡ false
      first [] none = (neither (row.lease.node == l.node) (list_any (is_of row.lease.node) rest) none).0
      first (other ∷ front) none = first front (neither (row.lease.node == other.lease.node) (list_any (is_of row.lease.node) (front ++ unkept l ∷ rest)) none).1

  its_work : work_nodes (r ∷ []) ≡ l.node ∷ []
  its_work = by outcome
    where
      by : (o : Outcome) → work_nodes (record_of l o ∷ []) ≡ l.node ∷ []
      by (Solved found) = refl
      by (Exhausted e) = refl

  its_begun : begun (r ∷ []) ≡ []
  its_begun = by outcome
    where
      by : (o : Outcome) → begun (record_of l o ∷ []) ≡ []
      by (Solved found) = refl
      by (Exhausted e) = refl

  -- of an outcome that tells a value, so does the record
  pub tells_value : is_value_told outcome ≡ true → TellsValue r
  tells_value told = by outcome told
    where
      by : (o : Outcome) → is_value_told o ≡ true → TellsValue (record_of l o)
      by (Solved found) told = told
      by (Exhausted e) told = absurd (false≢true told)

work_more : (rs qs : List BenchRecord) → work_nodes (rs ++ qs) ≡ work_nodes rs ++ work_nodes qs
work_more [] qs = refl
work_more (records.Begin p ∷ rs) qs = work_more rs qs
work_more (records.Solve n p shown ∷ rs) qs = ap (λ (ns : List ℕ). n ∷ ns) (work_more rs qs)
work_more (records.Expand n ∷ rs) qs = ap (λ (ns : List ℕ). n ∷ ns) (work_more rs qs)

rows_lease : (f : Row → Row) → ((row : Row) → (f row).lease ≡ row.lease) → (rows : List Row) → leases_of (map f rows) ≡ leases_of rows
rows_lease f same [] = refl
rows_lease f same (row ∷ rows) = λ i. same row i ∷ rows_lease f same rows i

same_nodes : (rows : List Row) → leased_nodes rows ≡ map (λ (l : Lease). l.node) (leases_of rows)
same_nodes [] = refl
same_nodes (row ∷ rows) = ap (λ (ns : List ℕ). row.lease.node ∷ ns) (same_nodes rows)

-- what holds of the leases of rows holds of rows with the same leases
same_each : (P : Lease → Type 0) (xs ys : List Row) → leases_of ys ≡ leases_of xs → Each (λ row. P row.lease) xs → Each (λ row. P row.lease) ys
same_each P xs ys same each = back ys (subst (Each P) (sym same) (forth xs each))
  where
    forth : (rows : List Row) → Each (λ row. P row.lease) rows → Each P (leases_of rows)
    forth [] each = tt
    forth (row ∷ rows) each = (each.0, forth rows each.1)

    back : (rows : List Row) → Each P (leases_of rows) → Each (λ row. P row.lease) rows
    back [] each = tt
    back (row ∷ rows) each = (each.0, back rows each.1)

-- ---- so far

-- Of the core since nothing was staged: the rows in front were looked at, of which those that are not
-- kept wait, and those that are left were not. What is staged is of the rows that are kept, in order.
pub record IsStaging (old core : Core) (front : List Row) (waiting rest : List Lease) : Type 0 where
  pub sound : IsSoundState core.state
  pub state : core.state ≡ with_lease_rows old.state core.state.leases.rows
  pub rows : core.state.leases.rows ≡ front ++ map unkept rest
  pub leases : leases_of core.state.leases.rows ≡ leases_of old.state.leases.rows
  pub waits : unkept_rows front ≡ map unkept waiting
  pub works : work_nodes core.staged ≡ leased_nodes (kept_rows front)
  pub rootless : begun core.staged ≡ []

pub starts_staging : (core : Core) (waiting rest : List Lease) → IsSoundState core.state → core.staged ≡ [] → core.state.leases.rows ≡ map unkept (waiting ++ rest) → IsStaging core core (map unkept waiting) waiting rest
starts_staging core waiting rest sound none rows = record {
  sound = sound;
  state = refl;
  rows = rows ∙ map-append unkept waiting rest;
  leases = refl;
  waits = all_unkept waiting;
  works = ap work_nodes none ∙ ap leased_nodes (sym (none_kept waiting));
  rootless = ap begun none;
}

module _ (old core : Core) (front : List Row) (waiting : List Lease) (l : Lease) (rest : List Lease) (h : IsStaging old core front waiting (l ∷ rest)) where
  pub lease_there : Contains core.state.leases.rows (unkept l)
  lease_there = subst (λ (rows : List Row). Contains rows (unkept l)) (sym h.rows) (behind front)
    where
      behind : (front : List Row) → Contains (front ++ unkept l ∷ map unkept rest) (unkept l)
      behind [] = Contains-here (unkept l) (map unkept rest)
      behind (row ∷ front) = Contains-there row (unkept l) (front ++ unkept l ∷ map unkept rest) (behind front)

  -- it waits
  pub then_waits : IsStaging old core (front ++ unkept l ∷ []) (waiting ++ l ∷ []) rest
  then_waits = record {
    sound = h.sound;
    state = h.state;
    rows = h.rows ∙ sym (append_assoc front (unkept l ∷ []) (map unkept rest));
    leases = h.leases;
    waits = filter-append (λ row. not row.kept) front (unkept l ∷ []) ∙ (ap (λ (rows : List Row). rows ++ unkept l ∷ []) h.waits ∙ sym (map-append unkept waiting (l ∷ [])));
    works = h.works ∙ ap leased_nodes (sym (filter-append (λ row. row.kept) front (unkept l ∷ []) ∙ append-nil (kept_rows front)));
    rootless = h.rootless;
  }

  -- it is staged
  pub then_staged : (outcome : Outcome) (new : Core) → new ≡ with_staged core (record_of l outcome) → IsStaging old new (front ++ kept l ∷ []) waiting rest
  then_staged outcome new is =
      let r : BenchRecord = record_of l outcome in
      let apart : AreRowsApart (front ++ unkept l ∷ map unkept rest) = subst AreRowsApart h.rows h.sound.1.apart in
      let rows : map (keep_for true r) core.state.leases.rows ≡ front ++ kept l ∷ map unkept rest = ap (map (keep_for true r)) h.rows ∙ keeps_one l outcome front (map unkept rest) apart in
      subst (λ (x : Core). IsStaging old x (front ++ kept l ∷ []) waiting rest) (sym is)
      (record {
        sound = kept_sound core.state r h.sound;
        state = ap (λ (s : CoreState). with_lease_rows s (map (keep_for true r) core.state.leases.rows)) h.state;
        rows = rows ∙ sym (append_assoc front (kept l ∷ []) (map unkept rest));
        leases = rows_lease (keep_for true r) (λ row. keep_lease r row) core.state.leases.rows ∙ h.leases;
        waits = filter-append (λ row. not row.kept) front (kept l ∷ []) ∙ (append-nil (unkept_rows front) ∙ h.waits);
        works = work_more core.staged (r ∷ [])
            ∙ ((λ i. h.works i ++ its_work l outcome i)
            ∙ (sym (map-append (λ (row : Row). row.lease.node) (kept_rows front) (kept l ∷ [])) ∙ ap leased_nodes (sym (filter-append (λ row. row.kept) front (kept l ∷ [])))));
        rootless = begun_append core.staged (r ∷ []) ∙ (λ i. h.rootless i ++ its_begun l outcome i);
      })

-- ---- all results are staged, and applied

count_works : (rs : List BenchRecord) → Each TellsValue rs → length (work_nodes rs) ≡ length rs
count_works [] told = refl
count_works (records.Begin p ∷ rs) told = absurd told.0
count_works (records.Solve n p shown ∷ rs) told = ap suc (count_works rs told.1)
count_works (records.Expand n ∷ rs) told = absurd told.0

length_named : (rows : List Row) → length (leased_nodes rows) ≡ length rows
length_named [] = refl
length_named (row ∷ rows) = ap suc (length_named rows)

length_leases : (rows : List Row) → length (leases_of rows) ≡ length rows
length_leases [] = refl
length_leases (row ∷ rows) = ap suc (length_leases rows)

each_names : (t new : Forest) (ns : List ℕ) (rows : List Row) → ((m : ℕ) → has m ns ≡ false → IsUnsettledRoot m t → IsUnsettledRoot m new)
    → Each (λ row. has row.lease.node ns ≡ false) rows → Each (λ row. IsUnsettledRoot row.lease.node t) rows → Each (λ row. IsUnsettledRoot row.lease.node new) rows
each_names t new ns [] others none names = tt
each_names t new ns (row ∷ rows) others none names = (others row.lease.node none.0 names.0, each_names t new ns rows others none.1 names.1)

module _ (old core : Core) (front : List Row) (waiting : List Lease) (h : IsStaging old core front waiting []) where
  front_is : core.state.leases.rows ≡ front
  front_is = h.rows ∙ append-nil front

  abbrev rows : List Row
  rows = core.state.leases.rows

  waits_are : unkept_rows rows ≡ map unkept waiting
  waits_are = ap unkept_rows front_is ∙ h.waits

  works_are : work_nodes core.staged ≡ leased_nodes (kept_rows rows)
  works_are = h.works ∙ ap (λ (xs : List Row). leased_nodes (kept_rows xs)) (sym front_is)

  module _ (rest : ℕ) (passing : IsPassing old.state rest) where
    -- the pass goes on as before while results are staged
    still_passing : IsPassing core.state rest
    still_passing =
        let same : length rows ≡ length old.state.leases.rows = sym (length_leases rows) ∙ (ap length h.leases ∙ length_leases old.state.leases.rows) in
        let few = passing.few in
        let lives = same_each (λ lease. old.state.given + rest < lease.id + old.state.leases.limit) old.state.leases.rows rows h.leases passing.lives in
        let names = same_each (λ lease. IsUnsettledRoot lease.node old.state.forest) old.state.leases.rows rows h.leases passing.rows in
        let few_now : unsettled_roots old.state.forest ≤ length rows + rest = omega (arith, few, same) in
        record {
          sound = h.sound;
          fresh = subst (λ (s : CoreState). Each IsSettledOrFresh (nodes s.forest)) (sym h.state) passing.fresh;
          rows = subst (λ (s : CoreState). Each (λ row. IsUnsettledRoot row.lease.node s.forest) rows) (sym h.state) names;
          enough = subst (λ (s : CoreState). unsettled_roots s.forest + s.work ≤ s.settings.budget) (sym h.state) passing.enough;
          few = subst (λ (s : CoreState). unsettled_roots s.forest ≤ length rows + rest) (sym h.state) few_now;
          lives = subst (λ (s : CoreState). Each (λ row. s.given + rest < row.lease.id + s.leases.limit) rows) (sym h.state) lives;
          lasts = subst (λ (s : CoreState). rest ≤ s.leases.limit) (sym h.state) passing.lasts;
        }

    module _ (told : Each TellsValue core.staged) (new : Core) where
      rows_stay : core.staged ≡ [] → unkept_rows rows ≡ rows
      rows_stay none = only_unkept rows (no_rows (kept_rows rows) (sym works_are ∙ ap work_nodes none))
        where
          no_rows : (xs : List Row) → leased_nodes xs ≡ [] → xs ≡ []
          no_rows [] e = refl
          no_rows (x ∷ xs) e = absurd (cc e)

      nothing_staged : core.staged ≡ [] → new ≡ core → IsPassingWith new waiting rest
      nothing_staged none is =
          subst (λ (x : Core). IsPassingWith x waiting rest) (sym is)
          (record { passing = still_passing; none_staged = none; rows_are = sym (rows_stay none) ∙ waits_are })

      applied : IsCommitted core new → IsPassingWith new waiting rest
      applied committed =
          let s = core.state in
          let now = still_passing in
          let in_order : applied_by_all committed.events ≡ core.staged = committed.in_order in
          let nodes_are : work_nodes core.staged ≡ leased_nodes (kept_rows rows) = works_are in
          let grown : IsGrownState s new.state (applied_by_all committed.events) = run_grown s new.state committed.events committed.run in
          let once : AreOnce (work_nodes core.staged) = subst AreOnce (sym nodes_are) (once_kept rows h.sound.1.apart) in
          let roots : Each (λ n. IsUnsettledRoot n s.forest) (work_nodes core.staged) =
          subst (Each (λ n. IsUnsettledRoot n s.forest)) (sym nodes_are)
          (names_nodes s.forest (kept_rows rows) (Each-filter (λ row. IsUnsettledRoot row.lease.node s.forest) (λ row. IsUnsettledRoot row.lease.node s.forest) (λ row. row.kept) (λ row names passes. names) rows now.rows)) in
          let done : AreSettledBy core.staged s new.state =
          subst (λ (rs : List BenchRecord). AreSettledBy rs s new.state) in_order
          (run_settled s new.state committed.events h.sound committed.run (subst (Each TellsValue) (sym in_order) told) now.fresh
          (subst (λ (rs : List BenchRecord). AreOnce (work_nodes rs)) (sym in_order) once)
          (subst (λ (rs : List BenchRecord). Each (λ n. IsUnsettledRoot n s.forest) (work_nodes rs)) (sym in_order) roots)) in
          let left_rows : new.state.leases.rows ≡ unkept_rows rows = committed.ended in
          let names : Each (λ row. IsUnsettledRoot row.lease.node new.state.forest) (unkept_rows rows) =
          each_names s.forest new.state.forest (work_nodes core.staged) (unkept_rows rows) done.others
          (subst (λ (ns : List ℕ). Each (λ row. has row.lease.node ns ≡ false) (unkept_rows rows)) (sym nodes_are) (kept_apart rows h.sound.1.apart))
          (Each-filter (λ row. IsUnsettledRoot row.lease.node s.forest) (λ row. IsUnsettledRoot row.lease.node s.forest) (λ row. not row.kept) (λ row names passes. names) rows now.rows) in
          let lives : Each (λ row. s.given + rest < row.lease.id + s.leases.limit) (unkept_rows rows) =
          Each-filter (λ row. s.given + rest < row.lease.id + s.leases.limit) (λ row. s.given + rest < row.lease.id + s.leases.limit) (λ row. not row.kept) (λ row lives passes. lives) rows now.lives in
          let counted : length core.staged ≡ length (kept_rows rows) = sym (count_works core.staged told) ∙ (ap length nodes_are ∙ length_named (kept_rows rows)) in
          let both = both_rows rows in
          let few = now.few in
          let enough = now.enough in
          let fewer = done.fewer in
          let more = done.more in
          let before = left_is s.forest in
          let after = left_is new.state.forest in
          let few_now : unsettled_roots new.state.forest ≤ length (unkept_rows rows) + rest = omega (arith, few, fewer, counted, both, before, after) in
          let enough_now : unsettled_roots new.state.forest + new.state.work ≤ s.settings.budget = omega (arith, enough, fewer, more, before, after) in
          record {
            passing = record {
              sound = done.sound;
              fresh = done.fresh;
              rows = subst (Each (λ row. IsUnsettledRoot row.lease.node new.state.forest)) (sym left_rows) names;
              enough = subst (λ (t : SessionSettings). unsettled_roots new.state.forest + new.state.work ≤ t.budget) (sym done.settings) enough_now;
              few = subst (λ (xs : List Row). unsettled_roots new.state.forest ≤ length xs + rest) (sym left_rows) few_now;
              lives = subst (λ (n : ℕ). Each (λ row. n + rest < row.lease.id + new.state.leases.limit) new.state.leases.rows) (sym committed.given)
                  (subst (λ (n : ℕ). Each (λ row. s.given + rest < row.lease.id + n) new.state.leases.rows) (sym grown.limit)
                  (subst (Each (λ row. s.given + rest < row.lease.id + s.leases.limit)) (sym left_rows) lives));
              lasts = subst (λ (n : ℕ). rest ≤ n) (sym grown.limit) now.lasts;
            };
            none_staged = committed.staged;
            rows_are = left_rows ∙ waits_are;
          }

      pub values_applied : Applies core new → IsPassingWith new waiting rest
      values_applied = ⊎_elim applied (λ none. nothing_staged none.0 none.1)

-- ---- each root is leased, and the result of each is applied

module _ (old core new : Core) (front : List Row) (h : IsStaging old core front [] []) (all : AreAllLeased old.state) (applies : Applies core new) where
  all_work : work_nodes core.staged ≡ leased_nodes old.state.leases.rows
  all_work =
      works_are old core front [] h
      ∙ (ap leased_nodes (only_kept core.state.leases.rows (waits_are old core front [] h)) ∙ (same_nodes core.state.leases.rows ∙ (ap (map (λ (l : Lease). l.node)) h.leases ∙ sym (same_nodes old.state.leases.rows))))

  due : AreDue core.state.settings (work_nodes core.staged) core.state.forest
  due =
      let k = core.state.settings.pieces in
      let depth = core.state.settings.depth in
      let named = subst (λ (ns : List ℕ). Each (IsSettledOrOf ns) (nodes old.state.forest)) (sym all_work) (by_nodes old.state all) in
      let here : Each (IsSettledOrOf (work_nodes core.staged)) (nodes core.state.forest) = subst (λ (s : CoreState). Each (IsSettledOrOf (work_nodes core.staged)) (nodes s.forest)) (sym h.state) named in
      Each-weaker (IsSettledOrOf (work_nodes core.staged)) (IsDue k depth (work_nodes core.staged)) (λ root. ⊎_elim (λ settled. inl (λ shows. settled)) (λ of. inr of)) (nodes core.state.forest) here

  searched_by : new.staged ≡ [] → IsSoundState new.state → AreDue core.state.settings [] new.state.forest → new.state.settings ≡ core.state.settings → IsSearched new
  searched_by none sound nothing_due same = record {
    sound = sound;
    rootless = ap begun none;
    reached = subst (λ (t : SessionSettings). AreReached t new.state.forest) (sym same) (all_reached core.state.settings.pieces core.state.settings.depth (nodes new.state.forest) nothing_due);
  }

  pub all_searched : IsSearched new
  all_searched = ⊎_elim
      (λ committed.
      let rootless : begun (applied_by_all committed.events) ≡ [] = ap begun committed.in_order ∙ h.rootless in
      let due_now = subst (λ (rs : List BenchRecord). AreDue core.state.settings (work_nodes rs) core.state.forest) (sym committed.in_order) due in
      searched_by committed.staged (events_keep_sound core.state new.state committed.events h.sound committed.run)
      (run_due core.state new.state committed.events h.sound committed.run rootless due_now)
      (run_grown core.state new.state committed.events committed.run).settings)
      (λ none.
      let state : new.state ≡ core.state = ap (λ (x : Core). x.state) none.1 in
      searched_by (ap (λ (x : Core). x.staged) none.1 ∙ none.0) (subst IsSoundState (sym state) h.sound)
      (subst (λ (s : CoreState). AreDue core.state.settings [] s.forest) (sym state) (subst (λ (rs : List BenchRecord). AreDue core.state.settings (work_nodes rs) core.state.forest) none.0 due))
      (ap (λ (s : CoreState). s.settings) state))
      applies

-- ---- so far, whatever the rows in front

abbrev pub IsStagedSoFar : Core → Core → List Lease → List Lease → Type 0
IsStagedSoFar old core waiting rest = (front : List Row) × IsStaging old core front waiting rest

pub so_far_first : (core : Core) (waiting rest : List Lease) → IsSoundState core.state → core.staged ≡ [] → core.state.leases.rows ≡ map unkept (waiting ++ rest) → IsStagedSoFar core core waiting rest
so_far_first core waiting rest sound none rows = (map unkept waiting, starts_staging core waiting rest sound none rows)

module _ (old core : Core) (waiting all rest : List Lease) (l : Lease) (h : IsStagedSoFar old core waiting all) (is : all ≡ l ∷ rest) where
  abbrev now : IsStaging old core h.0 waiting (l ∷ rest)
  now = subst (IsStaging old core h.0 waiting) is h.1

  pub so_far_there : Contains core.state.leases.rows (unkept l)
  so_far_there = lease_there old core h.0 waiting l rest now

  pub so_far_waits : (more : List Lease) → more ≡ waiting ++ l ∷ [] → IsStagedSoFar old core more rest
  so_far_waits more same = (h.0 ++ unkept l ∷ [], subst (λ (ls : List Lease). IsStaging old core (h.0 ++ unkept l ∷ []) ls rest) (sym same) (then_waits old core h.0 waiting l rest now))

  pub so_far_staged : (outcome : Outcome) (new : Core) → new ≡ with_staged core (record_of l outcome) → IsStagedSoFar old new waiting rest
  so_far_staged outcome new staged = (h.0 ++ kept l ∷ [], then_staged old core h.0 waiting l rest now outcome new staged)

-- what tells a value is staged behind others
pub told_more : (core new : Core) (l : Lease) (outcome : Outcome) → Each TellsValue core.staged → is_value_told outcome ≡ true → new ≡ with_staged core (record_of l outcome) → Each TellsValue new.staged
told_more core new l outcome told value staged =
    subst (Each TellsValue) (sym (ap (λ (x : Core). x.staged) staged)) (Each-append TellsValue core.staged (record_of l outcome ∷ []) told (tells_value l outcome value, tt))

pub so_far_values : (old core new : Core) (waiting rest : List Lease) (more : ℕ) → IsPassing old.state more → IsStagedSoFar old core waiting rest → rest ≡ [] → Each TellsValue core.staged → Applies core new → IsPassingWith new waiting more
so_far_values old core new waiting rest more passing h none told applies =
    values_applied old core h.0 waiting (subst (IsStaging old core h.0 waiting) none h.1) more passing told new applies

pub so_far_all : (old core new : Core) (rest : List Lease) → IsStagedSoFar old core [] rest → rest ≡ [] → AreAllLeased old.state → Applies core new → IsSearched new
so_far_all old core new rest h none all applies = all_searched old core new h.0 (subst (IsStaging old core h.0 []) none h.1) all applies

-- a commit applies what was staged
pub applies_by : (old new : Core) (staged : List BenchRecord) → old.staged ≡ staged → (old.staged ≡ [] → new ≡ old) → ((old.staged ≡ [] → ⊥) → IsCommitted old new) → Applies old new
applies_by old new [] is idle committed = inr (is, idle is)
applies_by old new (r ∷ rs) is idle committed = inl (committed (λ none. let no : r ∷ rs ≡ [] = sym is ∙ none in cc no))

-- ---- answers

pub on_ok : {T E : Type 0} (P : Type 0) (r : Result T E) (x : T) → r ≡ Ok x → OnOk r P → P
on_ok P r x is h = subst (λ q. OnOk q P) is h

pub on_ok_map : {T E : Type 0} (P Q : Type 0) (r : Result T E) → (P → Q) → OnOk r P → OnOk r Q
on_ok_map P Q (Ok x) f p = f p
on_ok_map P Q (Err e) f p = tt

pub if_ok_at : {T E : Type 0} (P : T → Type 0) (r : Result T E) (x : T) → r ≡ Ok x → IfOk r P → P x
if_ok_at P r x is h = subst (λ q. IfOk q P) is h

pub nil_of : {X : Type 0} (xs : List X) → length xs ≡ 0 → xs ≡ []
nil_of [] h = refl
nil_of (x ∷ xs) h = absurd (omega (arith, h))
