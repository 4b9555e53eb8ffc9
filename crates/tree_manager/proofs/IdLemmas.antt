-- The numbers of the leases that live rise, up to the count of those given; so ending the first that waits, and again, ends them in rising order.
use Rattle.std.proofs.Common.{◌≡◌, ◌≤◌, ◌<◌, ◌+◌, ℕ, List, [], ◌∷◌, ◌++◌, map, refl, ap, sym, ◌∙◌, subst, ⊎_elim, arith, append_assoc}
use Rattle.std.specs.Prelude.{Bool, true, false, cond, not, filter, Contains, Option, Some, None, Result, Ok, Err, OnOk, IfErr, IfSome}
use Rattle.std.specs.List.{AllByRecursion as Each}
use Rattle.std.specs.Option.{option_map}
use Rattle.std.proofs.lemmas.List.{append-nil, map_push}
use Rattle.std.proofs.lemmas.List.Elements.{Contains-append_right}
use Rattle.std.proofs.lemmas.Bool.{true≢false, eq-eqb, not-true}
use Rattle.lease_table.specs.declared.leases.Row.{Row}
use Rattle.lease_table.specs.Rows.{LeaseRows, has_id, is_live_row, first_unkept, without}
use Rattle.bench_records.specs.declared.records.BenchRecord.{BenchRecord}
use Rattle.bench_core.specs.Records.{is_work_on}
use Rattle.bench_core.specs.States.{HasRow}
use Rattle.bench_core.specs.Cores.{Core, keep_for}
use Rattle.tree_manager.specs.declared.entries.Entry.{Entry}
use Rattle.tree_manager.specs.declared.entries.Entry.TheVariants.{Put, Attached, Leased, Released, Acked, Broken}
use Rattle.tree_manager.specs.Histories.{Enters, IsHistory, Opens, Follows}
use Rattle.tree_manager.specs.Entries.{breaks}
use Rattle.tree_manager.specs.Lines.{is_failed}
use Rattle.tree_manager.specs.Sessions.{SessionState, Appends, AreRising, EndsLeases}
use Rattle.tree_manager.specs.Keeping.{waiting_leases}
use Rattle.tree_manager.proofs.LineLemmas.{any_push_not}
use Rattle.tree_manager.proofs.CoreLemmas.{Contains-cases, contains_nothing}
use Rattle.tree_manager.proofs.OwedLemmas.{waiting_without}
use Rattle.bench_core.proofs.Lists.{Each-append, Each-weaker}
use Rattle.tree_manager.proofs.PickLemmas.{lease_number}

-- ---- rows in the order of their numbers

-- the lease was given, as one of the first `given`
abbrev IsGiven : ℕ → Row → Type 0
IsGiven given row = row.lease.id ≤ given

-- it was given before
abbrev IsBefore : Row → Row → Type 0
IsBefore row later = row.lease.id < later.lease.id

-- each was given before those behind it
abbrev pub AreInOrder : List Row → Type 0
AreInOrder [] = Unit {0}
AreInOrder (row ∷ rows) = Each (IsBefore row) rows × AreInOrder rows

each_cond : (P : Row → Type 0) (b : Bool) (row : Row) (rows : List Row) → P row → Each P rows → Each P (cond b (row ∷ rows) rows)
each_cond P true row rows p q = (p, q)
each_cond P false row rows p q = q

pub each_filter : (P : Row → Type 0) (t : Row → Bool) (rows : List Row) → Each P rows → Each P (filter t rows)
each_filter P t [] h = tt
each_filter P t (row ∷ rows) h = each_cond P (t row) row (filter t rows) h.0 (each_filter P t rows h.1)

order_cond : (b : Bool) (row : Row) (rows : List Row) → Each (IsBefore row) rows → AreInOrder rows → AreInOrder (cond b (row ∷ rows) rows)
order_cond true row rows p q = (p, q)
order_cond false row rows p q = q

order_filter : (t : Row → Bool) (rows : List Row) → AreInOrder rows → AreInOrder (filter t rows)
order_filter t [] h = tt
order_filter t (row ∷ rows) h = order_cond (t row) row (filter t rows) (each_filter (IsBefore row) t rows h.0) (order_filter t rows h.1)

order_push : (rows : List Row) (row : Row) → AreInOrder rows → Each (λ r. IsBefore r row) rows → AreInOrder (rows ++ row ∷ [])
order_push [] row h below = (tt, tt)
order_push (x ∷ rows) row h below = (Each-append (IsBefore x) rows (row ∷ []) h.0 (below.0, tt), order_push rows row h.1 below.1)

-- keeping a lease leaves its number
kept_cond : (P : ℕ → Type 0) (b : Bool) (row : Row) → P row.lease.id → P (cond b (record row { kept = true }) row).lease.id
kept_cond P true row h = h
kept_cond P false row h = h

each_kept : (P : ℕ → Type 0) (r : BenchRecord) (rows : List Row) → Each (λ row. P row.lease.id) rows → Each (λ row. P row.lease.id) (map (keep_for true r) rows)
each_kept P r [] h = tt
each_kept P r (row ∷ rows) h = (kept_cond P (is_work_on row.lease.node r) row h.0, each_kept P r rows h.1)

order_kept : (r : BenchRecord) (rows : List Row) → AreInOrder rows → AreInOrder (map (keep_for true r) rows)
order_kept r [] h = tt
order_kept r (row ∷ rows) h = (
  kept_cond (λ id. Each (λ later. id < later.lease.id) (map (keep_for true r) rows)) (is_work_on row.lease.node r) row (each_kept (λ id. row.lease.id < id) r rows h.0),
  order_kept r rows h.1,
)

-- the leases that live are in order, up to the last that was given
pub record AreNumbered (core : Core) : Type 0 where
  pub given : Each (IsGiven core.state.given) core.state.leases.rows
  pub order : AreInOrder core.state.leases.rows

enters_numbered : (old new : Core) (e : Entry) → Enters old e new → AreNumbered old → AreNumbered new
enters_numbered old new (Put r) enters h = subst AreNumbered (sym enters.1) (record {
  given = each_kept (λ id. id ≤ old.state.given) r old.state.leases.rows h.given;
  order = order_kept r old.state.leases.rows h.order;
})
enters_numbered old new (Attached a) enters h = absurd enters
enters_numbered old new (Leased lease) enters h =
    let number = lease_number old.state lease.worker lease enters.0 in
    let now : ℕ = old.state.given + 1 in
    let lives : Row → Bool = is_live_row old.state.leases.limit now in
    let row : Row = record { lease = lease; kept = false } in
    let rows : List Row = filter lives old.state.leases.rows in
    let given : Each (IsGiven old.state.given) rows = each_filter (IsGiven old.state.given) lives old.state.leases.rows h.given in
    subst AreNumbered (sym enters.1) (record {
      given = Each-append (IsGiven now) rows (row ∷ []) (Each-weaker (IsGiven old.state.given) (IsGiven now) (λ r g. omega (arith, g)) rows given) (omega (arith, number), tt);
      order = order_push rows row (order_filter lives old.state.leases.rows h.order) (Each-weaker (IsGiven old.state.given) (λ r. IsBefore r row) (λ r g. omega (arith, g, number)) rows given);
    })
enters_numbered old new (Released id) enters h =
    let other : Row → Bool = λ row. not (has_id id row) in
    subst AreNumbered (sym enters.1) (record {
      given = each_filter (IsGiven old.state.given) other old.state.leases.rows h.given;
      order = order_filter other old.state.leases.rows h.order;
    })
enters_numbered old new (Acked moment) enters h =
    let unkept : Row → Bool = λ row. not row.kept in
    record {
      given = subst (λ rows. Each (IsGiven new.state.given) rows) (sym enters.ended)
          (each_filter (IsGiven new.state.given) unkept old.state.leases.rows
          (subst (λ n. Each (IsGiven n) old.state.leases.rows) (sym enters.given) h.given));
      order = subst AreInOrder (sym enters.ended) (order_filter unkept old.state.leases.rows h.order);
    }
enters_numbered old new (Broken faults) enters h = subst AreNumbered (sym enters) h

pub history_numbered : (line : List Entry) (core : Core) → IsHistory line core → AreNumbered core
history_numbered _ _ (Opens line core replayed a is new) = record {
  given = subst (λ (t : LeaseRows). Each (IsGiven core.state.given) t.rows) (sym new.leases) tt;
  order = subst (λ (t : LeaseRows). AreInOrder t.rows) (sym new.leases) tt;
}
history_numbered _ _ (Follows line core before old e is history whole enters) = enters_numbered old core e enters (history_numbered before old history)

-- ---- the first that waits

none_cond : (b : Bool) (row : Row) (rest : Option Row) → row.kept ≡ b → cond (not b) (Some row) rest ≡ None → (row.kept ≡ true) × (rest ≡ None)
none_cond true row rest is h = (is, h)
none_cond false row rest is h = absurd (cc h)

-- where there is none, each lease is kept
pub none_waits : (rows : List Row) → first_unkept rows ≡ None → Each (λ row. row.kept ≡ true) rows
none_waits [] h = tt
none_waits (row ∷ rows) h =
    let both = none_cond row.kept row (first_unkept rows) refl h in (both.0, none_waits rows both.1)

-- where there is one, it is there
record IsFound (rows : List Row) (row : Row) : Type 0 where
  pub there : Contains rows row
  pub unkept : row.kept ≡ false

found_cond : (b : Bool) (x row : Row) (rows : List Row) → x.kept ≡ b → cond (not b) (Some x) (first_unkept rows) ≡ Some row → (first_unkept rows ≡ Some row → IsFound rows row) → IsFound (x ∷ rows) row
found_cond true x row rows is h more =
    let rest = more h in record { there = Contains-append_right (x ∷ []) rows row rest.there; unkept = rest.unkept }
found_cond false x row rows is h more =
    let same : x ≡ row = cc h in subst (IsFound (x ∷ rows)) same (record { there = (0, omega arith, refl); unkept = is })

is_found : (rows : List Row) (row : Row) → first_unkept rows ≡ Some row → IsFound rows row
is_found [] row is = absurd (cc is)
is_found (x ∷ rows) row is = found_cond x.kept x row rows refl is (λ more. is_found rows row more)

-- each that waits has this number or a later one
abbrev pub IsLeast : List Row → ℕ → Type 0
IsLeast rows id = Each (λ other. other.kept ≡ false → id ≤ other.lease.id) rows

least_cond : (b : Bool) (x row : Row) (rows : List Row) → x.kept ≡ b → cond (not b) (Some x) (first_unkept rows) ≡ Some row → Each (IsBefore x) rows → (first_unkept rows ≡ Some row → IsLeast rows row.lease.id) → IsLeast (x ∷ rows) row.lease.id
least_cond true x row rows is h behind more = ((λ waits. absurd (true≢false (sym is ∙ waits))), more h)
least_cond false x row rows is h behind more =
    let same : x ≡ row = cc h in
    subst (λ (r : Row). IsLeast (x ∷ rows) r.lease.id) same
    ((λ waits. omega arith), Each-weaker (IsBefore x) (λ other. other.kept ≡ false → x.lease.id ≤ other.lease.id) (λ other later waits. omega (arith, later)) rows behind)

is_least : (rows : List Row) (row : Row) → AreInOrder rows → first_unkept rows ≡ Some row → IsLeast rows row.lease.id
is_least [] row h is = absurd (cc is)
is_least (x ∷ rows) row h is = least_cond x.kept x row rows refl is h.0 (λ more. is_least rows row h.1 more)

-- the row of which a look-up gave the number
pub row_of_number : (found : Option Row) (id : ℕ) → Some id ≡ option_map (λ (row : Row). row.lease.id) found → (row : Row) × (found ≡ Some row) × (row.lease.id ≡ id)
row_of_number None id h = absurd (cc h)
row_of_number (Some row) id h = (row, refl, cc h)

-- the number that a look-up gave is the least
pub least_number : (rows : List Row) (number : Option ℕ) → number ≡ option_map (λ (row : Row). row.lease.id) (first_unkept rows) → AreInOrder rows → IfSome number (IsLeast rows)
least_number rows None is order = tt
least_number rows (Some id) is order =
    let row = row_of_number (first_unkept rows) id is in subst (IsLeast rows) row.2 (is_least rows row.0 order row.1)

pub none_of_number : (found : Option Row) → None ≡ option_map (λ (row : Row). row.lease.id) found → found ≡ None
none_of_number None h = refl
none_of_number (Some row) h = absurd (cc h)

-- ---- those that ended so far

-- if it waits, it has a later number than these
abbrev WaitsBehind : List ℕ → Row → Type 0
WaitsBehind ids row = row.kept ≡ false → Each (λ id. id < row.lease.id) ids

below_unless_same : (m n : ℕ) → m ≤ n → (m ≡ n → ⊥) → m < n
below_unless_same m n le ne = omega (arith, le, ne)

behind_cond : (ids : List ℕ) (id : ℕ) (b : Bool) (row : Row) (rows : List Row) → not (has_id id row) ≡ b → WaitsBehind ids row → (row.kept ≡ false → id ≤ row.lease.id) → Each (WaitsBehind (ids ++ id ∷ [])) rows
    → Each (WaitsBehind (ids ++ id ∷ [])) (cond b (row ∷ rows) rows)
behind_cond ids id true row rows is behind least rest =
    let other : (id ≡ row.lease.id) → ⊥ = λ e. true≢false (sym (eq-eqb id row.lease.id e) ∙ not-true (has_id id row) is) in
    ((λ waits. Each-append (λ i. i < row.lease.id) ids (id ∷ []) (behind waits) (below_unless_same id row.lease.id (least waits) other, tt)), rest)
behind_cond ids id false row rows is behind least rest = rest

-- one more ended, which was the least
behind_without : (ids : List ℕ) (id : ℕ) (rows : List Row) → Each (WaitsBehind ids) rows → Each (λ row. row.kept ≡ false → id ≤ row.lease.id) rows → Each (WaitsBehind (ids ++ id ∷ [])) (without id rows)
behind_without ids id [] behind least = tt
behind_without ids id (row ∷ rows) behind least =
    behind_cond ids id (not (has_id id row)) row (without id rows) refl behind.0 least.0 (behind_without ids id rows behind.1 least.1)

behind_none : (rows : List Row) → Each (WaitsBehind []) rows
behind_none [] = tt
behind_none (row ∷ rows) = ((λ waits. tt), behind_none rows)

rising_more : (ids : List ℕ) (x : ℕ) → AreRising ids → Each (λ id. id < x) ids → AreRising (ids ++ x ∷ [])
rising_more [] x h below = (tt, tt)
rising_more (id ∷ ids) x h below = (Each-append (λ later. id < later) ids (x ∷ []) h.0 (below.0, tt), rising_more ids x h.1 below.1)

each_at : (P : Row → Type 0) (rows : List Row) → Each P rows → (row : Row) → Contains rows row → P row
each_at P [] h row there = absurd (contains_nothing row there)
each_at P (x ∷ rows) h row there = ⊎_elim (λ here. subst P here h.0) (λ rest. each_at P rows h.1 row rest) (Contains-cases x row rows there)

-- these leases ended, in order, and those that wait have later numbers
pub record EndedSoFar {D : Type 0} (old now : SessionState D) : Type 0 where
  pub ended : List ℕ
  pub line : now.line ≡ old.line ++ map Released ended
  pub rising : AreRising ended
  pub behind : Each (WaitsBehind ended) now.core.state.leases.rows
  pub staged : now.core.staged ≡ old.core.staged
  pub disk : now.disk ≡ old.disk
  pub unfailed : is_failed now.line ≡ false

pub ended_none : {D : Type 0} (s : SessionState D) → is_failed s.line ≡ false → EndedSoFar s s
ended_none s unfailed = record {
  ended = [];
  line = sym (append-nil s.line);
  rising = tt;
  behind = behind_none s.core.state.leases.rows;
  staged = refl;
  disk = refl;
  unfailed = unfailed;
}

-- one that waits ends, which has the least number
ended_more : {D : Type 0} (old now next : SessionState D) (row : Row) (id : ℕ) → EndedSoFar old now → IsFound now.core.state.leases.rows row → row.lease.id ≡ id → IsLeast now.core.state.leases.rows id → Appends now (Released id) next → next.disk ≡ now.disk
    → EndedSoFar old next
ended_more old now next row id h found number least appends disk =
    let rows : List Row = now.core.state.leases.rows in
    let waits : Each (λ i. i < id) h.ended = subst (λ n. Each (λ i. i < n) h.ended) number (each_at (WaitsBehind h.ended) rows h.behind row found.there found.unkept) in
    let same : next.core.state.leases.rows ≡ without id rows = ap (λ (c : Core). c.state.leases.rows) appends.enters.1 in
    record {
      ended = h.ended ++ id ∷ [];
      line = appends.line ∙ (ap (λ l. l ++ Released id ∷ []) h.line ∙ (append_assoc old.line (map Released h.ended) (Released id ∷ []) ∙ ap (λ l. old.line ++ l) (sym (map_push Released h.ended id))));
      rising = rising_more h.ended id h.rising waits;
      behind = subst (λ rs. Each (WaitsBehind (h.ended ++ id ∷ [])) rs) (sym same) (behind_without h.ended id rows h.behind least);
      staged = ap (λ (c : Core). c.staged) appends.enters.1 ∙ h.staged;
      disk = disk ∙ h.disk;
      unfailed = ap is_failed appends.line ∙ (any_push_not breaks now.line (Released id) refl ∙ h.unfailed);
    }

-- the release of the first that waits is not refused, and one lease fewer waits
pub record EndedOneMore {D : Type 0} (old now next : SessionState D) : Type 0 where
  pub ended : EndedSoFar old next
  pub fewer : waiting_leases next.core.state.leases.rows < waiting_leases now.core.state.leases.rows

pub ended_step : {D T E : Type 0} (old now next : SessionState D) (id : ℕ) (result : Result T E) → EndedSoFar old now → Some id ≡ option_map (λ (row : Row). row.lease.id) (first_unkept now.core.state.leases.rows) → IsLeast now.core.state.leases.rows id
    → OnOk result (Appends now (Released id) next) → next.disk ≡ now.disk → (P : E → Type 0) → IfErr result (λ e. P e × (is_failed now.line ≡ false → HasRow (λ row. row.kept ≡ false) now.core.state id → ⊥)) → EndedOneMore old now next
ended_step old now next id (Ok t) h found least appends disk P stale =
    let rows : List Row = now.core.state.leases.rows in
    let row = row_of_number (first_unkept rows) id found in
    let here = is_found rows row.0 row.1 in
    record {
      ended = ended_more old now next row.0 id h here row.2 least appends disk;
      fewer = subst (λ rs. waiting_leases rs < waiting_leases rows) (sym (ap (λ (c : Core). c.state.leases.rows) appends.enters.1))
          (omega (arith, waiting_without rows id row.0 here.there row.2 here.unkept));
    }
ended_step old now next id (Err e) h found least appends disk P stale =
    let rows : List Row = now.core.state.leases.rows in
    let row = row_of_number (first_unkept rows) id found in
    let here = is_found rows row.0 row.1 in
    absurd (stale.1 h.unfailed (record { row = row.0; there = here.there; number = row.2; holds = here.unkept }))

pub ended_all : {D : Type 0} (old now : SessionState D) → EndedSoFar old now → None ≡ option_map (λ (row : Row). row.lease.id) (first_unkept now.core.state.leases.rows) → EndsLeases old now
ended_all old now h none = record {
  ended = h.ended;
  line = h.line;
  rising = h.rising;
  kept = none_waits now.core.state.leases.rows (none_of_number (first_unkept now.core.state.leases.rows) none);
  staged = h.staged;
  disk = h.disk;
}
