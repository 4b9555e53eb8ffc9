-- What is staged last and taken back leaves the core of before.
use Rattle.std.proofs.Common.{◌≡◌, ◌+◌, ℕ, List, [], ◌∷◌, ◌++◌, map, refl, ap, sym, ◌∙◌, subst, inl, inr, ⊎_elim, arith}
use Rattle.std.specs.Prelude.{◌⊎◌, Bool, true, false, cond, nat_lt, filter, Contains}
use Rattle.std.specs.List.{list_any, AllByRecursion as Each}
use Rattle.std.proofs.lemmas.List.{same_from_push}
use Rattle.std.proofs.lemmas.List.Elements.{Contains-append_right}
use Rattle.std.proofs.lemmas.Bool.{cases_Bool, true≢false, or_parts}
use Rattle.lease_table.specs.declared.leases.Lease.{Lease}
use Rattle.lease_table.specs.declared.leases.Row.{Row}
use Rattle.lease_table.specs.Rows.{is_live_row}
use Rattle.bench_records.specs.declared.records.BenchRecord.{BenchRecord}
use Rattle.bench_records.specs.declared.records.BenchRecord.TheVariants.{Begin, Solve, Expand}
use Rattle.bench_core.specs.Records.{is_work_on}
use Rattle.bench_core.specs.States.{with_lease_rows}
use Rattle.bench_core.specs.Cores.{Core, MayStage, IsResult, with_staged, keep_for, IsForgotten}
use Rattle.tree_manager.specs.declared.entries.Entry.{Entry}
use Rattle.tree_manager.specs.declared.entries.Entry.TheVariants.{Leased}
use Rattle.tree_manager.specs.Entries.{ends_lease}
use Rattle.tree_manager.specs.Lines.{recorded}
use Rattle.tree_manager.specs.LiveLeases.{has_staged, row_left, rows_left}
use Rattle.tree_manager.specs.Histories.{IsCoreOf, IsHistory}
use Rattle.tree_manager.proofs.RowLemmas.{row_from, row_ends}
use Rattle.tree_manager.proofs.CoreLemmas.{Contains-cases, contains_nothing, any_contains}
use Rattle.bench_core.proofs.Lists.{Each-append}
use Rattle.tree_manager.proofs.HistoryLaws.{history_stands}

-- ---- rows of a line live

live_from : (limit now : ℕ) (ended kept put fresh : Bool) (l : Lease) → nat_lt now (l.id + limit) ≡ fresh → Each (λ row. is_live_row limit now row ≡ true) (row_from ended kept put fresh l)
live_from limit now true kept put fresh l is = tt
live_from limit now false true put fresh l is = (refl, tt)
live_from limit now false false true fresh l is = tt
live_from limit now false false false true l is = (is, tt)
live_from limit now false false false false l is = tt

pub rows_live : (limit now : ℕ) (line : List Entry) → Each (λ row. is_live_row limit now row ≡ true) (rows_left limit now line)
rows_live limit now [] = tt
rows_live limit now (Leased l ∷ line) =
    Each-append (λ row. is_live_row limit now row ≡ true) (row_left limit now line (Leased l)) (rows_left limit now line)
    (live_from limit now (list_any (ends_lease l) line) (has_staged l line) (list_any (is_work_on l.node) (recorded line)) (nat_lt now (l.id + limit)) l refl)
    (rows_live limit now line)
rows_live limit now (x ∷ line) = rows_live limit now line

-- ---- of the node of one that waits none is kept

abbrev Waits : BenchRecord → Row → Type 0
Waits r row = is_work_on row.lease.node r ≡ true → row.kept ≡ false

none_waits : (r : BenchRecord) (rows : List Row) → list_any (λ row. is_work_on row.lease.node r) rows ≡ false → Each (Waits r) rows
none_waits r [] h = tt
none_waits r (row ∷ rows) h =
    let parts = or_parts (is_work_on row.lease.node r) (list_any (λ row. is_work_on row.lease.node r) rows) h in
    ((λ own. absurd (true≢false (sym own ∙ parts.0))), none_waits r rows parts.1)

ended_none : (ended kept put fresh : Bool) (l : Lease) → ended ≡ true → row_from ended kept put fresh l ≡ []
ended_none ended kept put fresh l is = rw is refl

-- a row of a lease is the lease's
from_lease : (ended kept put fresh : Bool) (l : Lease) (row : Row) → Contains (row_from ended kept put fresh l) row → (row.lease ≡ l) × ((row.kept ≡ false) → Each (λ (other : Row). other.kept ≡ false) (row_from ended kept put fresh l))
from_lease true kept put fresh l row there = absurd (contains_nothing row there)
from_lease false true put fresh l row there = ⊎_elim
    (λ here. (ap (λ (r : Row). r.lease) (sym here), λ waits. (ap (λ (r : Row). r.kept) here ∙ waits, tt)))
    (λ rest. absurd (contains_nothing row rest))
    (Contains-cases (record { lease = l; kept = true }) row [] there)
from_lease false false true fresh l row there = absurd (contains_nothing row there)
from_lease false false false true l row there = ⊎_elim
    (λ here. (ap (λ (r : Row). r.lease) (sym here), λ waits. (refl, tt)))
    (λ rest. absurd (contains_nothing row rest))
    (Contains-cases (record { lease = l; kept = false }) row [] there)
from_lease false false false false l row there = absurd (contains_nothing row there)

each_waits : (r : BenchRecord) (rows : List Row) → Each (λ (other : Row). other.kept ≡ false) rows → Each (Waits r) rows
each_waits r [] h = tt
each_waits r (row ∷ rows) h = ((λ own. h.0), each_waits r rows h.1)

contains_behind : (x : Row) (xs : List Row) (row : Row) → Contains xs row → Contains (x ∷ xs) row
contains_behind x xs row there = Contains-append_right (x ∷ []) xs row there

contains_append : (xs ys : List Row) (row : Row) → Contains (xs ++ ys) row → Contains xs row ⊎ Contains ys row
contains_append [] ys row there = inr there
contains_append (x ∷ xs) ys row there = ⊎_elim
    (λ here. inl (subst (λ (y : Row). Contains (x ∷ xs) y) here (0, omega arith, refl)))
    (λ rest. ⊎_elim (λ left. inl (contains_behind x xs row left)) (λ right. inr right) (contains_append xs ys row rest))
    (Contains-cases x row (xs ++ ys) there)

other_waits : (r : BenchRecord) (ended kept put fresh : Bool) (l : Lease) → is_work_on l.node r ≡ false → Each (Waits r) (row_from ended kept put fresh l)
other_waits r true kept put fresh l other = tt
other_waits r false true put fresh l other = ((λ own. absurd (true≢false (sym own ∙ other))), tt)
other_waits r false false true fresh l other = tt
other_waits r false false false true l other = ((λ own. refl), tt)
other_waits r false false false false l other = tt

pub one_waits : (limit now : ℕ) (r : BenchRecord) (row : Row) (line : List Entry) → Contains (rows_left limit now line) row → is_work_on row.lease.node r ≡ true → row.kept ≡ false
    → Each (Waits r) (rows_left limit now line)
one_waits limit now r row [] there own waits = tt
one_waits limit now r row (Leased l ∷ line) there own waits =
    let ended = list_any (ends_lease l) line in
    let kept = has_staged l line in
    let put = list_any (is_work_on l.node) (recorded line) in
    let fresh = nat_lt now (l.id + limit) in
    let behind = rows_left limit now line in
    let test : Row → Bool = λ other. is_work_on other.lease.node r in
    ⊎_elim
    (λ here.
    let is = from_lease ended kept put fresh l row here in
    let lease_own : is_work_on l.node r ≡ true = subst (λ (x : Lease). is_work_on x.node r ≡ true) is.0 own in
    Each-append (Waits r) (row_from ended kept put fresh l) behind (each_waits r (row_from ended kept put fresh l) (is.1 waits))
    (none_waits r behind (⊎_elim
    (λ some. absurd (contains_nothing row (subst (λ rows. Contains rows row) (ended_none ended kept put fresh l (row_ends limit now line r l lease_own some)) here)))
    (λ none. none)
    (cases_Bool (list_any test behind)))))
    (λ rest.
    let some : list_any test behind ≡ true = any_contains test behind row rest own in
    Each-append (Waits r) (row_from ended kept put fresh l) behind
    (⊎_elim
    (λ lease_own. subst (Each (Waits r)) (sym (ended_none ended kept put fresh l (row_ends limit now line r l lease_own some))) tt)
    (λ other. other_waits r ended kept put fresh l other)
    (cases_Bool (is_work_on l.node r)))
    (one_waits limit now r row line rest own waits))
    (contains_append (row_from ended kept put fresh l) behind row there)
one_waits limit now r row (x ∷ line) there own waits = one_waits limit now r row line there own waits

-- ---- taken back

back_of : (row mid : Row) (b : Bool) → mid ≡ cond b (record row { kept = true }) row → (b ≡ true → row.kept ≡ false) → cond b (record mid { kept = false }) mid ≡ row
back_of row mid true is waits = ap (λ (m : Row). record m { kept = false }) is ∙ ap (λ k. record row { kept = k }) (sym (waits refl))
back_of row mid false is waits = is

same_lease : (b : Bool) (row : Row) → (cond b (record row { kept = true }) row).lease ≡ row.lease
same_lease true row = refl
same_lease false row = refl

row_back : (r : BenchRecord) (row : Row) → Waits r row → keep_for false r (keep_for true r row) ≡ row
row_back r row waits =
    let mid : Row = keep_for true r row in
    let same : is_work_on mid.lease.node r ≡ is_work_on row.lease.node r = ap (λ (l : Lease). is_work_on l.node r) (same_lease (is_work_on row.lease.node r) row) in
    subst (λ b. cond b (record mid { kept = false }) mid ≡ row) (sym same) (back_of row mid (is_work_on row.lease.node r) refl waits)

filter_cond : (b : Bool) (row : Row) (rows : List Row) → b ≡ true → cond b (row ∷ rows) rows ≡ row ∷ rows
filter_cond b row rows is = rw is refl

rows_back : (limit now : ℕ) (r : BenchRecord) (rows : List Row) → Each (λ row. is_live_row limit now row ≡ true) rows → Each (Waits r) rows
    → filter (is_live_row limit now) (map (keep_for false r) (map (keep_for true r) rows)) ≡ rows
rows_back limit now r [] live waits = refl
rows_back limit now r (row ∷ rows) live waits =
    rw (row_back r row waits.0, rows_back limit now r rows live.1 waits.1) (filter_cond (is_live_row limit now row) row rows live.0)

result_waits : (line : List Entry) (core : Core) (r : BenchRecord) → IsCoreOf line core → IsResult core r → Each (Waits r) core.state.leases.rows
result_waits line core r stands result =
    subst (Each (Waits r)) (sym stands.state.rows)
    (one_waits core.state.leases.limit core.state.given r result.row line (subst (λ rows. Contains rows result.row) stands.state.rows result.there) result.found.own result.unkept)

begin_waits : (rows : List Row) → (r : BenchRecord) → ((n : ℕ) → is_work_on n r ≡ false) → Each (Waits r) rows
begin_waits [] r none = tt
begin_waits (row ∷ rows) r none = ((λ own. absurd (true≢false (sym own ∙ none row.lease.node))), begin_waits rows r none)

staged_waits : (line : List Entry) (core : Core) (r : BenchRecord) → IsCoreOf line core → MayStage core r → Each (Waits r) core.state.leases.rows
staged_waits line core (Begin p) stands may = begin_waits core.state.leases.rows (Begin p) (λ n. refl)
staged_waits line core (Solve n p shown) stands may = result_waits line core (Solve n p shown) stands may
staged_waits line core (Expand n) stands may = result_waits line core (Expand n) stands may

pub forgotten_back : (line : List Entry) (core new : Core) (r : BenchRecord) → IsHistory line core → MayStage core r → IsForgotten (with_staged core r) new → new ≡ core
forgotten_back line core new r history may back =
    let stands = (history_stands line core history).0 in
    let same = same_from_push core.staged new.staged r back.last back.staged in
    let limit = core.state.leases.limit in
    let now = core.state.given in
    let rows : filter (is_live_row limit now) (map (keep_for false back.last) (map (keep_for true r) core.state.leases.rows)) ≡ core.state.leases.rows =
    subst (λ (x : BenchRecord). filter (is_live_row limit now) (map (keep_for false x) (map (keep_for true r) core.state.leases.rows)) ≡ core.state.leases.rows) same.1
    (rows_back limit now r core.state.leases.rows (subst (Each (λ row. is_live_row limit now row ≡ true)) (sym stands.state.rows) (rows_live limit now line)) (staged_waits line core r stands may)) in
    back.rest ∙ (ap (λ rs. record core { state = with_lease_rows core.state rs; staged = new.staged }) rows
    ∙ ap (λ rs. record core { staged = rs }) (sym same.0))
