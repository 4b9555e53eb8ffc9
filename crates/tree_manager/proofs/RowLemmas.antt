-- What one entry more does to the leases that live.
use Rattle.std.proofs.Common.{◌≡◌, ◌≤◌, ◌+◌, ℕ, List, [], ◌∷◌, ◌++◌, map, refl, ap, sym, ◌∙◌, arith, append_assoc, append-nil}
use Rattle.std.specs.Prelude.{Bool, true, false, cond, not, ◌&&◌, ◌||◌, ◌==◌, nat_lt, filter}
use Rattle.std.specs.List.{list_any}
use Rattle.std.proofs.Common.{⊎_elim}
use Rattle.std.proofs.lemmas.List.{map-append}
use Rattle.std.proofs.lemmas.List.Folds.{list_any-append}
use Rattle.std.proofs.lemmas.List.Elements.{filter-append}
use Rattle.std.proofs.lemmas.Bool.{cases_Bool, or_left, or_right, or_parts, or_cases, true≢false, false≢true, eqb-true, eq-eqb, ltb-true, lt-ltb, false_from_ne_true}
use Rattle.bench_records.specs.declared.records.BenchRecord.{BenchRecord}
use Rattle.bench_records.specs.declared.records.BenchRecord.TheVariants.{Begin, Solve, Expand}
use Rattle.lease_table.specs.declared.leases.Lease.{Lease}
use Rattle.tree_manager.specs.declared.entries.Entry.{Entry}
use Rattle.tree_manager.specs.declared.entries.Entry.TheVariants.{Put, Leased, Released, Acked, Broken}
use Rattle.bench_core.specs.Records.{is_work_on, is_work}
use Rattle.bench_core.specs.Cores.{keep_for}
use Rattle.lease_table.specs.declared.leases.Row.{Row}
use Rattle.lease_table.specs.Rows.{is_live_row, is_of, has_id, without}
use Rattle.tree_manager.specs.Entries.{record_put, acknowledges, ends_lease}
use Rattle.tree_manager.specs.Lines.{recorded, applied_in, unapplied_in}
use Rattle.tree_manager.specs.LiveLeases.{has_staged, row_left, rows_left}
use Rattle.tree_manager.proofs.LineLemmas.{or-false, any_push, any_push_not, any_push_yes, recorded_push, staged_more, staged_none, recorded_split}

-- the row of a lease, by what stands behind it
abbrev pub row_from : Bool → Bool → Bool → Bool → Lease → List Row
row_from ended kept put fresh l = cond (not ended && (kept || (not put && fresh))) (record { lease = l; kept = kept } ∷ []) []

pub rows_same : (a b k m p q f : Bool) (l : Lease) → a ≡ b → k ≡ m → p ≡ q → row_from a k p f l ≡ row_from b m q f l
rows_same a b k m p q f l x y z = rw (x, y, z) refl

-- ---- what an entry that puts nothing leaves

put_nothing : (e : Entry) → record_put e ≡ [] → (behind : List Entry) → recorded (behind ++ e ∷ []) ≡ recorded behind
put_nothing e none behind = recorded_push behind e ∙ ap (λ rs. recorded behind ++ rs) none ∙ append-nil (recorded behind)

staged_nothing : (e : Entry) → acknowledges e ≡ false → record_put e ≡ [] → (behind : List Entry) → unapplied_in (behind ++ e ∷ []) ≡ unapplied_in behind
staged_nothing e ack none behind = staged_more behind e ack ∙ ap (λ rs. unapplied_in behind ++ rs) none ∙ append-nil (unapplied_in behind)

-- an entry behind which a lease is as before, but for what ends_lease it
behind_quiet : (e : Entry) → acknowledges e ≡ false → record_put e ≡ [] → (limit now : ℕ) (behind : List Entry) (l : Lease)
    → row_left limit now (behind ++ e ∷ []) (Leased l) ≡ row_from (list_any (ends_lease l) behind || ends_lease l e) (has_staged l behind) (list_any (is_work_on l.node) (recorded behind)) (nat_lt now (l.id + limit)) l
behind_quiet e ack none limit now behind l =
    rows_same _ _ _ _ _ _ (nat_lt now (l.id + limit)) l
    (any_push (ends_lease l) behind e)
    (ap (list_any (is_work_on l.node)) (staged_nothing e ack none behind))
    (ap (list_any (is_work_on l.node)) (put_nothing e none behind))

-- ---- entries that change each row alone

pub rows_push : (F : List Row → List Row) → ((xs ys : List Row) → F (xs ++ ys) ≡ F xs ++ F ys) → F [] ≡ [] → (limit now now' : ℕ) (e : Entry)
    → ((l : Lease) (behind : List Entry) → row_left limit now' (behind ++ e ∷ []) (Leased l) ≡ F (row_left limit now behind (Leased l)))
    → (line : List Entry) → rows_left limit now' (line ++ e ∷ []) ≡ F (rows_left limit now line) ++ row_left limit now' [] e
rows_push F hom nil limit now now' e each [] = append-nil (row_left limit now' [] e) ∙ sym (ap (λ rs. rs ++ row_left limit now' [] e) nil)
rows_push F hom nil limit now now' e each (Leased l ∷ line) =
    rw (each l line, rows_push F hom nil limit now now' e each line, hom (row_left limit now line (Leased l)) (rows_left limit now line)) (sym (append_assoc (F (row_left limit now line (Leased l))) (F (rows_left limit now line)) (row_left limit now' [] e)))
rows_push F hom nil limit now now' e each (x ∷ line) = rows_push F hom nil limit now now' e each line

same_append : (xs ys : List Row) → xs ++ ys ≡ xs ++ ys
same_append xs ys = refl

-- ---- a release

filter_row : (t : Row → Bool) (a k p f b : Bool) (l : Lease) → t (record { lease = l; kept = k }) ≡ not b → row_from (a || b) k p f l ≡ filter t (row_from a k p f l)
filter_row t true k p f b l h = refl
filter_row t false true p f true l h = rw h refl
filter_row t false true p f false l h = rw h refl
filter_row t false false true f true l h = refl
filter_row t false false true f false l h = refl
filter_row t false false false true true l h = rw h refl
filter_row t false false false true false l h = rw h refl
filter_row t false false false false true l h = refl
filter_row t false false false false false l h = refl

pub rows_released : (limit now : ℕ) (line : List Entry) (id : ℕ) → rows_left limit now (line ++ Released id ∷ []) ≡ without id (rows_left limit now line)
rows_released limit now line id =
    rows_push (without id) (filter-append (λ row. not (has_id id row))) refl limit now now (Released id)
    (λ l behind. behind_quiet (Released id) refl refl limit now behind l
    ∙ filter_row (λ row. not (has_id id row)) (list_any (ends_lease l) behind) (has_staged l behind) (list_any (is_work_on l.node) (recorded behind)) (nat_lt now (l.id + limit)) (id == l.id) l refl)
    line
    ∙ append-nil (without id (rows_left limit now line))

-- ---- an entry of no matter to leases

pub rows_broken : (limit now : ℕ) (line : List Entry) (faults : ℕ) → rows_left limit now (line ++ Broken faults ∷ []) ≡ rows_left limit now line
rows_broken limit now line faults =
    rows_push (λ rs. rs) same_append refl limit now now (Broken faults)
    (λ l behind. behind_quiet (Broken faults) refl refl limit now behind l ∙ ap (λ a. row_from a (has_staged l behind) (list_any (is_work_on l.node) (recorded behind)) (nat_lt now (l.id + limit)) l) (or-false (list_any (ends_lease l) behind)))
    line
    ∙ append-nil (rows_left limit now line)

-- ---- an acknowledgement

kept_row : (a k p f : Bool) (l : Lease) → (k ≡ true → p ≡ true) → row_from a false p f l ≡ filter (λ row. not row.kept) (row_from a k p f l)
kept_row true k p f l h = refl
kept_row false true true f l h = refl
kept_row false true false f l h = absurd (false≢true (h refl))
kept_row false false true f l h = refl
kept_row false false false true l h = refl
kept_row false false false false l h = refl

pub any_staged : (p : BenchRecord → Bool) (line : List Entry) → list_any p (unapplied_in line) ≡ true → list_any p (recorded line) ≡ true
any_staged p line h = rw (recorded_split line, list_any-append p (applied_in line) (unapplied_in line)) (or_right (list_any p (applied_in line)) (list_any p (unapplied_in line)) h)

pub rows_acked : (limit now : ℕ) (line : List Entry) (moment : ℕ) → rows_left limit now (line ++ Acked moment ∷ []) ≡ filter (λ row. not row.kept) (rows_left limit now line)
rows_acked limit now line moment =
    rows_push (filter (λ row. not row.kept)) (filter-append (λ row. not row.kept)) refl limit now now (Acked moment)
    (λ l behind. rows_same _ _ _ _ _ _ (nat_lt now (l.id + limit)) l
    (any_push (ends_lease l) behind (Acked moment) ∙ or-false (list_any (ends_lease l) behind))
    (ap (list_any (is_work_on l.node)) (staged_none behind (Acked moment) refl))
    (ap (list_any (is_work_on l.node)) (put_nothing (Acked moment) refl behind))
    ∙ kept_row (list_any (ends_lease l) behind) (has_staged l behind) (list_any (is_work_on l.node) (recorded behind)) (nat_lt now (l.id + limit)) l (any_staged (is_work_on l.node) behind))
    line
    ∙ append-nil (filter (λ row. not row.kept) (rows_left limit now line))

-- ---- later numbers

later_row : (t : Row → Bool) (a k p f g : Bool) (l : Lease) → t (record { lease = l; kept = k }) ≡ (k || g) → (g ≡ true → f ≡ true) → row_from a k p g l ≡ filter t (row_from a k p f l)
later_row t true k p f g l h less = refl
later_row t false true p f g l h less = rw h refl
later_row t false false true f g l h less = refl
later_row t false false false true true l h less = rw h refl
later_row t false false false true false l h less = rw h refl
later_row t false false false false true l h less = absurd (false≢true (less refl))
later_row t false false false false false l h less = refl

pub rows_later : (limit now later : ℕ) (line : List Entry) → now ≤ later → rows_left limit later line ≡ filter (is_live_row limit later) (rows_left limit now line)
rows_later limit now later [] le = refl
rows_later limit now later (Leased l ∷ line) le =
    rw (filter-append (is_live_row limit later) (row_left limit now line (Leased l)) (rows_left limit now line), rows_later limit now later line le)
    (ap (λ rs. rs ++ filter (is_live_row limit later) (rows_left limit now line))
    (later_row (is_live_row limit later) (list_any (ends_lease l) line) (has_staged l line) (list_any (is_work_on l.node) (recorded line)) (nat_lt now (l.id + limit)) (nat_lt later (l.id + limit)) l refl
    (λ h. lt-ltb now (l.id + limit) (omega (arith, ltb-true later (l.id + limit) h)))))
rows_later limit now later (x ∷ line) le = rows_later limit now later line le

-- ---- a lease

none_row : (a k p f : Bool) (l : Lease) (t : Row → Bool) → t (record { lease = l; kept = k }) ≡ true → list_any t (row_from a k p f l) ≡ false → row_from a k p f l ≡ []
none_row true k p f l t h none = refl
none_row false true p f l t h none = absurd (true≢false (sym (or_left (t (record { lease = l; kept = true })) false h) ∙ none))
none_row false false true f l t h none = refl
none_row false false false true l t h none = absurd (true≢false (sym (or_left (t (record { lease = l; kept = false })) false h) ∙ none))
none_row false false false false l t h none = refl

or_ended : (a k p f : Bool) (l : Lease) → row_from (a || true) k p f l ≡ []
or_ended true k p f l = refl
or_ended false k p f l = refl

row_not_again : (a k p f b : Bool) (l : Lease) (t : Row → Bool) → t (record { lease = l; kept = k }) ≡ b → list_any t (row_from a k p f l) ≡ false → row_from (a || b) k p f l ≡ row_from a k p f l
row_not_again a k p f false l t h none = rw (or-false a) refl
row_not_again a k p f true l t h none = rw (none_row a k p f l t h none) (or_ended a k p f l)

pub rows_leased : (limit now : ℕ) (line : List Entry) (l' : Lease) → list_any (is_of l'.node) (rows_left limit now line) ≡ false
    → rows_left limit now (line ++ Leased l' ∷ []) ≡ rows_left limit now line ++ row_left limit now [] (Leased l')
rows_leased limit now [] l' none = append-nil (row_left limit now [] (Leased l'))
rows_leased limit now (Leased l ∷ line) l' none =
    let parts = or_parts (list_any (is_of l'.node) (row_left limit now line (Leased l))) (list_any (is_of l'.node) (rows_left limit now line))
    (sym (list_any-append (is_of l'.node) (row_left limit now line (Leased l)) (rows_left limit now line)) ∙ none) in
    rw (
      behind_quiet (Leased l') refl refl limit now line l,
      row_not_again (list_any (ends_lease l) line) (has_staged l line) (list_any (is_work_on l.node) (recorded line)) (nat_lt now (l.id + limit)) (l'.node == l.node) l (is_of l'.node) refl parts.0,
      rows_leased limit now line l' parts.1,
    )
    (sym (append_assoc (row_left limit now line (Leased l)) (rows_left limit now line) (row_left limit now [] (Leased l'))))
rows_leased limit now (x ∷ line) l' none = rows_leased limit now line l' none

-- a new lease is a row, where leases last
pub new_row : (limit now : ℕ) (l : Lease) → l.id ≡ now → 1 ≤ limit → row_left limit now [] (Leased l) ≡ record { lease = l; kept = false } ∷ []
new_row limit now l is_now lasts = rw (lt-ltb now (l.id + limit) (omega (arith, is_now, lasts))) refl

-- ---- a result

pub one_node : (n m : ℕ) (r : BenchRecord) → is_work_on n r ≡ true → is_work_on m r ≡ true → n ≡ m
one_node n m (Begin p) h k = absurd (false≢true h)
one_node n m (Solve node p shown) h k = sym (eqb-true node n h) ∙ eqb-true node m k
one_node n m (Expand node) h k = sym (eqb-true node n h) ∙ eqb-true node m k

-- the row of a lease with a result of its node behind it, or of none
pub put_other : (limit now : ℕ) (behind : List Entry) (r : BenchRecord) (l : Lease) → is_work_on l.node r ≡ false → row_left limit now (behind ++ Put r ∷ []) (Leased l) ≡ row_left limit now behind (Leased l)
put_other limit now behind r l other =
    rows_same _ _ _ _ _ _ (nat_lt now (l.id + limit)) l
    (any_push (ends_lease l) behind (Put r) ∙ or-false (list_any (ends_lease l) behind))
    (ap (list_any (is_work_on l.node)) (staged_more behind (Put r) refl) ∙ any_push_not (is_work_on l.node) (unapplied_in behind) r other)
    (ap (list_any (is_work_on l.node)) (recorded_push behind (Put r)) ∙ any_push_not (is_work_on l.node) (recorded behind) r other)

put_own : (limit now : ℕ) (behind : List Entry) (r : BenchRecord) (l : Lease) → is_work_on l.node r ≡ true
    → row_left limit now (behind ++ Put r ∷ []) (Leased l) ≡ row_from (list_any (ends_lease l) behind) true true (nat_lt now (l.id + limit)) l
put_own limit now behind r l own =
    rows_same _ _ _ _ _ _ (nat_lt now (l.id + limit)) l
    (any_push (ends_lease l) behind (Put r) ∙ or-false (list_any (ends_lease l) behind))
    (ap (list_any (is_work_on l.node)) (staged_more behind (Put r) refl) ∙ any_push_yes (is_work_on l.node) (unapplied_in behind) r own)
    (ap (list_any (is_work_on l.node)) (recorded_push behind (Put r)) ∙ any_push_yes (is_work_on l.node) (recorded behind) r own)

pub keep_other : (r : BenchRecord) (a k p f : Bool) (l : Lease) → is_work_on l.node r ≡ false → map (keep_for true r) (row_from a k p f l) ≡ row_from a k p f l
keep_other r true k p f l other = refl
keep_other r false true p f l other = rw other refl
keep_other r false false true f l other = refl
keep_other r false false false true l other = rw other refl
keep_other r false false false false l other = refl

keep_own : (r : BenchRecord) (a k p f : Bool) (l : Lease) → is_work_on l.node r ≡ true → list_any (λ row. is_work_on row.lease.node r) (row_from a k p f l) ≡ true
    → row_from a true true f l ≡ map (keep_for true r) (row_from a k p f l)
keep_own r true k p f l own some = absurd (false≢true some)
keep_own r false true p f l own some = rw own refl
keep_own r false false true f l own some = absurd (false≢true some)
keep_own r false false false true l own some = rw own refl
keep_own r false false false false l own some = absurd (false≢true some)

any_row_from : (r : BenchRecord) (a k p f : Bool) (l : Lease) → list_any (λ row. is_work_on row.lease.node r) (row_from a k p f l) ≡ true → (is_work_on l.node r ≡ true) × (a ≡ false)
any_row_from r true k p f l some = absurd (false≢true some)
any_row_from r false true p f l some = (sym (or-false (is_work_on l.node r)) ∙ some, refl)
any_row_from r false false true f l some = absurd (false≢true some)
any_row_from r false false false true l some = (sym (or-false (is_work_on l.node r)) ∙ some, refl)
any_row_from r false false false false l some = absurd (false≢true some)

-- a row of the record's node means a later lease of it
pub row_ends : (limit now : ℕ) (line : List Entry) (r : BenchRecord) (l : Lease) → is_work_on l.node r ≡ true → list_any (λ row. is_work_on row.lease.node r) (rows_left limit now line) ≡ true
    → list_any (ends_lease l) line ≡ true
row_ends limit now [] r l own some = absurd (false≢true some)
row_ends limit now (Leased l' ∷ line) r l own some =
    ⊎_elim
    (λ here. or_left (l'.node == l.node) (list_any (ends_lease l) line) (eq-eqb l'.node l.node (one_node l'.node l.node r
    ((any_row_from r (list_any (ends_lease l') line) (has_staged l' line) (list_any (is_work_on l'.node) (recorded line)) (nat_lt now (l'.id + limit)) l' here).0) own)))
    (λ there. or_right (l'.node == l.node) (list_any (ends_lease l) line) (row_ends limit now line r l own there))
    (or_cases (list_any (λ row. is_work_on row.lease.node r) (row_left limit now line (Leased l'))) (list_any (λ row. is_work_on row.lease.node r) (rows_left limit now line))
    (sym (list_any-append (λ row. is_work_on row.lease.node r) (row_left limit now line (Leased l')) (rows_left limit now line)) ∙ some))
row_ends limit now (x ∷ line) r l own some = or_right (ends_lease l x) (list_any (ends_lease l) line) (row_ends limit now line r l own some)

-- where no later lease has the record's node, no row is touched
put_elsewhere : (limit now : ℕ) (line : List Entry) (r : BenchRecord) (l : Lease) → is_work_on l.node r ≡ true → list_any (ends_lease l) line ≡ false
    → rows_left limit now (line ++ Put r ∷ []) ≡ map (keep_for true r) (rows_left limit now line)
put_elsewhere limit now [] r l own none = refl
put_elsewhere limit now (Leased l' ∷ line) r l own none =
    let parts = or_parts (l'.node == l.node) (list_any (ends_lease l) line) none in
    let other : is_work_on l'.node r ≡ false = false_from_ne_true (is_work_on l'.node r) (λ h. true≢false (sym (eq-eqb l'.node l.node (one_node l'.node l.node r h own)) ∙ parts.0)) in
    rw (put_other limit now line r l' other, put_elsewhere limit now line r l own parts.1, map-append (keep_for true r) (row_left limit now line (Leased l')) (rows_left limit now line))
    (ap (λ rs. rs ++ map (keep_for true r) (rows_left limit now line)) (sym (keep_other r (list_any (ends_lease l') line) (has_staged l' line) (list_any (is_work_on l'.node) (recorded line)) (nat_lt now (l'.id + limit)) l' other)))
put_elsewhere limit now (x ∷ line) r l own none = put_elsewhere limit now line r l own (or_parts (ends_lease l x) (list_any (ends_lease l) line) none).1

append_both : {xs ys us vs : List Row} → xs ≡ us → ys ≡ vs → xs ++ ys ≡ us ++ vs
append_both p q = rw (p, q) refl

-- of a lease that is not the last one of the record's node
put_row : (limit now : ℕ) (line : List Entry) (r : BenchRecord) (l : Lease) → list_any (λ row. is_work_on row.lease.node r) (rows_left limit now line) ≡ true
    → row_left limit now (line ++ Put r ∷ []) (Leased l) ≡ map (keep_for true r) (row_left limit now line (Leased l))
put_row limit now line r l there =
    ⊎_elim
    (λ own. let ended = row_ends limit now line r l own there in put_own limit now line r l own ∙ rw ended refl)
    (λ other. put_other limit now line r l other ∙ sym (keep_other r (list_any (ends_lease l) line) (has_staged l line) (list_any (is_work_on l.node) (recorded line)) (nat_lt now (l.id + limit)) l other))
    (cases_Bool (is_work_on l.node r))

pub rows_put : (limit now : ℕ) (line : List Entry) (r : BenchRecord) → list_any (λ row. is_work_on row.lease.node r) (rows_left limit now line) ≡ true
    → rows_left limit now (line ++ Put r ∷ []) ≡ map (keep_for true r) (rows_left limit now line)
rows_put limit now [] r some = absurd (false≢true some)
rows_put limit now (Leased l ∷ line) r some =
    rw (map-append (keep_for true r) (row_left limit now line (Leased l)) (rows_left limit now line))
    (⊎_elim
    (λ there. append_both (put_row limit now line r l there) (rows_put limit now line r there))
    (λ none.
    let here : list_any (λ row. is_work_on row.lease.node r) (row_left limit now line (Leased l)) ≡ true =
    ⊎_elim (λ h. h) (λ h. absurd (true≢false (sym h ∙ none)))
    (or_cases (list_any (λ row. is_work_on row.lease.node r) (row_left limit now line (Leased l))) (list_any (λ row. is_work_on row.lease.node r) (rows_left limit now line))
    (sym (list_any-append (λ row. is_work_on row.lease.node r) (row_left limit now line (Leased l)) (rows_left limit now line)) ∙ some)) in
    let live = any_row_from r (list_any (ends_lease l) line) (has_staged l line) (list_any (is_work_on l.node) (recorded line)) (nat_lt now (l.id + limit)) l here in
    append_both (put_own limit now line r l live.0 ∙ keep_own r (list_any (ends_lease l) line) (has_staged l line) (list_any (is_work_on l.node) (recorded line)) (nat_lt now (l.id + limit)) l live.0 here)
    (put_elsewhere limit now line r l live.0 live.1))
    (cases_Bool (list_any (λ row. is_work_on row.lease.node r) (rows_left limit now line))))
rows_put limit now (x ∷ line) r some = rows_put limit now line r some

pub begin_of_none : (r : BenchRecord) (n : ℕ) → is_work r ≡ false → is_work_on n r ≡ false
begin_of_none (Begin p) n h = refl
begin_of_none (Solve node p shown) n h = absurd (true≢false h)
begin_of_none (Expand node) n h = absurd (true≢false h)
