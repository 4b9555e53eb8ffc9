-- Rows no two of which agree, and which of them live.
use Rattle.std.proofs.Common.{◌≡◌, ◌≤◌, ◌+◌, ℕ, List, [], ◌∷◌, ◌++◌, map, refl, ap, sym, ◌∙◌, subst, inl, inr, ⊎_elim, arith}
use Rattle.std.specs.Prelude.{Bool, true, false, cond, not, ◌==◌, nat_lt, filter, Contains, ◌⊎◌, Option, Some, None}
use Rattle.std.specs.List.{list_any, AllByRecursion as Each}
use Rattle.std.specs.Option.{option_map_or}
use Rattle.std.proofs.lemmas.Bool.{or_left, or_right, or_cases, false_from_ne_true, true≢false, false≢true, eqb-true, eq-eqb, lt-ltb, ltb-true}
use Rattle.lease_table.specs.declared.leases.Row.{Row}
use Rattle.lease_table.specs.Rows.{LeaseRows, is_live_row, has_id, is_of, row_with, is_live, is_kept, live_rows, without}
use Rattle.bench_core.specs.States.{AreRowsApart}
use Rattle.bench_core.proofs.Lists.{Contains-here, Contains-there, Contains-cases, Contains-filter, Contains-unfilter, Each-weaker, Each-append, Each-none, Each-contains, none_from_each, none_filter, any_contains, each_of_contains, filter_twice, filter_swaps, any_map}

pub other_way : (a b : ℕ) → (a == b) ≡ false → (b == a) ≡ false
other_way a b h = false_from_ne_true (b == a) (λ e. true≢false (sym (eq-eqb a b (sym (eqb-true b a e))) ∙ h))

apart_cond : (b : Bool) (row : Row) (rows : List Row) → list_any (is_of row.lease.node) rows ≡ false → list_any (has_id row.lease.id) rows ≡ false → AreRowsApart rows
    → AreRowsApart (cond b (row ∷ rows) rows)
apart_cond true row rows p q r = (p, (q, r))
apart_cond false row rows p q r = r

pub apart_filter : (t : Row → Bool) (rows : List Row) → AreRowsApart rows → AreRowsApart (filter t rows)
apart_filter t [] h = tt
apart_filter t (row ∷ rows) h =
    apart_cond (t row) row (filter t rows)
    (none_filter (is_of row.lease.node) t rows h.0)
    (none_filter (has_id row.lease.id) t rows h.1.0)
    (apart_filter t rows h.1.1)

pub apart_push : (rows : List Row) (row : Row) → AreRowsApart rows → Each (λ r. (r.lease.node == row.lease.node) ≡ false) rows → Each (λ r. (r.lease.id == row.lease.id) ≡ false) rows
    → AreRowsApart (rows ++ row ∷ [])
apart_push [] row h p q = (refl, (refl, tt))
apart_push (x ∷ rows) row h p q = (
  none_from_each (is_of x.lease.node) (rows ++ row ∷ []) (Each-append (λ r. (x.lease.node == r.lease.node) ≡ false) rows (row ∷ []) (Each-none (is_of x.lease.node) rows h.0) (p.0, tt)),
  (
    none_from_each (has_id x.lease.id) (rows ++ row ∷ []) (Each-append (λ r. (x.lease.id == r.lease.id) ≡ false) rows (row ∷ []) (Each-none (has_id x.lease.id) rows h.1.0) (q.0, tt)),
    apart_push rows row h.1.1 p.1 q.1,
  ),
)

contains_nothing : (x : Row) → Contains [] x → ⊥
contains_nothing x there = omega (arith, there.1)

apart_first : (x b : Row) (rows : List Row) → AreRowsApart (x ∷ rows) → Contains rows b → (x.lease.node ≡ b.lease.node) ⊎ (x.lease.id ≡ b.lease.id) → ⊥
apart_first x b rows h there (inl node) = true≢false (sym (any_contains (is_of x.lease.node) rows b there (eq-eqb x.lease.node b.lease.node node)) ∙ h.0)
apart_first x b rows h there (inr id) = true≢false (sym (any_contains (has_id x.lease.id) rows b there (eq-eqb x.lease.id b.lease.id id)) ∙ h.1.0)

-- of two rows of one node, or of one number, there is one
pub apart_one : (rows : List Row) (a b : Row) → AreRowsApart rows → Contains rows a → Contains rows b → (a.lease.node ≡ b.lease.node) ⊎ (a.lease.id ≡ b.lease.id) → a ≡ b
apart_one [] a b h p q same = absurd (contains_nothing a p)
apart_one (x ∷ rows) a b h p q same = ⊎_elim
    (λ x_a. ⊎_elim (λ x_b. sym x_a ∙ x_b) (λ b_there. absurd (apart_first x b rows h b_there (⊎_elim (λ n. inl (ap (λ (r : Row). r.lease.node) x_a ∙ n)) (λ i. inr (ap (λ (r : Row). r.lease.id) x_a ∙ i)) same))) (Contains-cases x b rows q))
    (λ a_there. ⊎_elim
    (λ x_b. absurd (apart_first x a rows h a_there (⊎_elim (λ n. inl (ap (λ (r : Row). r.lease.node) x_b ∙ sym n)) (λ i. inr (ap (λ (r : Row). r.lease.id) x_b ∙ sym i)) same)))
    (λ b_there. apart_one rows a b h.1.1 a_there b_there same)
    (Contains-cases x b rows q))
    (Contains-cases x a rows p)

pub apart_map : (f : Row → Row) → ((row : Row) → (f row).lease ≡ row.lease) → (rows : List Row) → AreRowsApart rows → AreRowsApart (map f rows)
apart_map f same [] h = tt
apart_map f same (row ∷ rows) h = (
  any_map (is_of (f row).lease.node) f rows ∙ none_from_each (λ r. is_of (f row).lease.node (f r)) rows
      (Each-weaker (λ r. (row.lease.node == r.lease.node) ≡ false) (λ r. ((f row).lease.node == (f r).lease.node) ≡ false) (λ r e. rw (same row, same r) e) rows (Each-none (is_of row.lease.node) rows h.0)),
  (
    any_map (has_id (f row).lease.id) f rows ∙ none_from_each (λ r. has_id (f row).lease.id (f r)) rows
        (Each-weaker (λ r. (row.lease.id == r.lease.id) ≡ false) (λ r. ((f row).lease.id == (f r).lease.id) ≡ false) (λ r e. rw (same row, same r) e) rows (Each-none (has_id row.lease.id) rows h.1.0)),
    apart_map f same rows h.1.1,
  ),
)

-- ---- what lives later lived before

pub lives_before : (limit now later : ℕ) (row : Row) → now ≤ later → is_live_row limit later row ≡ true → is_live_row limit now row ≡ true
lives_before limit now later row le h = ⊎_elim
    (λ kept. or_left row.kept (nat_lt now (row.lease.id + limit)) kept)
    (λ lasts. or_right row.kept (nat_lt now (row.lease.id + limit)) (lt-ltb now (row.lease.id + limit) (omega (arith, le, ltb-true later (row.lease.id + limit) lasts))))
    (or_cases row.kept (nat_lt later (row.lease.id + limit)) h)

pub live_twice : (limit now later : ℕ) (rows : List Row) → now ≤ later → filter (is_live_row limit later) (filter (is_live_row limit now) rows) ≡ filter (is_live_row limit later) rows
live_twice limit now later rows le =
    filter_twice (is_live_row limit later) (is_live_row limit now) rows
    (each_of_contains (λ row. is_live_row limit later row ≡ true → is_live_row limit now row ≡ true) rows (λ row there h. lives_before limit now later row le h))

-- ---- look-ups by number

row_by : (id : ℕ) (x row : Row) (rows : List Row) (b : Bool) → has_id id x ≡ b → cond b (Some x) (row_with id rows) ≡ Some row → (row_with id rows ≡ Some row → Contains rows row × (id ≡ row.lease.id))
    → Contains (x ∷ rows) row × (id ≡ row.lease.id)
row_by id x row rows true is h rest =
    let same : x ≡ row = cc in (subst (λ z. Contains (x ∷ rows) z) same (Contains-here x rows), subst (λ (z : Row). id ≡ z.lease.id) same (eqb-true id x.lease.id is))
row_by id x row rows false is h rest = let more = rest h in (Contains-there x row rows more.0, more.1)

-- the row with this number is there, where one is
pub row_there : (id : ℕ) (rows : List Row) (row : Row) → row_with id rows ≡ Some row → Contains rows row × (id ≡ row.lease.id)
row_there id [] row found = absurd (cc)
row_there id (x ∷ rows) row found = row_by id x row rows (has_id id x) refl found (λ h. row_there id rows row h)

none_by : (id : ℕ) (x : Row) (rows : List Row) (b : Bool) → has_id id x ≡ b → cond b (Some x) (row_with id rows) ≡ None → (row_with id rows ≡ None → Each (λ row. has_id id row ≡ false) rows)
    → (has_id id x ≡ false) × Each (λ row. has_id id row ≡ false) rows
none_by id x rows true is h rest = absurd (cc)
none_by id x rows false is h rest = (is, rest h)

pub no_row_there : (id : ℕ) (rows : List Row) → row_with id rows ≡ None → Each (λ row. has_id id row ≡ false) rows
no_row_there id [] none = tt
no_row_there id (x ∷ rows) none = none_by id x rows (has_id id x) refl none (λ h. no_row_there id rows h)

-- a row that is there is found, where no two have one number
pub there_row : (id : ℕ) (rows : List Row) (row : Row) → AreRowsApart rows → Contains rows row → row.lease.id ≡ id → row_with id rows ≡ Some row
there_row id rows row apart there is = by (row_with id rows) refl
  where
    by : (o : Option Row) → row_with id rows ≡ o → o ≡ Some row
    by None e = absurd (true≢false (sym (eq-eqb id row.lease.id (sym is)) ∙ Each-contains (λ r. has_id id r ≡ false) rows row (no_row_there id rows e) there))
    by (Some other) e =
        let found = row_there id rows other e in
        ap Some (apart_one rows other row apart found.0 there (inr (sym found.1 ∙ sym is)))

-- ---- what a table answers of a row that lives

-- an open lease: the row of this number lives and is not kept
pub open_row : (t : LeaseRows) (id now : ℕ) → is_live t id now ≡ true → is_kept t id ≡ false → (row : Row) × (Contains (live_rows t now) row × ((row.lease.id ≡ id) × (row.kept ≡ false)))
open_row t id now lives unkept = by (row_with id t.rows) refl lives unkept
  where
    by : (o : Option Row) → row_with id t.rows ≡ o → option_map_or (is_live_row t.limit now) o false ≡ true → option_map_or (λ row. row.kept) o false ≡ false
        → (row : Row) × (Contains (live_rows t now) row × ((row.lease.id ≡ id) × (row.kept ≡ false)))
    by None e l k = absurd (false≢true l)
    by (Some row) e l k = let at = row_there id t.rows row e in (row, (Contains-filter (is_live_row t.limit now) t.rows row at.0 l, (sym at.1, k)))

-- a row that lives is found, live, and as it is kept
pub row_found : (t : LeaseRows) (now : ℕ) (row : Row) → AreRowsApart t.rows → Contains (live_rows t now) row → (row_with row.lease.id t.rows ≡ Some row) × (is_live_row t.limit now row ≡ true)
row_found t now row apart there =
    let at = Contains-unfilter (is_live_row t.limit now) t.rows row there in
    (there_row row.lease.id t.rows row apart at.0 refl, at.1)

pub found_lives : (t : LeaseRows) (now : ℕ) (row : Row) → AreRowsApart t.rows → Contains (live_rows t now) row → is_live t row.lease.id now ≡ true
found_lives t now row apart there = let at = row_found t now row apart there in ap (λ o. option_map_or (is_live_row t.limit now) o false) at.0 ∙ at.1

pub found_kept : (t : LeaseRows) (now : ℕ) (row : Row) → AreRowsApart t.rows → Contains (live_rows t now) row → is_kept t row.lease.id ≡ row.kept
found_kept t now row apart there = ap (λ o. option_map_or (λ (r : Row). r.kept) o false) (row_found t now row apart there).0

-- what lives of the rows that are left is left of those that live
pub live_without : (limit now id : ℕ) (rows : List Row) → filter (is_live_row limit now) (without id rows) ≡ without id (filter (is_live_row limit now) rows)
live_without limit now id rows = filter_swaps (is_live_row limit now) (λ row. not (has_id id row)) rows
