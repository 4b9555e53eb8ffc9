-- Sweeping forgets nothing that lives.
use Rattle.std.proofs.Common.{◌≡◌, ℕ, ◌≤◌, ◌+◌, List, [], ◌∷◌, refl, ap, sym, ◌∙◌, arith, ◌⊎◌, ⊎_elim, Bool, true, false, cond}
use Rattle.std.specs.Prelude.{nat_lt, ◌||◌, ◌&&◌, filter}
use Rattle.std.specs.List.{list_any}
use Rattle.std.proofs.lemmas.Bool.{and_parts, false≢true, or_left, or_right, or_cases, lt-ltb, ltb-true}
use Rattle.lease_table.specs.declared.leases.Row.{Row}
use Rattle.lease_table.specs.Rows.{is_live_row, is_of}

lives_earlier : (limit now later : ℕ) (row : Row) → now ≤ later → is_live_row limit later row ≡ true → is_live_row limit now row ≡ true
lives_earlier limit now later row le h = ⊎_elim
    (λ kept. or_left row.kept (nat_lt now (row.lease.id + limit)) kept)
    (λ lasts. or_right row.kept (nat_lt now (row.lease.id + limit)) (lt-ltb now (row.lease.id + limit) (omega (arith, le, ltb-true later (row.lease.id + limit) lasts))))
    (or_cases row.kept (nat_lt later (row.lease.id + limit)) h)

within_by : (p q : Bool) (row : Row) (rows swept : List Row) (f : Row → Bool) → f row ≡ p → (p ≡ true → q ≡ true) → filter f swept ≡ filter f rows → filter f (cond q (row ∷ swept) swept) ≡ cond p (row ∷ filter f rows) (filter f rows)
within_by p true row rows swept f is inside rest = λ i. cond (is i) (row ∷ rest i) (rest i)
within_by false false row rows swept f is inside rest = rest
within_by true false row rows swept f is inside rest = absurd (false≢true (inside refl))

filter_within : (p q : Row → Bool) → ((row : Row) → p row ≡ true → q row ≡ true) → (rows : List Row) → filter p (filter q rows) ≡ filter p rows
filter_within p q inside [] = refl
filter_within p q inside (row ∷ rows) = within_by (p row) (q row) row rows (filter q rows) p refl (inside row) (filter_within p q inside rows)

pub swept_later : (limit now later : ℕ) (rows : List Row) → now ≤ later → filter (is_live_row limit later) (filter (is_live_row limit now) rows) ≡ filter (is_live_row limit later) rows
swept_later limit now later rows le = filter_within (is_live_row limit later) (is_live_row limit now) (λ row. lives_earlier limit now later row le) rows

any_by : (p q : Bool) (row : Row) (rows swept : List Row) (f : Row → Bool) → f row ≡ p → (p ≡ true → q ≡ true) → list_any f swept ≡ list_any f rows → list_any f (cond q (row ∷ swept) swept) ≡ (f row || list_any f rows)
any_by p true row rows swept f is inside rest = ap (λ b. f row || b) rest
any_by false false row rows swept f is inside rest = rest ∙ sym (ap (λ b. b || list_any f rows) is)
any_by true false row rows swept f is inside rest = absurd (false≢true (inside refl))

any_within : (p q : Row → Bool) → ((row : Row) → p row ≡ true → q row ≡ true) → (rows : List Row) → list_any p (filter q rows) ≡ list_any p rows
any_within p q inside [] = refl
any_within p q inside (row ∷ rows) = any_by (p row) (q row) row rows (filter q rows) p refl (inside row) (any_within p q inside rows)

pub swept_free : (limit node now later : ℕ) (rows : List Row) → now ≤ later
    → list_any (λ row. is_of node row && is_live_row limit later row) (filter (is_live_row limit now) rows) ≡ list_any (λ row. is_of node row && is_live_row limit later row) rows
swept_free limit node now later rows le =
    any_within (λ row. is_of node row && is_live_row limit later row) (is_live_row limit now)
    (λ row h. lives_earlier limit now later row le (and_parts (is_of node row) (is_live_row limit later row) h).1) rows
