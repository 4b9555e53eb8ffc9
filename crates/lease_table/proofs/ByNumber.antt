-- Rows by number: what stands under a number is the row that has it.
use Rattle.std.proofs.Common.{◌≡◌, ℕ, List, [], ◌∷◌, refl, ap, sym, ◌∙◌, subst, Bool, true, false, cond, Option, Some, None, map}
use Rattle.std.specs.Prelude.{not, eqb}
use Rattle.std.specs.List.{cons_option, IsDistinct, AllByRecursion}
use Rattle.std.specs.Map.{keys_of, lookup}
use Rattle.std.specs.Option.{option_flatten}
use Rattle.std.proofs.lemmas.Bool.{eqb-true}
use Rattle.lease_table.specs.declared.leases.Row.{Row}
use Rattle.lease_table.specs.Rows.{has_id, row_with, without}
use Rattle.lease_table.specs.Tables.{Entry, rows_of, IsKeyed}

-- the numbers of rows
abbrev pub ids_of : List Row → List ℕ
ids_of = map (λ row. row.lease.id)

-- none of these is the number
abbrev pub Differ : ℕ → List ℕ → Type 0
Differ id = AllByRecursion (λ k. eqb id k ≡ false)

pub none_among : (id : ℕ) (es : List Entry) → Differ id (keys_of es) → lookup (eqb id) es ≡ None
none_among id [] differ = refl
none_among id (e ∷ es) differ = ap (λ b. cond b (Some e.1) (lookup (eqb id) es)) differ.0 ∙ none_among id es differ.1

pub others : (id k : ℕ) (ks : List ℕ) → eqb id k ≡ true → Differ k ks → Differ id ks
others id k ks own = subst (λ n. Differ n ks) (sym (eqb-true id k own))

found_at : (id k : ℕ) (slot : Option Row) (es : List Entry) (b : Bool) → eqb id k ≡ b → IsKeyed (k, slot) → (b ≡ true → lookup (eqb id) es ≡ None)
    → row_with id (rows_of es) ≡ option_flatten (lookup (eqb id) es) → row_with id (cons_option slot (rows_of es)) ≡ option_flatten (cond b (Some slot) (lookup (eqb id) es))
found_at id k None es true is keyed none rest = rest ∙ ap option_flatten (none refl)
found_at id k None es false is keyed none rest = rest
found_at id k (Some row) es true is keyed none rest =
    let mine : has_id id row ≡ true = subst (λ n. eqb id n ≡ true) keyed is in
    ap (λ b. cond b (Some row) (row_with id (rows_of es))) mine
found_at id k (Some row) es false is keyed none rest =
    let other : has_id id row ≡ false = subst (λ n. eqb id n ≡ false) keyed is in
    ap (λ b. cond b (Some row) (row_with id (rows_of es))) other ∙ rest

-- the row with a number is what stands under it
pub row_found : (id : ℕ) (es : List Entry) → IsDistinct eqb (keys_of es) → AllByRecursion IsKeyed es → row_with id (rows_of es) ≡ option_flatten (lookup (eqb id) es)
unfolding IsDistinct
row_found id [] unique keyed = refl
row_found id (e ∷ es) unique keyed =
    found_at id e.0 e.1 es (eqb id e.0) refl keyed.0 (λ own. none_among id es (others id e.0 (keys_of es) own unique.0)) (row_found id es unique.1 keyed.1)

flat_is : (o : Option (Option Row)) (row : Row) → option_flatten o ≡ Some row → o ≡ Some (Some row)
flat_is None row e = absurd cc
flat_is (Some slot) row e = ap Some e

-- where a row with a number is, it stands under it
pub stands_under : (id : ℕ) (es : List Entry) (row : Row) → IsDistinct eqb (keys_of es) → AllByRecursion IsKeyed es → row_with id (rows_of es) ≡ Some row → lookup (eqb id) es ≡ Some (Some row)
stands_under id es row unique keyed known = flat_is (lookup (eqb id) es) row (sym (row_found id es unique keyed) ∙ known)

slot_differs : (id k : ℕ) (slot : Option Row) (rows : List Row) → IsKeyed (k, slot) → eqb id k ≡ false → Differ id (ids_of rows) → Differ id (ids_of (cons_option slot rows))
slot_differs id k None rows keyed other rest = rest
slot_differs id k (Some row) rows keyed other rest = (subst (λ n. eqb id n ≡ false) keyed other, rest)

pub ids_differ : (id : ℕ) (es : List Entry) → AllByRecursion IsKeyed es → Differ id (keys_of es) → Differ id (ids_of (rows_of es))
ids_differ id [] keyed differ = tt
ids_differ id (e ∷ es) keyed differ = slot_differs id e.0 e.1 (rows_of es) keyed.0 differ.0 (ids_differ id es keyed.1 differ.1)

slot_distinct : (k : ℕ) (slot : Option Row) (rows : List Row) → IsKeyed (k, slot) → Differ k (ids_of rows) → IsDistinct eqb (ids_of rows) → IsDistinct eqb (ids_of (cons_option slot rows))
unfolding IsDistinct
slot_distinct k None rows keyed differ rest = rest
slot_distinct k (Some row) rows keyed differ rest = (subst (λ n. Differ n (ids_of rows)) keyed differ, rest)

-- no two rows have one number
pub ids_distinct : (es : List Entry) → IsDistinct eqb (keys_of es) → AllByRecursion IsKeyed es → IsDistinct eqb (ids_of (rows_of es))
unfolding IsDistinct
ids_distinct [] unique keyed = tt
ids_distinct (e ∷ es) unique keyed =
    slot_distinct e.0 e.1 (rows_of es) keyed.0 (ids_differ e.0 es keyed.1 unique.0) (ids_distinct es unique.1 keyed.1)

pub unchanged : (id : ℕ) (rows : List Row) → Differ id (ids_of rows) → without id rows ≡ rows
unchanged id [] differ = refl
unchanged id (row ∷ rows) differ = λ i. cond (not (differ.0 i)) (row ∷ unchanged id rows differ.1 i) (without id rows)
