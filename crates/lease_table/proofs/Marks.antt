-- Keeping, unkeeping and ending: what a change under one number makes of the rows, and of the table.
use Rattle.std.proofs.Common.{◌≡◌, ℕ, List, [], ◌∷◌, refl, ap, sym, ◌∙◌, subst, ◌⊎◌, ⊎_elim, Bool, true, false, cond, Option, Some, None}
use Rattle.std.specs.Prelude.{is_some, not, eqb, filter}
use Rattle.std.specs.List.{cons_option, IsDistinct, AllByRecursion}
use Rattle.std.specs.Map.{keys_of, lookup}
use Rattle.std.specs.Option.{option_map_or}
use Rattle.indexmap.specs.IndexMap.{insert_entry}
use Rattle.std.proofs.lemmas.Bool.{cases_Bool}
use Rattle.std.proofs.lemmas.Option.{same_Some}
use Rattle.lease_table.specs.declared.leases.Row.{Row}
use Rattle.lease_table.specs.Rows.{has_id, row_with, without, marked}
use Rattle.lease_table.specs.Tables.{Entry, rows_of, IsKeyed, IsNoted, IsLeaseTable}
use Rattle.lease_table.proofs.ByNumber.{Differ, ids_differ, ids_of, others, stands_under, unchanged}
use Rattle.lease_table.proofs.Standing.{rows_filtered}
use Rattle.lease_table.proofs.Each.{each_filtered, each_found, each_inserted}

unmarked : (id : ℕ) (kept : Bool) (rows : List Row) → Differ id (ids_of rows) → marked id kept rows ≡ rows
unmarked id kept [] differ = refl
unmarked id kept (row ∷ rows) differ = λ i. cond (differ.0 i) (record row { kept = kept }) row ∷ unmarked id kept rows differ.1 i

marked_own : (id k : ℕ) (kept : Bool) (row : Row) (slot : Option Row) (rows : List Row) → slot ≡ Some row → eqb id k ≡ true → IsKeyed (k, slot) → Differ id (ids_of rows)
    → record row { kept = kept } ∷ rows ≡ marked id kept (cons_option slot rows)
marked_own id k kept row None rows is own keyed differ = absurd cc
marked_own id k kept row (Some r) rows is own keyed differ =
    let same : r ≡ row = same_Some r row is in
    let mine : has_id id r ≡ true = subst (λ n. eqb id n ≡ true) keyed own in
    sym (λ i. cond (mine i) (record (same i) { kept = kept }) r ∷ unmarked id kept rows differ i)

marked_other : (id k : ℕ) (kept : Bool) (slot : Option Row) (new rows : List Row) → eqb id k ≡ false → IsKeyed (k, slot) → new ≡ marked id kept rows → cons_option slot new ≡ marked id kept (cons_option slot rows)
marked_other id k kept None new rows other keyed rest = rest
marked_other id k kept (Some r) new rows other keyed rest =
    let differs : has_id id r ≡ false = subst (λ n. eqb id n ≡ false) keyed other in
    sym (λ i. cond (differs i) (record r { kept = kept }) r ∷ sym rest i)

pub marked_is : (id : ℕ) (kept : Bool) (es : List Entry) (row : Row) → IsDistinct eqb (keys_of es) → AllByRecursion IsKeyed es → lookup (eqb id) es ≡ Some (Some row)
    → rows_of (insert_entry eqb es id (Some (record row { kept = kept }))) ≡ marked id kept (rows_of es)
unfolding IsDistinct
marked_is id kept [] row unique keyed known = absurd (cc)
marked_is id kept (e ∷ es) row unique keyed known = ⊎_elim
    (λ own.
    let v : Option Row = Some (record row { kept = kept }) in
    let slot_is : e.1 ≡ Some row = same_Some e.1 (Some row) (ap (λ b. cond b (Some e.1) (lookup (eqb id) es)) (sym own) ∙ known) in
    ap (λ b. rows_of (cond b ((e.0, v) ∷ es) (e ∷ insert_entry eqb es id v))) own
    ∙ marked_own id e.0 kept row e.1 (rows_of es) slot_is own keyed.0 (ids_differ id es keyed.1 (others id e.0 (keys_of es) own unique.0)))
    (λ other.
    let v : Option Row = Some (record row { kept = kept }) in
    let later : lookup (eqb id) es ≡ Some (Some row) = ap (λ b. cond b (Some e.1) (lookup (eqb id) es)) (sym other) ∙ known in
    ap (λ b. rows_of (cond b ((e.0, v) ∷ es) (e ∷ insert_entry eqb es id v))) other
    ∙ marked_other id e.0 kept e.1 (rows_of (insert_entry eqb es id v)) (rows_of es) other keyed.0 (marked_is id kept es row unique.1 keyed.1 later))
    (cases_Bool (eqb id e.0))

ended_own : (id k : ℕ) (slot : Option Row) (rows : List Row) → eqb id k ≡ true → IsKeyed (k, slot) → Differ id (ids_of rows) → rows ≡ without id (cons_option slot rows)
ended_own id k None rows own keyed differ = sym (unchanged id rows differ)
ended_own id k (Some row) rows own keyed differ =
    let mine : has_id id row ≡ true = subst (λ n. eqb id n ≡ true) keyed own in
    sym (unchanged id rows differ) ∙ sym (ap (λ b. cond (not b) (row ∷ without id rows) (without id rows)) mine)

ended_other : (id k : ℕ) (slot : Option Row) (new rows : List Row) → eqb id k ≡ false → IsKeyed (k, slot) → new ≡ without id rows → cons_option slot new ≡ without id (cons_option slot rows)
ended_other id k None new rows other keyed rest = rest
ended_other id k (Some row) new rows other keyed rest =
    let differs : has_id id row ≡ false = subst (λ n. eqb id n ≡ false) keyed other in
    ap (λ rs. row ∷ rs) rest ∙ sym (ap (λ b. cond (not b) (row ∷ without id rows) (without id rows)) differs)

-- putting none under a number ends its lease
pub ended_is : (id : ℕ) (es : List Entry) → IsDistinct eqb (keys_of es) → AllByRecursion IsKeyed es → rows_of (insert_entry eqb es id None) ≡ without id (rows_of es)
unfolding IsDistinct
ended_is id [] unique keyed = refl
ended_is id (e ∷ es) unique keyed = ⊎_elim
    (λ own.
    ap (λ b. rows_of (cond b ((e.0, None) ∷ es) (e ∷ insert_entry eqb es id None))) own
    ∙ ended_own id e.0 e.1 (rows_of es) own keyed.0 (ids_differ id es keyed.1 (others id e.0 (keys_of es) own unique.0)))
    (λ other.
    ap (λ b. rows_of (cond b ((e.0, None) ∷ es) (e ∷ insert_entry eqb es id None))) other
    ∙ ended_other id e.0 e.1 (rows_of (insert_entry eqb es id None)) (rows_of es) other keyed.0 (ended_is id es unique.1 keyed.1))
    (cases_Bool (eqb id e.0))

noted_marked : (id : ℕ) (kept : Bool) (numbers : List ℕ) (rows : List Row) → AllByRecursion (IsNoted numbers) rows → AllByRecursion (IsNoted numbers) (marked id kept rows)
noted_marked id kept numbers [] noted = tt
noted_marked id kept numbers (row ∷ rows) noted = (by (has_id id row), noted_marked id kept numbers rows noted.1)
  where
    by : (b : Bool) → IsNoted numbers (cond b (record row { kept = kept }) row)
    by true = noted.0
    by false = noted.0

pub marked_table : (id : ℕ) (kept : Bool) (es new : List Entry) (row : Row) (numbers : List ℕ) → IsLeaseTable es numbers → IsDistinct eqb (keys_of new) → lookup (eqb id) es ≡ Some (Some row)
    → new ≡ insert_entry eqb es id (Some (record row { kept = kept })) → IsLeaseTable new numbers
marked_table id kept es new row numbers table unique known same =
    let own : id ≡ row.lease.id = each_found IsKeyed id es (Some row) table.keyed known in
    record {
      unique = unique;
      keyed = subst (AllByRecursion IsKeyed) (sym same) (each_inserted IsKeyed id (Some (record row { kept = kept })) es table.keyed own);
      noted = subst (AllByRecursion (IsNoted numbers)) (sym (ap rows_of same ∙ marked_is id kept es row table.unique table.keyed known)) (noted_marked id kept numbers (rows_of es) table.noted);
    }

-- What putting a row in its place, marked, leaves: a table still, and its rows with that one marked.
pub record IsMarkedTable (id : ℕ) (kept : Bool) (es new : List Entry) (numbers : List ℕ) : Type 0 where
  pub table : IsLeaseTable new numbers
  pub rows : rows_of new ≡ marked id kept (rows_of es)

pub marked_call : (kept : Bool) (id number : ℕ) (es new : List Entry) (row : Row) (numbers : List ℕ) → IsLeaseTable es numbers → row_with id (rows_of es) ≡ Some row → number ≡ id
    → IsDistinct eqb (keys_of new) → new ≡ insert_entry eqb es number (Some (record row { kept = kept })) → IsMarkedTable id kept es new numbers
marked_call kept id number es new row numbers table found own unique put =
    let known : lookup (eqb id) es ≡ Some (Some row) = stands_under id es row table.unique table.keyed found in
    let same : new ≡ insert_entry eqb es id (Some (record row { kept = kept })) = put ∙ ap (λ k. insert_entry eqb es k (Some (record row { kept = kept }))) own in
    record {
      table = marked_table id kept es new row numbers table unique known same;
      rows = ap rows_of same ∙ marked_is id kept es row table.unique table.keyed known;
    }

-- the number of a row has a place
pub marked_place : (id number : ℕ) (es : List Entry) (row : Row) (numbers : List ℕ) → IsLeaseTable es numbers → row_with id (rows_of es) ≡ Some row → number ≡ id
    → is_some (lookup (eqb number) es) ≡ true
marked_place id number es row numbers table found own =
    ap (λ k. is_some (lookup (eqb k) es)) own ∙ ap (λ (o : Option (Option Row)). is_some o) (stands_under id es row table.unique table.keyed found)

pub ended_table : (id : ℕ) (es new : List Entry) (numbers : List ℕ) → IsLeaseTable es numbers → IsDistinct eqb (keys_of new) → new ≡ insert_entry eqb es id None → IsLeaseTable new numbers
ended_table id es new numbers table unique same = record {
  unique = unique;
  keyed = subst (AllByRecursion IsKeyed) (sym same) (each_inserted IsKeyed id None es table.keyed tt);
  noted = subst (AllByRecursion (IsNoted numbers)) (sym (ap rows_of same ∙ ended_is id es table.unique table.keyed))
      (each_filtered (IsNoted numbers) (λ row. not (has_id id row)) (rows_of es) table.noted);
}

pub swept_table : (test : Row → Bool) (es new : List Entry) (numbers : List ℕ) → IsLeaseTable es numbers → IsDistinct eqb (keys_of new) → new ≡ filter (λ e. option_map_or test e.1 false) es → IsLeaseTable new numbers
swept_table test es new numbers table unique same = record {
  unique = unique;
  keyed = subst (AllByRecursion IsKeyed) (sym same) (each_filtered IsKeyed (λ e. option_map_or test e.1 false) es table.keyed);
  noted = subst (AllByRecursion (IsNoted numbers)) (sym (ap rows_of same ∙ rows_filtered test es)) (each_filtered (IsNoted numbers) test (rows_of es) table.noted);
}
