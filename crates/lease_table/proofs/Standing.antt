-- The rows among the places, by a test of a row: which stay, how many pass, and which is first.
use Rattle.std.proofs.Common.{◌≡◌, ℕ, ◌+◌, List, [], ◌∷◌, ◌++◌, refl, ap, sym, ◌∙◌, length, suc, Bool, true, false, cond, Option, Some, None, map}
use Rattle.std.specs.Prelude.{is_some, filter, find, count_by}
use Rattle.std.specs.List.{cons_option}
use Rattle.std.specs.Option.{option_flatten, option_map_or}
use Rattle.std.proofs.lemmas.List.Sums.{length-filter}
use Rattle.lease_table.specs.declared.leases.Row.{Row}
use Rattle.lease_table.specs.Tables.{Entry, rows_of}

module _ (test : Row → Bool) where
  abbrev stands : Entry → Bool
  stands e = option_map_or test e.1 false

  slot_filtered : (k : ℕ) (slot : Option Row) (es : List Entry) (rows : List Row) → rows_of es ≡ rows → rows_of (cond (stands (k, slot)) ((k, slot) ∷ es) es) ≡ filter test (cons_option slot []) ++ rows
  slot_filtered k None es rows rest = rest
  slot_filtered k (Some row) es rows rest = by (test row)
    where
      by : (b : Bool) → rows_of (cond b ((k, Some row) ∷ es) es) ≡ cond b (row ∷ []) [] ++ rows
      by true = ap (λ rs. row ∷ rs) rest
      by false = rest

  split_filtered : (slot : Option Row) (rows : List Row) → filter test (cons_option slot []) ++ filter test rows ≡ filter test (cons_option slot rows)
  split_filtered None rows = refl
  split_filtered (Some row) rows = by (test row)
    where
      by : (b : Bool) → cond b (row ∷ []) [] ++ filter test rows ≡ cond b (row ∷ filter test rows) (filter test rows)
      by true = refl
      by false = refl

  pub rows_filtered : (es : List Entry) → rows_of (filter stands es) ≡ filter test (rows_of es)
  rows_filtered [] = refl
  rows_filtered (e ∷ es) = slot_filtered e.0 e.1 (filter stands es) (filter test (rows_of es)) (rows_filtered es) ∙ split_filtered e.1 (rows_of es)

  slot_counted : (slot : Option Row) (slots : List (Option Row)) (rows : List Row) → length (filter (λ s. option_map_or test s false) slots) ≡ length (filter test rows)
      → length (filter (λ s. option_map_or test s false) (slot ∷ slots)) ≡ length (filter test (cons_option slot rows))
  slot_counted None slots rows rest = rest
  slot_counted (Some row) slots rows rest = by (test row)
    where
      by : (b : Bool) → length (cond b (Some row ∷ filter (λ s. option_map_or test s false) slots) (filter (λ s. option_map_or test s false) slots)) ≡ length (cond b (row ∷ filter test rows) (filter test rows))
      by true = ap suc rest
      by false = rest

  lengths_filtered : (es : List Entry) → length (filter (λ slot. option_map_or test slot false) (map (λ e. e.1) es)) ≡ length (filter test (rows_of es))
  lengths_filtered [] = refl
  lengths_filtered (e ∷ es) = slot_counted e.1 (map (λ f. f.1) es) (rows_of es) (lengths_filtered es)

  pub rows_counted : (es : List Entry) → count_by (λ slot. option_map_or test slot false) (map (λ e. e.1) es) ≡ count_by test (rows_of es)
  rows_counted es = sym (length-filter (λ slot. option_map_or test slot false) (map (λ e. e.1) es)) ∙ lengths_filtered es ∙ length-filter test (rows_of es)

  row_first : (row : Row) (o : Option (Option Row)) (p : Option Row) (b : Bool) → option_flatten o ≡ p → option_flatten (cond b (Some (Some row)) o) ≡ cond b (Some row) p
  row_first row o p true rest = refl
  row_first row o p false rest = rest

  slot_first : (slot : Option Row) (slots : List (Option Row)) (rows : List Row) → option_flatten (find (λ s. option_map_or test s false) slots) ≡ find test rows
      → option_flatten (find (λ s. option_map_or test s false) (slot ∷ slots)) ≡ find test (cons_option slot rows)
  slot_first None slots rows rest = rest
  slot_first (Some row) slots rows rest = row_first row (find (λ s. option_map_or test s false) slots) (find test rows) (test row) rest

  pub first_found : (es : List Entry) → option_flatten (find (λ slot. option_map_or test slot false) (map (λ e. e.1) es)) ≡ find test (rows_of es)
  first_found [] = refl
  first_found (e ∷ es) = slot_first e.1 (map (λ f. f.1) es) (rows_of es) (first_found es)

slot_packed : (k : ℕ) (slot : Option Row) (es : List Entry) (rows : List Row) → rows_of es ≡ rows → rows_of (cond (is_some slot) ((k, slot) ∷ es) es) ≡ cons_option slot rows
slot_packed k None es rows rest = rest
slot_packed k (Some row) es rows rest = ap (λ rs. row ∷ rs) rest

-- no row goes with the places of leases that ended
pub rows_packed : (es : List Entry) → rows_of (filter (λ e. is_some e.1) es) ≡ rows_of es
rows_packed [] = refl
rows_packed (e ∷ es) = slot_packed e.0 e.1 (filter (λ f. is_some f.1) es) (rows_of es) (rows_packed es)
