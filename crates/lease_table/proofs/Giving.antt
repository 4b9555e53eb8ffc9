-- Giving a lease: room is made, the last lease of the node ends, and the new one is put behind the others.
use Rattle.std.proofs.Common.{◌≡◌, ℕ, ◌+◌, List, [], ◌∷◌, ◌++◌, refl, ap, sym, ◌∙◌, subst, ◌⊎◌, ⊎_elim, ◌<◌, length, Bool, true, false, cond, Option, Some, None}
use Rattle.std.specs.Prelude.{Result, Ok, Err, OnErr, is_some, not, eqb, filter, slice_get, if◌then◌else◌}
use Rattle.std.specs.List.{IsDistinct, AllByRecursion}
use Rattle.std.specs.Map.{keys_of, lookup}
use Rattle.std.specs.Option.{option_flatten, option_map_or}
use Rattle.indexmap.specs.IndexMap.{insert_entry}
use Rattle.std.proofs.lemmas.Bool.{cases_Bool, eqb-true, eq-eqb, false≢true}
use Rattle.std.proofs.lemmas.Option.{slice_get-get_or, slice_get_within, get_or_from_slice_get}
use Rattle.std.proofs.lemmas.List.{get_or-set_same, get_or-set_other, length-set}
use Rattle.std.proofs.lemmas.List.Elements.{filter_map-append}
use Rattle.std.proofs.Math.ListN.{set}
use Rattle.lease_table.specs.declared.leases.Row.{Row}
use Rattle.lease_table.specs.Rows.{is_of, row_with, without, without_node}
use Rattle.lease_table.specs.Tables.{Entry, rows_of, IsKeyed, IsNoted, IsLeaseTable}
use Rattle.lease_table.proofs.ByNumber.{ids_distinct, none_among, others, row_found}
use Rattle.lease_table.proofs.ByNode.{last_left, left_of}
use Rattle.lease_table.proofs.Standing.{rows_packed}
use Rattle.lease_table.proofs.Each.{each_filtered, each_inserted, each_pushed}
use Rattle.lease_table.proofs.Marks.{ended_is}

absent_filtered : (test : Entry → Bool) (id : ℕ) (es : List Entry) → lookup (eqb id) es ≡ None → lookup (eqb id) (filter test es) ≡ None
absent_filtered test id [] none = refl
absent_filtered test id (e ∷ es) none = by (eqb id e.0) (test e) refl none (absent_filtered test id es)
  where
    by : (b c : Bool) → eqb id e.0 ≡ b → cond b (Some e.1) (lookup (eqb id) es) ≡ None → (lookup (eqb id) es ≡ None → lookup (eqb id) (filter test es) ≡ None)
        → lookup (eqb id) (cond c (e ∷ filter test es) (filter test es)) ≡ None
    by true c is none rest = absurd cc
    by false true is none rest = ap (λ b. cond b (Some e.1) (lookup (eqb id) (filter test es))) is ∙ rest none
    by false false is none rest = rest none

packed_own : (id k : ℕ) (slot : Option Row) (es : List Entry) → slot ≡ None → lookup (eqb id) es ≡ None → lookup (eqb id) (cond (is_some slot) ((k, slot) ∷ es) es) ≡ None
packed_own id k None es is rest = rest
packed_own id k (Some row) es is rest = absurd cc

packed_other : (id k : ℕ) (slot : Option Row) (es : List Entry) → eqb id k ≡ false → lookup (eqb id) es ≡ None → lookup (eqb id) (cond (is_some slot) ((k, slot) ∷ es) es) ≡ None
packed_other id k None es other rest = rest
packed_other id k (Some row) es other rest = ap (λ b. cond b (Some (Some row)) (lookup (eqb id) es)) other ∙ rest

-- a number that no row has is under none of the places that stay
pub packed_absent : (id : ℕ) (es : List Entry) → IsDistinct eqb (keys_of es) → option_flatten (lookup (eqb id) es) ≡ None → lookup (eqb id) (filter (λ e. is_some e.1) es) ≡ None
unfolding IsDistinct
packed_absent id [] unique none = refl
packed_absent id (e ∷ es) unique none = ⊎_elim
    (λ own.
    packed_own id e.0 e.1 (filter (λ f. is_some f.1) es) (ap (λ b. option_flatten (cond b (Some e.1) (lookup (eqb id) es))) (sym own) ∙ none)
    (absent_filtered (λ f. is_some f.1) id es (none_among id es (others id e.0 (keys_of es) own unique.0))))
    (λ other.
    packed_other id e.0 e.1 (filter (λ f. is_some f.1) es) other
    (packed_absent id es unique.1 (ap (λ b. option_flatten (cond b (Some e.1) (lookup (eqb id) es))) (sym other) ∙ none)))
    (cases_Bool (eqb id e.0))

-- a lease that lives has a place
pub live_stands : (f : Row → Bool) (id : ℕ) (es : List Entry) → IsDistinct eqb (keys_of es) → AllByRecursion IsKeyed es → option_map_or f (row_with id (rows_of es)) false ≡ true → is_some (lookup (eqb id) es) ≡ true
live_stands f id es unique keyed lives = by (lookup (eqb id) es) (ap (λ o. option_map_or f o false) (sym (row_found id es unique keyed)) ∙ lives)
  where
    by : (o : Option (Option Row)) → option_map_or f (option_flatten o) false ≡ true → is_some o ≡ true
    by None e = absurd (false≢true e)
    by (Some slot) e = refl

pub on_err : {T E : Type 0} (P : Type 0) (r : Result T E) → P → OnErr r P
on_err P (Ok x) p = tt
on_err P (Err e) p = p

-- what stands where the list reaches further
abbrev pub Reaches : List ℕ → List ℕ → Type 0
Reaches numbers longer = (k n : ℕ) → slice_get numbers k ≡ Some n → slice_get longer k ≡ Some n

noted_reached : (numbers longer : List ℕ) (rows : List Row) → Reaches numbers longer → AllByRecursion (IsNoted numbers) rows → AllByRecursion (IsNoted longer) rows
noted_reached numbers longer [] reaches noted = tt
noted_reached numbers longer (row ∷ rows) reaches noted = (reaches row.lease.node row.lease.id noted.0, noted_reached numbers longer rows reaches noted.1)

-- the same rows, with or without the places of leases that ended
abbrev pub IsRoomFor : List Entry → List Entry → Type 0
IsRoomFor es roomy = (roomy ≡ es) ⊎ (roomy ≡ filter (λ e. is_some e.1) es)

pub roomy_rows : (es roomy : List Entry) → IsRoomFor es roomy → rows_of roomy ≡ rows_of es
roomy_rows es roomy = ⊎_elim (λ same. ap rows_of same) (λ packed. ap rows_of packed ∙ rows_packed es)

roomy_keyed : (es roomy : List Entry) → AllByRecursion IsKeyed es → IsRoomFor es roomy → AllByRecursion IsKeyed roomy
roomy_keyed es roomy keyed = ⊎_elim (λ same. subst (AllByRecursion IsKeyed) (sym same) keyed)
    (λ packed. subst (AllByRecursion IsKeyed) (sym packed) (each_filtered IsKeyed (λ e. is_some e.1) es keyed))

pub roomy_table : (es roomy : List Entry) (numbers longer : List ℕ) → IsLeaseTable es numbers → IsDistinct eqb (keys_of roomy) → IsRoomFor es roomy → Reaches numbers longer → IsLeaseTable roomy longer
roomy_table es roomy numbers longer table unique room reaches = record {
  unique = unique;
  keyed = roomy_keyed es roomy table.keyed room;
  noted = subst (AllByRecursion (IsNoted longer)) (sym (roomy_rows es roomy room)) (noted_reached numbers longer (rows_of es) reaches table.noted);
}

-- the places once the last lease of a node has ended
abbrev pub freed : ℕ → ℕ → List Entry → List Entry
freed node last es = if option_map_or (is_of node) (option_flatten (lookup (eqb last) es)) false then insert_entry eqb es last None else es

freed_left : (node last : ℕ) (es : List Entry) (o : Option Row) → IsDistinct eqb (keys_of es) → AllByRecursion IsKeyed es
    → rows_of (if option_map_or (is_of node) o false then insert_entry eqb es last None else es) ≡ left_of node last (rows_of es) o
freed_left node last es None unique keyed = refl
freed_left node last es (Some row) unique keyed = by (is_of node row)
  where
    by : (b : Bool) → rows_of (if b then insert_entry eqb es last None else es) ≡ (if b then without last (rows_of es) else rows_of es)
    by true = ended_is last es unique keyed
    by false = refl

pub freed_rows : (node last : ℕ) (es : List Entry) (numbers : List ℕ) → IsLeaseTable es numbers → slice_get numbers node ≡ Some last → rows_of (freed node last es) ≡ without_node node (rows_of es)
freed_rows node last es numbers table known =
    freed_left node last es (option_flatten (lookup (eqb last) es)) table.unique table.keyed
    ∙ ap (left_of node last (rows_of es)) (sym (row_found last es table.unique table.keyed))
    ∙ sym (last_left node last numbers (rows_of es) (ids_distinct es table.unique table.keyed) table.noted known)

freed_keyed : (node last : ℕ) (es : List Entry) → AllByRecursion IsKeyed es → AllByRecursion IsKeyed (freed node last es)
freed_keyed node last es keyed = by (option_map_or (is_of node) (option_flatten (lookup (eqb last) es)) false)
  where
    by : (b : Bool) → AllByRecursion IsKeyed (if b then insert_entry eqb es last None else es)
    by true = each_inserted IsKeyed last None es keyed tt
    by false = keyed

absent_inserted : (id last : ℕ) (slot : Option Row) (es : List Entry) → eqb id last ≡ false → lookup (eqb id) es ≡ None → lookup (eqb id) (insert_entry eqb es last slot) ≡ None
absent_inserted id last slot [] other none = ap (λ b. cond b (Some slot) None) other
absent_inserted id last slot (e ∷ es) other none = by (eqb id e.0) (eqb last e.0) refl none (absent_inserted id last slot es other)
  where
    by : (b c : Bool) → eqb id e.0 ≡ b → cond b (Some e.1) (lookup (eqb id) es) ≡ None → (lookup (eqb id) es ≡ None → lookup (eqb id) (insert_entry eqb es last slot) ≡ None)
        → lookup (eqb id) (cond c ((e.0, slot) ∷ es) (e ∷ insert_entry eqb es last slot)) ≡ None
    by true c is none rest = absurd cc
    by false true is none rest = ap (λ b. cond b (Some slot) (lookup (eqb id) es)) is ∙ none
    by false false is none rest = ap (λ b. cond b (Some e.1) (lookup (eqb id) (insert_entry eqb es last slot))) is ∙ rest none

-- no place comes to be under another number
pub freed_absent : (node last id : ℕ) (es : List Entry) → lookup (eqb id) es ≡ None → lookup (eqb id) (freed node last es) ≡ None
freed_absent node last id es none = ⊎_elim
    (λ own.
    let same : id ≡ last = eqb-true id last own in
    let absent : lookup (eqb last) es ≡ None = subst (λ k. lookup (eqb k) es ≡ None) same none in
    ap (λ o. lookup (eqb id) (if option_map_or (is_of node) (option_flatten o) false then insert_entry eqb es last None else es)) absent ∙ none)
    (λ other. by (option_map_or (is_of node) (option_flatten (lookup (eqb last) es)) false) other)
    (cases_Bool (eqb id last))
  where
    by : (b : Bool) → eqb id last ≡ false → lookup (eqb id) (if b then insert_entry eqb es last None else es) ≡ None
    by true other = absent_inserted id last None es other none
    by false other = none

elsewhere : (numbers : List ℕ) (node now k n : ℕ) → (k ≡ node → ⊥) → slice_get numbers k ≡ Some n → slice_get (set numbers node now) k ≡ Some n
elsewhere numbers node now k n other known =
    let within : k < length (set numbers node now) = subst (λ l. k < l) (sym (length-set numbers node now)) (slice_get_within numbers k n known) in
    slice_get-get_or (set numbers node now) k n within
    ∙ ap Some (get_or-set_other numbers node k now n other ∙ get_or_from_slice_get numbers k n n known)

noted_step : (numbers : List ℕ) (node now : ℕ) (row : Row) (rows : List Row) (b : Bool) → is_of node row ≡ b → IsNoted numbers row → AllByRecursion (IsNoted (set numbers node now)) rows
    → AllByRecursion (IsNoted (set numbers node now)) (cond (not b) (row ∷ rows) rows)
noted_step numbers node now row rows true is noted rest = rest
noted_step numbers node now row rows false is noted rest =
    (elsewhere numbers node now row.lease.node row.lease.id (λ same. false≢true (sym is ∙ eq-eqb node row.lease.node (sym same))) noted, rest)

noted_others : (numbers : List ℕ) (node now : ℕ) (rows : List Row) → AllByRecursion (IsNoted numbers) rows → AllByRecursion (IsNoted (set numbers node now)) (without_node node rows)
noted_others numbers node now [] noted = tt
noted_others numbers node now (row ∷ rows) noted = noted_step numbers node now row (without_node node rows) (is_of node row) refl noted.0 (noted_others numbers node now rows noted.1)

pub given_rows : (node last now : ℕ) (row : Row) (es new : List Entry) (numbers : List ℕ) → IsLeaseTable es numbers → slice_get numbers node ≡ Some last → new ≡ freed node last es ++ (now, Some row) ∷ []
    → rows_of new ≡ without_node node (rows_of es) ++ row ∷ []
given_rows node last now row es new numbers table known same =
    ap rows_of same ∙ filter_map-append (λ (e : Entry). e.1) (freed node last es) ((now, Some row) ∷ []) ∙ ap (λ rs. rs ++ row ∷ []) (freed_rows node last es numbers table known)

pub given_table : (node last now : ℕ) (row : Row) (es new : List Entry) (numbers : List ℕ) → IsLeaseTable es numbers → slice_get numbers node ≡ Some last → IsDistinct eqb (keys_of new)
    → row.lease.id ≡ now → row.lease.node ≡ node → new ≡ freed node last es ++ (now, Some row) ∷ [] → IsLeaseTable new (set numbers node now)
given_table node last now row es new numbers table known unique number of_node same =
    let here : slice_get (set numbers node now) node ≡ Some now =
    let within : node < length (set numbers node now) = subst (λ l. node < l) (sym (length-set numbers node now)) (slice_get_within numbers node last known) in
    slice_get-get_or (set numbers node now) node now within ∙ ap Some (get_or-set_same numbers node now now (slice_get_within numbers node last known)) in
    record {
      unique = unique;
      keyed = subst (AllByRecursion IsKeyed) (sym same) (each_pushed IsKeyed (freed node last es) (now, Some row) (freed_keyed node last es table.keyed) (sym number));
      noted = subst (AllByRecursion (IsNoted (set numbers node now))) (sym (given_rows node last now row es new numbers table known same))
          (each_pushed (IsNoted (set numbers node now)) (without_node node (rows_of es)) row (noted_others numbers node now (rows_of es) table.noted)
          (ap (slice_get (set numbers node now)) of_node ∙ here ∙ ap Some (sym number)));
    }
