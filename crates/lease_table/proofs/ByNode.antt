-- Rows by node: no other row is of a node than the one that is noted for it.
use Rattle.std.proofs.Common.{◌≡◌, ℕ, List, [], ◌∷◌, refl, ap, sym, ◌∙◌, subst, ◌⊎◌, ⊎_elim, Bool, true, false, cond, Option, Some, None}
use Rattle.std.specs.Prelude.{not, ◌||◌, ◌&&◌, eqb, slice_get, if◌then◌else◌}
use Rattle.std.specs.List.{list_any, IsDistinct, AllByRecursion}
use Rattle.std.proofs.lemmas.Bool.{cases_Bool, or_from, eqb-true, eq-eqb, ne_eqb, false≢true}
use Rattle.std.proofs.lemmas.Option.{same_Some}
use Rattle.lease_table.specs.declared.leases.Row.{Row}
use Rattle.lease_table.specs.Rows.{is_live_row, has_id, is_of, row_with, without, without_node}
use Rattle.lease_table.specs.Tables.{IsNoted}
use Rattle.lease_table.proofs.ByNumber.{Differ, ids_of, others, unchanged}

-- what the look-ups say of a node
abbrev pub node_lives : ℕ → ℕ → ℕ → Option Row → Bool
node_lives limit now node None = false
node_lives limit now node (Some row) = is_of node row && is_live_row limit now row

abbrev pub noted_lives : ℕ → ℕ → ℕ → List Row → Option ℕ → Bool
noted_lives limit now node rows None = false
noted_lives limit now node rows (Some id) = node_lives limit now node (row_with id rows)

abbrev lives_of : ℕ → ℕ → ℕ → Row → Bool
lives_of limit now node row = is_of node row && is_live_row limit now row

not_of : (limit now node : ℕ) (row : Row) (b : Bool) → is_of node row ≡ b → (b ≡ true → ⊥) → lives_of limit now node row ≡ false
not_of limit now node row true is absurd_b = absurd (absurd_b refl)
not_of limit now node row false is absurd_b = ap (λ b. b && is_live_row limit now row) is

-- a row of the node has the number that is noted of it
number_of : (node : ℕ) (numbers : List ℕ) (row : Row) → IsNoted numbers row → is_of node row ≡ true → slice_get numbers node ≡ Some row.lease.id
number_of node numbers row noted own = subst (λ n. slice_get numbers n ≡ Some row.lease.id) (sym (eqb-true node row.lease.node own)) noted

-- no row is of a node of which another number, or none, was noted
none_of : (limit now node : ℕ) (numbers : List ℕ) (rows : List Row) → AllByRecursion (IsNoted numbers) rows → AllByRecursion (λ k. slice_get numbers node ≡ Some k → ⊥) (ids_of rows)
    → list_any (lives_of limit now node) rows ≡ false
none_of limit now node numbers [] noted other = refl
none_of limit now node numbers (row ∷ rows) noted other =
    or_from (lives_of limit now node row) (list_any (lives_of limit now node) rows)
    (not_of limit now node row (is_of node row) refl (λ own. other.0 (number_of node numbers row noted.0 own)))
    (none_of limit now node numbers rows noted.1 other.1)

others_free : (node : ℕ) (numbers : List ℕ) (ks : List ℕ) → slice_get numbers node ≡ None → AllByRecursion (λ k. slice_get numbers node ≡ Some k → ⊥) ks
others_free node numbers [] none = tt
others_free node numbers (k ∷ ks) none = (λ some. let clash = sym none ∙ some in cc, others_free node numbers ks none)

others_differ : (node id : ℕ) (numbers : List ℕ) (ks : List ℕ) → slice_get numbers node ≡ Some id → Differ id ks → AllByRecursion (λ k. slice_get numbers node ≡ Some k → ⊥) ks
others_differ node id numbers [] known differ = tt
others_differ node id numbers (k ∷ ks) known differ =
    (λ some. false≢true (sym differ.0 ∙ eq-eqb id k (same_Some id k (sym known ∙ some))), others_differ node id numbers ks known differ.1)

or_false_behind : (a b : Bool) → b ≡ false → (a || b) ≡ a
or_false_behind true b e = refl
or_false_behind false b e = e

or_false_before : (a b : Bool) → a ≡ false → (a || b) ≡ b
or_false_before a b e = ap (λ x. x || b) e

-- a row with another number is not of the node
not_own : (node id : ℕ) (numbers : List ℕ) (row : Row) → IsNoted numbers row → slice_get numbers node ≡ Some id → has_id id row ≡ false → is_of node row ≡ true → ⊥
not_own node id numbers row noted known other own =
    false≢true (sym other ∙ eq-eqb id row.lease.id (same_Some id row.lease.id (sym known ∙ number_of node numbers row noted own)))

leased_at : (limit now node id : ℕ) (numbers : List ℕ) (rows : List Row) → IsDistinct eqb (ids_of rows) → AllByRecursion (IsNoted numbers) rows
    → slice_get numbers node ≡ Some id → list_any (lives_of limit now node) rows ≡ node_lives limit now node (row_with id rows)
unfolding IsDistinct
leased_at limit now node id numbers [] unique noted known = refl
leased_at limit now node id numbers (row ∷ rows) unique noted known = ⊎_elim
    (λ own.
    let rest : list_any (lives_of limit now node) rows ≡ false =
    none_of limit now node numbers rows noted.1 (others_differ node id numbers (ids_of rows) known (others id row.lease.id (ids_of rows) own unique.0)) in
    or_false_behind (lives_of limit now node row) (list_any (lives_of limit now node) rows) rest ∙ ap (λ b. node_lives limit now node (cond b (Some row) (row_with id rows))) (sym own))
    (λ other.
    or_false_before (lives_of limit now node row) (list_any (lives_of limit now node) rows) (not_of limit now node row (is_of node row) refl (not_own node id numbers row noted.0 known other))
    ∙ leased_at limit now node id numbers rows unique.1 noted.1 known ∙ ap (λ b. node_lives limit now node (cond b (Some row) (row_with id rows))) (sym other))
    (cases_Bool (has_id id row))

pub leased_is : (limit now node : ℕ) (numbers : List ℕ) (rows : List Row) → IsDistinct eqb (ids_of rows) → AllByRecursion (IsNoted numbers) rows
    → list_any (λ row. is_of node row && is_live_row limit now row) rows ≡ noted_lives limit now node rows (slice_get numbers node)
leased_is limit now node numbers rows unique noted = by (slice_get numbers node) refl
  where
    by : (o : Option ℕ) → slice_get numbers node ≡ o → list_any (λ row. is_of node row && is_live_row limit now row) rows ≡ noted_lives limit now node rows o
    by None e = none_of limit now node numbers rows noted (others_free node numbers (ids_of rows) e)
    by (Some id) e = leased_at limit now node id numbers rows unique noted e

none_left : (node id : ℕ) (numbers : List ℕ) (rows : List Row) → AllByRecursion (IsNoted numbers) rows → slice_get numbers node ≡ Some id → Differ id (ids_of rows) → without_node node rows ≡ rows
none_left node id numbers [] noted known differ = refl
none_left node id numbers (row ∷ rows) noted known differ =
    let other : is_of node row ≡ false = ne_eqb node row.lease.node (λ same. not_own node id numbers row noted.0 known differ.0 (eq-eqb node row.lease.node same)) in
    λ i. cond (not (other i)) (row ∷ none_left node id numbers rows noted.1 known differ.1 i) (without_node node rows)

-- what the row of a number leaves, where it goes if it is of a node
abbrev pub left_of : ℕ → ℕ → List Row → Option Row → List Row
left_of node id rows None = rows
left_of node id rows (Some row) = if is_of node row then without id rows else rows

left_later : (node id : ℕ) (row : Row) (rows : List Row) (o : Option Row) → has_id id row ≡ false → row ∷ left_of node id rows o ≡ left_of node id (row ∷ rows) o
left_later node id row rows None other = refl
left_later node id row rows (Some r) other = by (is_of node r)
  where
    by : (b : Bool) → row ∷ (if b then without id rows else rows) ≡ (if b then without id (row ∷ rows) else row ∷ rows)
    by true = sym (ap (λ c. cond (not c) (row ∷ without id rows) (without id rows)) other)
    by false = refl

left_here : (id : ℕ) (row : Row) (rows : List Row) (b : Bool) → has_id id row ≡ true → Differ id (ids_of rows) → cond (not b) (row ∷ rows) rows ≡ (if b then without id (row ∷ rows) else row ∷ rows)
left_here id row rows true own differ = sym (unchanged id rows differ) ∙ sym (ap (λ c. cond (not c) (row ∷ without id rows) (without id rows)) own)
left_here id row rows false own differ = refl

-- the row of a node has its last number, if any has
pub last_left : (node id : ℕ) (numbers : List ℕ) (rows : List Row) → IsDistinct eqb (ids_of rows) → AllByRecursion (IsNoted numbers) rows → slice_get numbers node ≡ Some id
    → without_node node rows ≡ left_of node id rows (row_with id rows)
unfolding IsDistinct
last_left node id numbers [] unique noted known = refl
last_left node id numbers (row ∷ rows) unique noted known = ⊎_elim
    (λ own.
    let differ : Differ id (ids_of rows) = others id row.lease.id (ids_of rows) own unique.0 in
    ap (λ rs. cond (not (is_of node row)) (row ∷ rs) rs) (none_left node id numbers rows noted.1 known differ)
    ∙ left_here id row rows (is_of node row) own differ
    ∙ ap (λ b. left_of node id (row ∷ rows) (cond b (Some row) (row_with id rows))) (sym own))
    (λ other.
    let apart : is_of node row ≡ false = ne_eqb node row.lease.node (λ same. not_own node id numbers row noted.0 known other (eq-eqb node row.lease.node same)) in
    ap (λ b. cond (not b) (row ∷ without_node node rows) (without_node node rows)) apart
    ∙ ap (λ rs. row ∷ rs) (last_left node id numbers rows unique.1 noted.1 known)
    ∙ left_later node id row rows (row_with id rows) other
    ∙ ap (λ b. left_of node id (row ∷ rows) (cond b (Some row) (row_with id rows))) (sym other))
    (cases_Bool (has_id id row))
