-- What more rows, or fewer, leave of the index.
use Rattle.std.proofs.Common.{◌≡◌, ◌<◌, ◌^◌, ◌+◌, ◌-◌, ◌⊎◌, ◌≤◌, min, ℕ, inl, inr, List, [], ◌∷◌, ◌++◌, refl, sym, ◌∙◌, ap, subst, length, length-append, get_or, take, arith}
use Rattle.std.proofs.lemmas.Bool.{cases_lt}
use Rattle.std.proofs.lemmas.List.{get_or-take, get_or_append_left, get_or-append_right, length-take, map-append, nil_from_length, take-map}
use Rattle.draughts_board.specs.Board.{Board}
use Rattle.position_rows.specs.declared.tree.Node.{Node}
use Rattle.position_rows.specs.declared.windows.Slot.{Slot}
use Rattle.position_rows.specs.declared.index.Look.{Look}
use Rattle.position_rows.specs.declared.tables.Index.{Index}
use Rattle.position_rows.specs.declared.index.Look.TheVariants.{At, Free, First, Behind}
use Rattle.position_rows.specs.Rows.{IsRowAt, positions_of}
use Rattle.position_rows.specs.Tables.{IsIndexOf}
use Rattle.position_rows.specs.Looks.{AreIndexed, HasNoRow, IsEntered, IsIndexed, IsPlaceFor, TellsAll}
use Rattle.position_rows.proofs.ApartLemmas.{as_many, position_at, row_inside, row_of, row_taken}

module _ {E : Type 0} (rows : List (Board × E)) where
  -- a row stays where its place is kept
  pub row_kept : (n i : ℕ) (p : Board) → IsRowAt rows i p → i < n → IsRowAt (take n rows) i p
  row_kept n i p row below =
      let inside : i < length rows = row_inside rows i p row in
      let short : length (take n rows) ≡ min n (length rows) = length-take n rows in
      row_of (take n rows) i p p (omega arith)
      (ap (λ (qs : List Board). get_or qs i p) (sym (take-map (λ (row : Board × E). row.0) n rows))
      ∙ (get_or-take n (positions_of rows) i p below ∙ position_at rows i p p row))

  -- of one more row, either it is this one, or the row was there
  pub row_before : (n i : ℕ) (p q : Board) → IsRowAt rows n p → IsRowAt (take (n + 1) rows) i q → IsRowAt (take n rows) i q ⊎ ((i ≡ n) × (q ≡ p))
  row_before n i p q row there =
      let before = row_taken rows (n + 1) i q there in
      let below : i < n + 1 = before.0 in
      elim (cases_lt i n) [
        | inl less ↦ inl (row_kept n i q before.1 less)
        | inr ge ↦ (
            let same : i ≡ n = omega arith in
            inr (same, sym (position_at rows i q q before.1) ∙ (ap (λ (k : ℕ). get_or (positions_of rows) k q) same ∙ position_at rows n p q row)))
      ]

  pub row_pushed : (e : E) (i : ℕ) (p q : Board) → IsRowAt (rows ++ (p, e) ∷ []) i q → IsRowAt rows i q ⊎ ((i ≡ length rows) × (q ≡ p))
  row_pushed e i p q there =
      let inside : i < length (rows ++ (p, e) ∷ []) = row_inside (rows ++ (p, e) ∷ []) i q there in
      let longer : length (rows ++ (p, e) ∷ []) ≡ length rows + 1 = length-append rows ((p, e) ∷ []) in
      let long : length (positions_of rows) ≡ length rows = as_many rows in
      let here : get_or (positions_of rows ++ p ∷ []) i q ≡ q =
      ap (λ (qs : List Board). get_or qs i q) (sym (map-append (λ (row : Board × E). row.0) rows ((p, e) ∷ []))) ∙ position_at (rows ++ (p, e) ∷ []) i q q there in
      elim (cases_lt i (length rows)) [
        | inl less ↦ inl (row_of rows i q q less (sym (get_or_append_left (positions_of rows) (p ∷ []) q i (omega arith)) ∙ here))
        | inr ge ↦ (
            let zero : i - length (positions_of rows) ≡ 0 = omega arith in
            let past : length (positions_of rows) ≤ i = omega arith in
            inr (omega arith, sym here ∙ (get_or-append_right (positions_of rows) (p ∷ []) (length (positions_of rows)) i q refl past ∙ ap (λ (k : ℕ). get_or (p ∷ []) k q) zero)))
      ]

module _ {E : Type 0} (slots : List Slot) (nodes : List Node) where
  -- rows of which each is one of these
  pub fewer_indexed : (rows fewer : List (Board × E)) → ((i : ℕ) (p : Board) → IsRowAt fewer i p → IsRowAt rows i p)
      → AreIndexed rows slots nodes → AreIndexed fewer slots nodes
  fewer_indexed rows fewer from indexed = λ r p row. indexed r p (from r p row)

  pub none_indexed : AreIndexed {E = E} [] slots nodes
  none_indexed = λ r p row. absurd (let inside : r < 0 = row_inside [] r p row in omega arith)

  -- where a look-up ends without a row of the position, one goes
  pub place_for : (rows : List (Board × E)) (p : Board) (look : Look) → HasNoRow rows p → TellsAll rows slots nodes p look → IsPlaceFor slots nodes p look
  place_for rows p (At i) none tells = absurd (none i tells)
  place_for rows p (Free k) none tells = tells.0
  place_for rows p First none tells = tells.0
  place_for rows p (Behind i d) none tells = tells.0

module _ {E : Type 0} (rows more : List (Board × E)) (old new : List Slot) (nodes grown : List Node) (p : Board) (n : ℕ) where
  -- with the row that was entered
  pub one_more : AreIndexed rows old nodes → IsEntered old new nodes grown p n
      → ((i : ℕ) (q : Board) → IsRowAt more i q → IsRowAt rows i q ⊎ ((i ≡ n) × (q ≡ p)))
      → AreIndexed more new grown
  one_more indexed entered either = λ r q row. elim (either r q row) [
    | inl there ↦ entered.others q r (indexed r q there)
    | inr this ↦ subst (λ (x : ℕ). IsIndexed new grown q x) (sym this.0) (subst (λ (x : Board). IsIndexed new grown x n) (sym this.1) entered.entered)
  ]

-- the same rows in a table and a tree that are the same
pub indexed_moved : {E : Type 0} (rows : List (Board × E)) (slots moved : List Slot) (nodes moved_nodes : List Node) → slots ≡ moved → nodes ≡ moved_nodes
    → AreIndexed rows slots nodes → AreIndexed rows moved moved_nodes
indexed_moved rows slots moved nodes moved_nodes same same_nodes indexed = λ r p row.
    subst (λ (x : List Slot). IsIndexed x moved_nodes p r) same (subst (λ (x : List Node). IsIndexed slots x p r) same_nodes (indexed r p row))

pub place_moved : {E : Type 0} (rows : List (Board × E)) (slots moved : List Slot) (nodes moved_nodes : List Node) → slots ≡ moved → nodes ≡ moved_nodes
    → (p : Board) (look : Look) → HasNoRow rows p → TellsAll rows slots nodes p look → IsPlaceFor moved moved_nodes p look
place_moved rows slots moved nodes moved_nodes same same_nodes p look none tells =
    subst (λ (x : List Slot). IsPlaceFor x moved_nodes p look) same
    (subst (λ (x : List Node). IsPlaceFor slots x p look) same_nodes (place_for slots nodes rows p look none tells))

-- ---- the index with what it needs to grow

-- an index with the same table and tree
pub same_index : {E : Type 0} (rows : List (Board × E)) (a b : Index) → a.slots.items ≡ b.slots.items → a.nodes.items ≡ b.nodes.items → a.room ≡ b.room
    → IsIndexOf rows a → IsIndexOf rows b
same_index rows a b slots nodes room index = record {
  indexed = λ r p row. subst (λ (x : List Slot). IsIndexed x b.nodes.items p r) slots (subst (λ (x : List Node). IsIndexed a.slots.items x p r) nodes (index.indexed r p row));
  long = λ short. (
    (index.long (subst (λ (x : List Slot). length x < 8) (sym slots) short)).0,
    sym room ∙ (index.long (subst (λ (x : List Slot). length x < 8) (sym slots) short)).1,
  );
  rows_few = subst (λ (x : ℕ). length rows + x < 2 ^ 32 - 1) room index.rows_few;
  nodes_few = subst (λ (x : ℕ). length b.nodes.items + x < 2 ^ 32 - 1) room
      (subst (λ (x : List Node). length x + a.room < 2 ^ 32 - 1) nodes index.nodes_few);
}

pub index_of_none : {E : Type 0} (index : Index) → index.nodes.items ≡ [] → index.room ≡ 0 → IsIndexOf {E = E} [] index
index_of_none index nodes room = record {
  indexed = none_indexed index.slots.items index.nodes.items;
  long = λ short. (refl, room);
  rows_few = omega (arith, room);
  nodes_few = (let none : length index.nodes.items ≡ 0 = ap length nodes in omega (arith, room, none));
}

-- rows of which each is one of these
pub index_of_fewer : {E : Type 0} (rows fewer : List (Board × E)) (index : Index) → ((i : ℕ) (p : Board) → IsRowAt fewer i p → IsRowAt rows i p)
    → length fewer ≤ length rows → IsIndexOf rows index → IsIndexOf fewer index
index_of_fewer rows fewer index from less is = record {
  indexed = fewer_indexed index.slots.items index.nodes.items rows fewer from is.indexed;
  long = λ short. (
    nil_from_length fewer (let none : length rows ≡ 0 = ap length (is.long short).0 in omega (arith, none, less)),
    (is.long short).1,
  );
  rows_few = (let few : length rows + index.room < 2 ^ 32 - 1 = is.rows_few in omega (arith, few, less));
  nodes_few = is.nodes_few;
}

-- a look-up that ends at no row
pub tells_none : {E : Type 0} (rows : List (Board × E)) (slots : List Slot) (nodes : List Node) (p : Board) (look : Look) → ((i : ℕ) → ¬ (look ≡ At i))
    → TellsAll rows slots nodes p look → HasNoRow rows p
tells_none rows slots nodes p (At i) not tells = absurd (not i refl)
tells_none rows slots nodes p (Free k) not tells = tells.1
tells_none rows slots nodes p First not tells = tells.1
tells_none rows slots nodes p (Behind i d) not tells = tells.1

pub index_of_first : {E : Type 0} (rows : List (Board × E)) (index : Index) (n : ℕ) → IsIndexOf rows index → IsIndexOf (take n rows) index
index_of_first rows index n is =
    let short : length (take n rows) ≡ min n (length rows) = length-take n rows in
    index_of_fewer rows (take n rows) index (λ i p row. (row_taken rows n i p row).1) (omega arith) is

-- rows with the same positions
pub index_of_same : {E : Type 0} (rows new : List (Board × E)) (index : Index) → positions_of new ≡ positions_of rows → IsIndexOf rows index → IsIndexOf new index
index_of_same rows new index same is =
    let long : length (positions_of rows) ≡ length rows = as_many rows in
    let new_long : length (positions_of new) ≡ length new = as_many new in
    let as_long : length (positions_of new) ≡ length (positions_of rows) = ap length same in
    index_of_fewer rows new index
    (λ i p row. (
    let inside : i < length new = row_inside new i p row in
    row_of rows i p p (omega arith) (ap (λ (qs : List Board). get_or qs i p) (sym same) ∙ position_at new i p p row)
    )) (omega arith) is

-- with the row that was entered behind the others
pub index_of_more : {E : Type 0} (rows : List (Board × E)) (old new : Index) (p : Board) (e : E) → IsIndexOf rows old → 0 < old.room → new.room ≡ old.room - 1
    → length new.slots.items ≡ length old.slots.items → length new.nodes.items ≤ length old.nodes.items + 1
    → IsEntered old.slots.items new.slots.items old.nodes.items new.nodes.items p (length rows) → IsIndexOf (rows ++ (p, e) ∷ []) new
index_of_more rows old new p e is room less long more entered = record {
  indexed = one_more rows (rows ++ (p, e) ∷ []) old.slots.items new.slots.items old.nodes.items new.nodes.items p (length rows) is.indexed entered
      (λ i q there. row_pushed rows e i p q there);
  long = λ short. absurd (let none : old.room ≡ 0 = (is.long (subst (λ (x : ℕ). x < 8) long short)).1 in omega arith);
  rows_few = (
      let longer : length (rows ++ (p, e) ∷ []) ≡ length rows + 1 = length-append rows ((p, e) ∷ []) in
      let few : length rows + old.room < 2 ^ 32 - 1 = is.rows_few in
      omega arith
      );
  nodes_few = (let few : length old.nodes.items + old.room < 2 ^ 32 - 1 = is.nodes_few in omega arith);
}
