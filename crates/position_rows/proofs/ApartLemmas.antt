-- Rows that are apart: where a position stands among them, and what keeps them apart.
use Rattle.std.proofs.Common.{◌≡◌, ◌<◌, ◌+◌, ◌-◌, min, ℕ, inl, inr, List, [], ◌∷◌, ◌++◌, Option, Some, None, Bool, true, false, cond, refl, sym, ◌∙◌, ap, subst, position, slice_get, is_some, length, length-append, get_or, take, set, arith}
use Rattle.std.specs.Prelude.{nat_lt}
use Rattle.std.specs.List.{IsDistinct, list_any, position_or_len}
use Rattle.std.specs.Map.{lookup}
use Rattle.std.proofs.lemmas.Bool.{cases_Bool, cases_lt, true≢false}
use Rattle.std.proofs.lemmas.Bool.Decides.{nat_tests}
use Rattle.std.proofs.lemmas.List.{get_or-map, get_or-take, get_or_append_left, get_or-append_right, length-map, length-take, map-append, take-map}
use Rattle.std.proofs.lemmas.List.Elements.{All-from_get_or, Contains-get_or}
use Rattle.std.proofs.lemmas.List.Folds.{list_any_none}
use Rattle.std.proofs.lemmas.List.Quantifiers.{position-Some}
use Rattle.std.proofs.lemmas.List.Sums.{fails_before_first, passes_at_first, position_or_len_is}
use Rattle.std.proofs.lemmas.Map.Keys.{IsDistinct-from_apart, apart_from_distinct}
use Rattle.std.proofs.lemmas.Map.Made.{is_some-lookup}
use Rattle.std.proofs.lemmas.Map.Views.{list_any-from_Contains, lookup-from_Contains}
use Rattle.std.proofs.lemmas.Option.{slice_get_cases, slice_get_within, slice_get-get_or, get_or_from_slice_get}
use Rattle.std.proofs.Math.Seq.{map-set_same}
use Rattle.std.specs.Prelude.{Contains}
use Rattle.draughts_board.specs.Board.{Board, same_board}
use Rattle.draughts_board.specs.Same.{same_board-Decides, same_board-equivalence}
use Rattle.position_rows.specs.Rows.{AreApart, IsRowAt, positions_of}
use Rattle.position_rows.specs.Looks.{HasNoRow}

-- no row
pub apart_nil : (E : Type 0) → AreApart {E = E} []
apart_nil E = IsDistinct-from_apart same_board [] (λ i j d lt inside. absurd (omega arith))

same_itself : (p : Board) → same_board p p ≡ true
same_itself p = (same_board-Decides p p).1 refl

module _ {E : Type 0} (rows : List (Board × E)) where
  pub as_many : length (positions_of rows) ≡ length rows
  as_many = length-map rows (λ (row : Board × E). row.0)

  -- the position of the row at a place
  pub position_at : (i : ℕ) (p d : Board) → IsRowAt rows i p → get_or (positions_of rows) i d ≡ p
  position_at i p d (e, at) =
      let within = slice_get_within rows i (p, e) at in
      get_or-map (λ (row : Board × E). row.0) rows i (p, e) d within ∙ ap (λ (row : Board × E). row.0) (get_or_from_slice_get rows i (p, e) (p, e) at)

  pub row_inside : (i : ℕ) (p : Board) → IsRowAt rows i p → i < length rows
  row_inside i p (e, at) = slice_get_within rows i (p, e) at

  pub row_here : (i : ℕ) (d : Board × E) → i < length rows → IsRowAt rows i (get_or rows i d).0
  row_here i d inside = ((get_or rows i d).1, slice_get-get_or rows i d inside)

  pub row_of : (i : ℕ) (p d : Board) → i < length rows → get_or (positions_of rows) i d ≡ p → IsRowAt rows i p
  row_of i p d inside is =
      elim (slice_get_cases rows i).1 [
        | inl x ↦ (
            let here : get_or (positions_of rows) i d ≡ x.0.0 =
            get_or-map (λ (row : Board × E). row.0) rows i x.0 d x.1 ∙ ap (λ (row : Board × E). row.0) x.3 in
            let same : x.0.0 ≡ p = sym here ∙ is in
            (x.0.1, x.2 ∙ ap (λ (q : Board). Some (q, x.0.1)) same))
        | inr past ↦ absurd (let ge = past.0 in omega arith)
      ]

  -- ---- a position that has a row

  -- it has one alone
  pub place_is : AreApart rows → (i : ℕ) (p : Board) → IsRowAt rows i p → position_or_len (same_board p) (positions_of rows) ≡ i
  place_is apart i p row =
      let inside : i < length rows = row_inside i p row in
      let long : length (positions_of rows) ≡ length rows = as_many in
      let here : get_or (positions_of rows) i p ≡ p = position_at i p p row in
      position_or_len_is (same_board p) (positions_of rows) i p (omega arith)
      (λ k lt. same_board-equivalence.symm p (get_or (positions_of rows) k p)
      ∙ (ap (same_board (get_or (positions_of rows) k p)) (sym here)
      ∙ apart_from_distinct same_board (positions_of rows) k i p apart lt (omega arith)))
      (λ _. ap (same_board p) here ∙ same_itself p)

  pub position_found : AreApart rows → (i : ℕ) (p : Board) → IsRowAt rows i p → position (same_board p) (positions_of rows) ≡ Some i
  position_found apart i p row =
      let first : position_or_len (same_board p) (positions_of rows) ≡ i = place_is apart i p row in
      let inside : i < length rows = row_inside i p row in
      let long : length (positions_of rows) ≡ length rows = as_many in
      let below : nat_lt (position_or_len (same_board p) (positions_of rows)) (length (positions_of rows)) ≡ true = grind (arith, nat_tests) in
      ap (λ (b : Bool). cond b (Some (position_or_len (same_board p) (positions_of rows))) None) below ∙ ap Some first

  pub any_found : (i : ℕ) (p : Board) → IsRowAt rows i p → list_any (same_board p) (positions_of rows) ≡ true
  any_found i p row =
      let inside : i < length rows = row_inside i p row in
      let long : length (positions_of rows) ≡ length rows = as_many in
      list_any-from_Contains same_board-equivalence p (positions_of rows)
      (subst (Contains (positions_of rows)) (position_at i p p row) (Contains-get_or (positions_of rows) i p (omega arith)))

  pub row_found : (i : ℕ) (p : Board) → position (same_board p) (positions_of rows) ≡ Some i → IsRowAt rows i p
  row_found i p is =
      let found = position-Some (same_board p) (positions_of rows) i p is in
      let inside : i < length (positions_of rows) = found.0 in
      let long : length (positions_of rows) ≡ length rows = as_many in
      row_of i p p (omega arith) (sym ((same_board-Decides p (get_or (positions_of rows) i p)).0 found.1))

  -- and stands at the first place whose position is the same
  pub any_row : (p : Board) → list_any (same_board p) (positions_of rows) ≡ true → IsRowAt rows (position_or_len (same_board p) (positions_of rows)) p
  any_row p any =
      let long : length (positions_of rows) ≡ length rows = as_many in
      elim (cases_lt (position_or_len (same_board p) (positions_of rows)) (length (positions_of rows))) [
        | inl less ↦ row_of (position_or_len (same_board p) (positions_of rows)) p p (omega (arith, less, long))
            (sym ((same_board-Decides p (get_or (positions_of rows) (position_or_len (same_board p) (positions_of rows)) p)).0
            (passes_at_first (same_board p) (positions_of rows) p less)))
        | inr ge ↦ absurd (true≢false (sym any ∙ list_any_none (same_board p) (positions_of rows)
            (All-from_get_or (λ (q : Board). same_board p q ≡ false) (positions_of rows) p
            (λ k lt. fails_before_first (same_board p) (positions_of rows) k p (omega (arith, lt, ge))))))
      ]

  -- ---- a position that has none

  other_at : (p : Board) → HasNoRow rows p → (k : ℕ) (d : Board) → k < length rows → same_board p (get_or (positions_of rows) k d) ≡ false
  other_at p none k d inside =
      elim (cases_Bool (same_board p (get_or (positions_of rows) k d))) [
        | inl same ↦ absurd (none k (row_of k p d inside (sym ((same_board-Decides p (get_or (positions_of rows) k d)).0 same))))
        | inr other ↦ other
      ]

  pub place_none : (p : Board) → HasNoRow rows p → position_or_len (same_board p) (positions_of rows) ≡ length rows
  place_none p none =
      let long : length (positions_of rows) ≡ length rows = as_many in
      position_or_len_is (same_board p) (positions_of rows) (length rows) p (omega arith)
      (λ k lt. other_at p none k p lt) (λ lt. absurd (omega (arith, lt, long)))

  pub position_none : (p : Board) → HasNoRow rows p → position (same_board p) (positions_of rows) ≡ None
  position_none p none =
      let first : position_or_len (same_board p) (positions_of rows) ≡ length rows = place_none p none in
      let long : length (positions_of rows) ≡ length rows = as_many in
      let past : nat_lt (position_or_len (same_board p) (positions_of rows)) (length (positions_of rows)) ≡ false = grind (arith, nat_tests) in
      ap (λ (b : Bool). cond b (Some (position_or_len (same_board p) (positions_of rows))) None) past

  pub any_none : (p : Board) → HasNoRow rows p → list_any (same_board p) (positions_of rows) ≡ false
  any_none p none =
      let long : length (positions_of rows) ≡ length rows = as_many in
      list_any_none (same_board p) (positions_of rows)
      (All-from_get_or (λ (q : Board). same_board p q ≡ false) (positions_of rows) p (λ k lt. other_at p none k p (omega (arith, lt, long))))

  pub no_row : AreApart rows → (p : Board) → position (same_board p) (positions_of rows) ≡ None → HasNoRow rows p
  no_row apart p none r row = let found = position_found apart r p row in cc

  -- ---- what stands beside it

  contains_at : (i : ℕ) (row : Board × E) → slice_get rows i ≡ Some row → Contains rows row
  contains_at i row at =
      let within = slice_get_within rows i row at in
      subst (Contains rows) (get_or_from_slice_get rows i row row at) (Contains-get_or rows i row within)

  pub lookup_found : AreApart rows → (i : ℕ) (p : Board) (e : E) → slice_get rows i ≡ Some (p, e) → lookup (same_board p) rows ≡ Some e
  lookup_found apart i p e at = lookup-from_Contains same_board-equivalence p e rows apart (contains_at i (p, e) at)

  none_unless : (o : Option E) → is_some o ≡ false → o ≡ None
  none_unless None is = refl
  none_unless (Some e) is = absurd (true≢false is)

  pub lookup_none : (p : Board) → HasNoRow rows p → lookup (same_board p) rows ≡ None
  lookup_none p none = none_unless (lookup (same_board p) rows) (is_some-lookup (same_board p) rows ∙ any_none p none)

  -- the answers of a look-up, where the rows are those that a contract sees
  pub get_none : (entries : List (Board × E)) → rows ≡ entries → AreApart rows → (p : Board) (o : Option ℕ) → o ≡ position (same_board p) (positions_of rows)
      → o ≡ None → lookup (same_board p) entries ≡ None
  get_none entries same apart p o is none =
      ap (lookup (same_board p)) (sym same) ∙ lookup_none p (no_row apart p (sym is ∙ none))

  pub get_some : (entries : List (Board × E)) → rows ≡ entries → AreApart rows → (p : Board) (o : Option ℕ) (i : ℕ) → o ≡ position (same_board p) (positions_of rows)
      → o ≡ Some i → (row : Board × E) → row ≡ get_or rows i row → lookup (same_board p) entries ≡ Some row.1
  get_some entries same apart p o i is some row here =
      let there : IsRowAt rows i p = row_found i p (sym is ∙ some) in
      let this : row ≡ (p, there.0) = here ∙ get_or_from_slice_get rows i (p, there.0) row there.1 in
      let at : slice_get rows i ≡ Some (p, row.1) = there.1 ∙ ap (λ (r : Board × E). Some (p, r.1)) (sym this) in
      ap (lookup (same_board p)) (sym same) ∙ lookup_found apart i p row.1 at

  -- ---- what keeps rows apart

  pub apart_pushed : AreApart rows → (p : Board) (e : E) → HasNoRow rows p → AreApart (rows ++ (p, e) ∷ [])
  apart_pushed apart p e none =
      subst (IsDistinct same_board) (sym (map-append (λ (row : Board × E). row.0) rows ((p, e) ∷ [])))
      (IsDistinct-from_apart same_board (positions_of rows ++ p ∷ []) (λ i j d lt inside.
      let long : length (positions_of rows) ≡ length rows = as_many in
      let longer : length (positions_of rows ++ p ∷ []) ≡ length (positions_of rows) + 1 = length-append (positions_of rows) (p ∷ []) in
      let below : i < length (positions_of rows) = omega (arith, lt, inside, longer) in
      let first : get_or (positions_of rows ++ p ∷ []) i d ≡ get_or (positions_of rows) i d = get_or_append_left (positions_of rows) (p ∷ []) d i below in
      elim (cases_lt j (length (positions_of rows))) [
        | inl less ↦ (λ k. same_board (first k) (get_or_append_left (positions_of rows) (p ∷ []) d j less k))
            ∙ apart_from_distinct same_board (positions_of rows) i j d apart lt less
        | inr ge ↦ (
            let zero : j - length (positions_of rows) ≡ 0 = omega (arith, inside, longer, ge) in
            let last : get_or (positions_of rows ++ p ∷ []) j d ≡ p =
            get_or-append_right (positions_of rows) (p ∷ []) (length (positions_of rows)) j d refl ge ∙ ap (λ (k : ℕ). get_or (p ∷ []) k d) zero in
            (λ k. same_board (first k) (last k))
            ∙ (same_board-equivalence.symm (get_or (positions_of rows) i d) p ∙ other_at p none i d (omega (arith, below, long))))
      ]))

  pub apart_taken : AreApart rows → (n : ℕ) → AreApart (take n rows)
  apart_taken apart n =
      subst (IsDistinct same_board) (take-map (λ (row : Board × E). row.0) n rows)
      (IsDistinct-from_apart same_board (take n (positions_of rows)) (λ i j d lt inside.
      let short : length (take n (positions_of rows)) ≡ min n (length (positions_of rows)) = length-take n (positions_of rows) in
      let below : j < n = omega (arith, inside, short) in
      let within : j < length (positions_of rows) = omega (arith, inside, short) in
      (λ k. same_board (get_or-take n (positions_of rows) i d (omega (arith, lt, below)) k) (get_or-take n (positions_of rows) j d below k))
      ∙ apart_from_distinct same_board (positions_of rows) i j d apart lt within))

  -- another entry beside a position
  pub positions_stay : (i : ℕ) (row : Board × E) (e : E) → row ≡ get_or rows i row → positions_of (set rows i (row.0, e)) ≡ positions_of rows
  positions_stay i row e here = map-set_same (λ (row : Board × E). row.0) rows i (row.0, e) row (ap (λ (row : Board × E). row.0) here)

  pub apart_replaced : AreApart rows → (i : ℕ) (row : Board × E) (e : E) → row ≡ get_or rows i row → AreApart (set rows i (row.0, e))
  apart_replaced apart i row e here = subst (IsDistinct same_board) (sym (positions_stay i row e here)) apart

  -- ---- rows that came before

  pub row_taken : (n i : ℕ) (p : Board) → IsRowAt (take n rows) i p → (i < n) × IsRowAt rows i p
  row_taken n i p (e, at) =
      let short : length (take n rows) ≡ min n (length rows) = length-take n rows in
      let within : i < length (take n rows) = slice_get_within (take n rows) i (p, e) at in
      let below : i < n = omega arith in
      let inside : i < length rows = omega arith in
      let here : get_or (positions_of rows) i p ≡ p =
      get_or-map (λ (row : Board × E). row.0) rows i (p, e) p inside
      ∙ ap (λ (row : Board × E). row.0) (sym (get_or-take n rows i (p, e) below) ∙ get_or_from_slice_get (take n rows) i (p, e) (p, e) at) in
      (below, row_of i p p inside here)

  -- no row before this one is that of its position
  pub none_before : AreApart rows → (i : ℕ) (p : Board) → IsRowAt rows i p → HasNoRow (take i rows) p
  none_before apart i p row k before =
      let there = row_taken i k p before in
      let one : position_or_len (same_board p) (positions_of rows) ≡ i = place_is apart i p row in
      let another : position_or_len (same_board p) (positions_of rows) ≡ k = place_is apart k p there.1 in
      let below : k < i = there.0 in
      omega arith
