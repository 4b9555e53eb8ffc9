-- Lists beside positions, and one number more.
use Rattle.std.proofs.Common.{◌≡◌, ◌<◌, ◌+◌, ℕ, List, [], ◌∷◌, ◌++◌, refl, sym, ◌∙◌, ap, subst, length, length-append, if◌then◌else◌, inl, inr, arith}
use Rattle.std.specs.Prelude.{◌==◌, Bool, true, false, not, Option, Some, None, Vec, get_or, slice_get, position}
use Rattle.std.specs.List.{list_any, position_or_len}
use Rattle.std.proofs.lemmas.Bool.{cases_Bool, cases_lt, true≢false}
use Rattle.std.proofs.lemmas.Bool.Decides.{eqb_tells}
use Rattle.std.proofs.lemmas.List.{append-nil, get_or_append_left}
use Rattle.std.proofs.lemmas.Option.{get_or_from_slice_get, slice_get-get_or, slice_get_within}
use Rattle.std.proofs.Math.Seq.{get_or-append_seam, take-append_seam}
use Rattle.draughts_board.specs.Board.{Board, same_board}
use Rattle.draughts_board.specs.Same.{same_board-Decides}
use Rattle.position_rows.specs.Looks.{HasNoRow}
use Rattle.position_rows.specs.Rows.{AreApart, IsRowAt, positions_of}
use Rattle.position_rows.proofs.ApartLemmas.{any_found, any_row, apart_taken, no_row, place_none, position_at, position_found, position_none, row_found, row_inside}
use Rattle.opened_games.specs.Numbers.{HaveLists, items_at, items_in, items_of, numbers_at}

-- ---- one element more

module _ {X : Type 0} (xs : List X) (y : X) where
  slice_kept : (k : ℕ) (x : X) → slice_get xs k ≡ Some x → slice_get (xs ++ y ∷ []) k ≡ Some x
  slice_kept k x at =
      let within = slice_get_within xs k x at in
      let longer = length-append xs (y ∷ []) in
      slice_get-get_or (xs ++ y ∷ []) k x (omega (arith, within, longer))
      ∙ ap Some (get_or_append_left xs (y ∷ []) x k within ∙ get_or_from_slice_get xs k x x at)

  slice_last : slice_get (xs ++ y ∷ []) (length xs) ≡ Some y
  slice_last =
      let longer = length-append xs (y ∷ []) in
      slice_get-get_or (xs ++ y ∷ []) (length xs) y (omega (arith, longer)) ∙ ap Some (get_or-append_seam xs y [] y)

  slice_back : (k : ℕ) (x : X) → slice_get (xs ++ y ∷ []) k ≡ Some x → k < length xs → slice_get xs k ≡ Some x
  slice_back k x at within =
      slice_get-get_or xs k x within
      ∙ ap Some (sym (get_or_append_left xs (y ∷ []) x k within) ∙ get_or_from_slice_get (xs ++ y ∷ []) k x x at)

-- ---- a position that is noted

module _ {E : Type 0} where
  one_row : (rows : List (Board × E)) (i j : ℕ) (p q : Board) → IsRowAt rows i p → IsRowAt rows j q → i ≡ j → p ≡ q
  one_row rows i j p q at there same =
      sym (position_at rows i p p at) ∙ ap (λ (k : ℕ). get_or (positions_of rows) k p) same ∙ position_at rows j q p there

  -- row i is that of the position, and all others are old ones
  pub record IsNoted (rows after : List (Board × E)) (p : Board) (i : ℕ) : Type 0 where
    pub at : IsRowAt after i p
    pub kept : (j : ℕ) (q : Board) → IsRowAt rows j q → IsRowAt after j q
    pub back : (j : ℕ) (q : Board) → IsRowAt after j q → ¬ (q ≡ p) → IsRowAt rows j q

  pub noted_there : (rows : List (Board × E)) (p : Board) (i : ℕ) → IsRowAt rows i p → IsNoted rows rows p i
  noted_there rows p i at = record { at = at; kept = λ j q row. row; back = λ j q row other. row }

  pub noted_new : (rows : List (Board × E)) (p : Board) (e : E) → IsNoted rows (rows ++ (p, e) ∷ []) p (length rows)
  noted_new rows p e = record {
    at = (e, slice_last rows (p, e));
    kept = λ j q row. (row.0, slice_kept rows (p, e) j (q, row.0) row.1);
    back = λ j q row other.
        elim (cases_lt j (length rows)) [
          | inl less ↦ (row.0, slice_back rows (p, e) j (q, row.0) row.1 less)
          | inr ge ↦ (
              let inside = row_inside (rows ++ (p, e) ∷ []) j q row in
              let longer = length-append rows ((p, e) ∷ []) in
              absurd (other (one_row (rows ++ (p, e) ∷ []) j (length rows) q p row (e, slice_last rows (p, e)) (omega (arith, ge, inside, longer)))))
        ];
  }

  pub none_where : (rows : List (Board × E)) (p : Board) → list_any (same_board p) (positions_of rows) ≡ false → HasNoRow rows p
  none_where rows p none r row = true≢false (sym (any_found rows r p row) ∙ none)

-- ---- a number more

module _ {A E : Type 0} (rows after : List (Board × E)) (lists mid new : List (Vec ℕ A)) (p : Board) (i n : ℕ)
    (apart : AreApart rows) (apart_after : AreApart after) (noted : IsNoted rows after p i)
    (others : (j : ℕ) → j < length rows → items_at mid j ≡ items_at lists j) (own : items_at mid i ≡ numbers_at rows lists p)
    (added : (k : ℕ) → items_at new k ≡ (if i == k then items_at mid k ++ n ∷ [] else items_at mid k)) where
  added_here : numbers_at after new p ≡ numbers_at rows lists p ++ (if same_board p p then n ∷ [] else [])
  added_here =
      ap (items_in new) (position_found after apart_after i p noted.at)
      ∙ added i
      ∙ ap (λ (b : Bool). if b then items_at mid i ++ n ∷ [] else items_at mid i) (same i)
      ∙ ap (λ (l : List ℕ). l ++ n ∷ []) own
      ∙ sym (ap (λ (b : Bool). numbers_at rows lists p ++ (if b then n ∷ [] else [])) ((same_board-Decides p p).1 refl))
    where
      same : (k : ℕ) → k == k ≡ true
      same k = elim (eqb_tells k k) [ inl equal ↦ equal.0 | inr other ↦ absurd (other.1 refl) ]

  elsewhere : (q : Board) → same_board p q ≡ false → numbers_at after new q ≡ numbers_at rows lists q
  elsewhere q other = by (position (same_board q) (positions_of rows)) refl
    where
      differ : ¬ (q ≡ p)
      differ is = true≢false (sym ((same_board-Decides p q).1 (sym is)) ∙ other)

      by : (o : Option ℕ) → position (same_board q) (positions_of rows) ≡ o → numbers_at after new q ≡ numbers_at rows lists q
      by None e =
          ap (items_in new) (position_none after q (λ r row. no_row rows apart q e r (noted.back r q row differ)))
          ∙ sym (ap (items_in lists) e)
      by (Some j) e =
          let row = row_found rows j q e in
          let there = noted.kept j q row in
          elim (eqb_tells i j) [
            | inl equal ↦ absurd (differ (one_row after j i q p there noted.at (sym equal.1)))
            | inr apart_from ↦ (
                ap (items_in new) (position_found after apart_after j q there)
                ∙ added j
                ∙ ap (λ (b : Bool). if b then items_at mid j ++ n ∷ [] else items_at mid j) apart_from.0
                ∙ others j (row_inside rows j q row)
                ∙ sym (ap (items_in lists) e))
          ]

  pub number_added : (q : Board) → numbers_at after new q ≡ numbers_at rows lists q ++ (if same_board p q then n ∷ [] else [])
  number_added q =
      elim (cases_Bool (same_board p q)) [
        | inl same ↦ subst (λ (x : Board). numbers_at after new x ≡ numbers_at rows lists x ++ (if same_board p x then n ∷ [] else [])) ((same_board-Decides p q).0 same) added_here
        | inr other ↦ elsewhere q other ∙ sym (ap (λ (b : Bool). numbers_at rows lists q ++ (if b then n ∷ [] else [])) other ∙ append-nil (numbers_at rows lists q))
      ]

none_told : (b : Bool) → true ≡ not b → b ≡ false
none_told true h = absurd (true≢false h)
none_told false h = refl

some_told : (b : Bool) → false ≡ not b → b ≡ true
some_told true h = refl
some_told false h = absurd (true≢false (sym h))

-- the place of the position is that of a list
module _ {A E : Type 0} (rows : List (Board × E)) (lists mid : List (Vec ℕ A)) (p : Board) (place : ℕ) (have : HaveLists rows lists)
    (is : place ≡ position_or_len (same_board p) (positions_of rows)) (b : Bool) (told : b ≡ not (list_any (same_board p) (positions_of rows))) where
  pub first_inside : b ≡ true → (v : Vec ℕ A) → mid ≡ lists ++ v ∷ [] → (place < length mid) × (length mid ≡ length rows + 1)
  first_inside fact v lists_are =
      let last = place_none rows p (none_where rows p (none_told (list_any (same_board p) (positions_of rows)) (sym fact ∙ told))) in
      let longer = length-append lists (v ∷ []) in
      let long : length mid ≡ length (lists ++ v ∷ []) = ap (λ (ls : List (Vec ℕ A)). length ls) lists_are in
      (omega (arith, is, last, have, longer, long), omega (arith, have, longer, long))

  pub next_inside : b ≡ false → mid ≡ lists → place < length mid
  next_inside fact lists_are =
      let row = any_row rows p (some_told (list_any (same_board p) (positions_of rows)) (sym fact ∙ told)) in
      let inside = row_inside rows (position_or_len (same_board p) (positions_of rows)) p row in
      let long : length mid ≡ length lists = ap (λ (ls : List (Vec ℕ A)). length ls) lists_are in
      omega (arith, is, inside, have, long)

module _ {A E : Type 0} (rows after : List (Board × E)) (lists mid new : List (Vec ℕ A)) (p : Board) (e : E) (place n : ℕ) (have : HaveLists rows lists)
    (is : place ≡ position_or_len (same_board p) (positions_of rows)) (apart_after : AreApart after)
    (added : (k : ℕ) → items_at new k ≡ (if place == k then items_at mid k ++ n ∷ [] else items_at mid k)) where
  -- of a position that has no row
  pub first_added : (b : Bool) → b ≡ true → b ≡ not (list_any (same_board p) (positions_of rows)) → after ≡ (if b then rows ++ (p, e) ∷ [] else rows) → (v : Vec ℕ A) → v.items ≡ [] → mid ≡ lists ++ v ∷ []
      → (q : Board) → numbers_at after new q ≡ numbers_at rows lists q ++ (if same_board p q then n ∷ [] else [])
  first_added b fact fresh rows_told v empty lists_are q =
      let rows_are : after ≡ rows ++ (p, e) ∷ [] = rows_told ∙ ap (λ (t : Bool). if t then rows ++ (p, e) ∷ [] else rows) fact in
      let none = none_where rows p (none_told (list_any (same_board p) (positions_of rows)) (sym fact ∙ fresh)) in
      let last : place ≡ length rows = is ∙ place_none rows p none in
      let apart_more : AreApart (rows ++ (p, e) ∷ []) = subst (λ (es : List (Board × E)). AreApart es) rows_are apart_after in
      let apart : AreApart rows = subst (λ (es : List (Board × E)). AreApart es) (take-append_seam rows ((p, e) ∷ [])) (apart_taken (rows ++ (p, e) ∷ []) apart_more (length rows)) in
      subst (λ (es : List (Board × E)). numbers_at es new q ≡ numbers_at rows lists q ++ (if same_board p q then n ∷ [] else [])) (sym rows_are)
      (number_added rows (rows ++ (p, e) ∷ []) lists mid new p place n apart apart_more
      (subst (λ (k : ℕ). IsNoted rows (rows ++ (p, e) ∷ []) p k) (sym last) (noted_new rows p e))
      (λ j within.
      let there = slice_get-get_or lists j v (omega (arith, within, have)) in
      ap (λ (ls : List (Vec ℕ A)). items_at ls j) lists_are ∙ ap items_of (slice_kept lists v j (get_or lists j v) there ∙ sym there))
      (ap (λ (ls : List (Vec ℕ A)). items_at ls place) lists_are
      ∙ ap (λ (k : ℕ). items_at (lists ++ v ∷ []) k) (last ∙ sym have)
      ∙ ap items_of (slice_last lists v)
      ∙ empty
      ∙ sym (ap (items_in lists) (position_none rows p none)))
      added q)

  -- of one that has a row
  pub next_added : (b : Bool) → b ≡ false → b ≡ not (list_any (same_board p) (positions_of rows)) → after ≡ (if b then rows ++ (p, e) ∷ [] else rows) → mid ≡ lists
      → (q : Board) → numbers_at after new q ≡ numbers_at rows lists q ++ (if same_board p q then n ∷ [] else [])
  next_added b fact old rows_told lists_are q =
      let rows_are : after ≡ rows = rows_told ∙ ap (λ (t : Bool). if t then rows ++ (p, e) ∷ [] else rows) fact in
      let apart : AreApart rows = subst (λ (es : List (Board × E)). AreApart es) rows_are apart_after in
      let at : IsRowAt rows place p = subst (λ (k : ℕ). IsRowAt rows k p) (sym is) (any_row rows p (some_told (list_any (same_board p) (positions_of rows)) (sym fact ∙ old))) in
      subst (λ (es : List (Board × E)). numbers_at es new q ≡ numbers_at rows lists q ++ (if same_board p q then n ∷ [] else [])) (sym rows_are)
      (number_added rows rows lists mid new p place n apart apart (noted_there rows p place at)
      (λ j within. ap (λ (ls : List (Vec ℕ A)). items_at ls j) lists_are)
      (ap (λ (ls : List (Vec ℕ A)). items_at ls place) lists_are ∙ sym (ap (items_in lists) (position_found rows apart place p at)))
      added q)
