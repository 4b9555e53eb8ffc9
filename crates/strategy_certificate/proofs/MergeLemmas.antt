-- Merging lists of entries, one row of the other list at a time.
use Rattle.std.proofs.Common.{◌≡◌, ℕ, zero, suc, ◌⊎◌, inl, inr, List, [], ◌∷◌, ◌++◌, refl, sym, ◌∙◌, ap, subst, Option, Some, None, Bool, true, false, cond, map, set, slice_get, length, get_or, drop, ◌<◌, ◌+◌}
use Rattle.std.specs.Prelude.{IfSome, is_none, is_some, nat_lt, not}
use Rattle.std.specs.List.{IsDistinct, list_any, position_or_len}
use Rattle.std.specs.Option.{option_map_or}
use Rattle.std.proofs.lemmas.Bool.{cases_Bool, false≢true, true≢false}
use Rattle.std.proofs.lemmas.List.{append-nil, append_assoc, drop_more, map-append, map-id}
use Rattle.std.proofs.lemmas.Map.{lookup-none}
use Rattle.std.proofs.lemmas.Map.Entries.{none_past_head}
use Rattle.std.proofs.lemmas.Map.Keys.{IsDistinct-tail}
use Rattle.std.proofs.lemmas.Map.Made.{is_some-lookup}
use Rattle.std.proofs.lemmas.Option.{same_Some}
use Rattle.draughts_board.specs.Board.{Board, same_board}
use Rattle.draughts_board.specs.Same.{same_board-Decides, same_board-equivalence}
use Rattle.position_rows.specs.Rows.{IsRowAt}
use Rattle.position_rows.proofs.ApartLemmas.{any_row, lookup_found, row_inside}
use Rattle.strategy_certificate.specs.declared.entries.WinEntry.{WinEntry}
use Rattle.strategy_certificate.specs.Parts.{HasDistinctPositions, positions_of, entry_of, smaller, improved, added_rows, merged_wins, merged_holds, without_rank}

-- what is left of a list begins with the item at hand
pub drop_item : {X : Type 0} (xs : List X) (i : ℕ) (x : X) → i < length xs → x ≡ get_or xs i x → drop i xs ≡ x ∷ drop (i + 1) xs
drop_item xs i x inside is = drop_more xs i x inside ∙ ap (λ y. y ∷ drop (i + 1) xs) (sym is)

not_false : (b : Bool) → not b ≡ false → b ≡ true
not_false true is = refl
not_false false is = absurd (true≢false is)

-- ---- positions that are the same

pub equal_boards : (p q : Board) → same_board p q ≡ true → p ≡ q
equal_boards p q = (same_board-Decides p q).0

pub same_itself : (p : Board) → same_board p p ≡ true
same_itself p = (same_board-Decides p p).1 refl

-- the position has no entry
abbrev pub HasNone : {E : Type 0} → List (Board × E) → Board → Type 0
HasNone rows p = entry_of rows p ≡ None

pub none_or_some : {E : Type 0} (o : Option E) → (o ≡ None) ⊎ ((e : E) × (o ≡ Some e))
none_or_some None = inl refl
none_or_some (Some e) = inr (e, refl)

module _ {E : Type 0} where
  pub entry_of-here : (p : Board) (row : Board × E) (rows : List (Board × E)) → same_board p row.0 ≡ true → entry_of (row ∷ rows) p ≡ Some row.1
  entry_of-here p row rows same = ap (λ b. cond b (Some row.1) (entry_of rows p)) same

  pub entry_of-there : (p : Board) (row : Board × E) (rows : List (Board × E)) → same_board p row.0 ≡ false → entry_of (row ∷ rows) p ≡ entry_of rows p
  entry_of-there p row rows other = ap (λ b. cond b (Some row.1) (entry_of rows p)) other

  -- whether a position is new is told by its look-up
  pub is_new : (rows : List (Board × E)) (p : Board) → not (list_any (same_board p) (positions_of rows)) ≡ is_none (entry_of rows p)
  is_new rows p = ap not (sym (is_some-lookup (same_board p) rows)) ∙ by (entry_of rows p)
    where
      by : (o : Option E) → not (is_some o) ≡ is_none o
      by None = refl
      by (Some e) = refl

  -- a row that was noted where its position had none stands behind the others
  pub noted_last : (rows : List (Board × E)) (p : Board) (e : E) (added : Bool) → added ≡ not (list_any (same_board p) (positions_of rows))
      → HasNone rows p → cond added (rows ++ (p, e) ∷ []) rows ≡ rows ++ (p, e) ∷ []
  noted_last rows p e added is none = ap (λ (b : Bool). cond b (rows ++ (p, e) ∷ []) rows) (is ∙ (is_new rows p ∙ ap is_none none))

  pub none_if_added : (rows : List (Board × E)) (p : Board) (added : Bool) → added ≡ not (list_any (same_board p) (positions_of rows))
      → added ≡ true → HasNone rows p
  none_if_added rows p added is new = by (entry_of rows p) (sym (is_new rows p) ∙ (sym is ∙ new))
    where
      by : (o : Option E) → is_none o ≡ true → o ≡ None
      by None none = refl
      by (Some e) none = absurd (false≢true none)

  -- and one that was not new is where it was
  pub place_inside : (rows now : List (Board × E)) (p : Board) (i : ℕ) (added : Bool) → i ≡ position_or_len (same_board p) (positions_of rows)
      → added ≡ not (list_any (same_board p) (positions_of rows)) → added ≡ false → now ≡ rows → i < length now
  place_inside rows now p i added place is old same =
      let there : IsRowAt rows i p = subst (λ (k : ℕ). IsRowAt rows k p) (sym place)
      (any_row rows p (not_false (list_any (same_board p) (positions_of rows)) (sym is ∙ old))) in
      subst (λ (es : List (Board × E)). i < length es) (sym same) (row_inside rows i p there)

  pub kept_there : (rows now : List (Board × E)) (p : Board) (i : ℕ) (added : Bool) (row : Board × E) → i ≡ position_or_len (same_board p) (positions_of rows)
      → added ≡ not (list_any (same_board p) (positions_of rows)) → added ≡ false → now ≡ rows → slice_get now i ≡ Some row → slice_get rows i ≡ Some (p, row.1)
  kept_there rows now p i added row place is old same at =
      let there : IsRowAt rows i p = subst (λ (k : ℕ). IsRowAt rows k p) (sym place)
      (any_row rows p (not_false (list_any (same_board p) (positions_of rows)) (sym is ∙ old))) in
      let this : (p, there.0) ≡ row = same_Some (p, there.0) row (sym there.1 ∙ (ap (λ (es : List (Board × E)). slice_get es i) (sym same) ∙ at)) in
      there.1 ∙ ap (λ (r : Board × E). Some (p, r.1)) this

  -- where a list has no entry of the position, its first row is of another one
  none_head : (p : Board) (row : Board × E) (rows : List (Board × E)) → HasNone (row ∷ rows) p → same_board p row.0 ≡ false
  none_head p row rows none =
      elim (cases_Bool (same_board p row.0)) [ inl same ↦ (let found = sym (entry_of-here p row rows same) ∙ none in cc) | inr other ↦ other ]

  none_tail : (p : Board) (row : Board × E) (rows : List (Board × E)) → HasNone (row ∷ rows) p → HasNone rows p
  none_tail p row rows none = sym (entry_of-there p row rows (none_head p row rows none)) ∙ none

  -- the position of the first of distinct rows has no entry in the others
  pub first_none : (row : Board × E) (rows : List (Board × E)) → HasDistinctPositions (row ∷ rows) → HasNone rows row.0
  first_none row rows distinct =
      lookup-none (same_board row.0) rows (none_past_head same_board-equivalence row.0 row rows distinct (same_itself row.0))

  pub distinct_tail : (row : Board × E) (rows : List (Board × E)) → HasDistinctPositions (row ∷ rows) → HasDistinctPositions rows
  distinct_tail row rows distinct = IsDistinct-tail same_board row.0 (positions_of rows) distinct

  none_behind : (before rows : List (Board × E)) (p : Board) → HasNone (before ++ rows) p → HasNone rows p
  none_behind [] rows p none = none
  none_behind (row ∷ before) rows p none = none_behind before rows p (none_tail p row (before ++ rows) none)

  -- the position of a row has no entry before it
  pub none_before : (before : List (Board × E)) (row : Board × E) (rows : List (Board × E)) → HasDistinctPositions (before ++ row ∷ rows) → HasNone before row.0
  none_before [] row rows distinct = refl
  none_before (x ∷ before) row rows distinct =
      let apart = none_head x.0 row rows (none_behind before (row ∷ rows) x.0 (first_none x (before ++ row ∷ rows) distinct)) in
      entry_of-there row.0 x before (same_board-equivalence.symm row.0 x.0 ∙ apart) ∙ none_before before row rows (distinct_tail x (before ++ row ∷ rows) distinct)

  -- a row at the end is seen by its own position alone
  entry_of-push : (rows : List (Board × E)) (last : Board × E) (q : Board) → same_board q last.0 ≡ false → entry_of (rows ++ last ∷ []) q ≡ entry_of rows q
  entry_of-push [] last q other = entry_of-there q last [] other
  entry_of-push (row ∷ rows) last q other = ap (cond (same_board q row.0) (Some row.1)) (entry_of-push rows last q other)

  pub new_rows-push : (into : List (Board × E)) (last : Board × E) (rest : List (Board × E)) → HasNone rest last.0 → added_rows (into ++ last ∷ []) rest ≡ added_rows into rest
  new_rows-push into last [] none = refl
  new_rows-push into last (row ∷ rest) none =
      let other : same_board row.0 last.0 ≡ false = same_board-equivalence.symm row.0 last.0 ∙ none_head last.0 row rest none in
      let same = ap is_none (entry_of-push into last row.0 other) in
      let more = new_rows-push into last rest (none_tail last.0 row rest none) in
      λ i. cond (same i) (row ∷ more i) (more i)

-- ---- holds

pub merged_holds-step : (into : List (Board × Option (List ℕ))) (row : Board × Option (List ℕ)) (rest : List (Board × Option (List ℕ)))
    → HasNone rest row.0 → merged_holds (merged_holds into (row ∷ [])) rest ≡ merged_holds into (row ∷ rest)
merged_holds-step into row rest none = by (is_none (entry_of into row.0))
  where
    by : (b : Bool) → merged_holds (into ++ cond b (row ∷ []) []) rest ≡ into ++ cond b (row ∷ added_rows into rest) (added_rows into rest)
    by true = ap (λ rows. (into ++ row ∷ []) ++ rows) (new_rows-push into row rest none) ∙ append_assoc into (row ∷ []) (added_rows into rest)
    by false = ap (λ rows. merged_holds rows rest) (append-nil into)

pub merged_holds-new : (into : List (Board × Option (List ℕ))) (row : Board × Option (List ℕ)) → HasNone into row.0 → into ++ row ∷ [] ≡ merged_holds into (row ∷ [])
merged_holds-new into row none = ap (λ o. into ++ cond (is_none o) (row ∷ []) []) (sym none)

-- ---- wins

-- the entry, or the one beside it where that has the smaller rank
abbrev pub pick : WinEntry → Option WinEntry → WinEntry
pick e o = option_map_or (smaller e) o e

pub smaller-same : (e f : WinEntry) → nat_lt f.rank e.rank ≡ false → smaller e f ≡ e
smaller-same e f not_below = ap (λ b. cond b f e) not_below

pub smaller-other : (e f : WinEntry) → nat_lt f.rank e.rank ≡ true → smaller e f ≡ f
smaller-other e f below = ap (λ b. cond b f e) below

pub smaller-all : (P : WinEntry → Type 0) (e f : WinEntry) → P e → P f → P (smaller e f)
smaller-all P e f pe pf = by (nat_lt f.rank e.rank)
  where
    by : (b : Bool) → P (cond b f e)
    by true = pf
    by false = pe

pub pick-all : (P : WinEntry → Type 0) (e : WinEntry) (o : Option WinEntry) → P e → IfSome o P → P (pick e o)
pick-all P e None pe po = pe
pick-all P e (Some f) pe po = smaller-all P e f pe po

-- a row improved by a list is improved by its first row and then by the others
improved-cons : (row : Board × WinEntry) (rest : List (Board × WinEntry)) → HasNone rest row.0 → (x : Board × WinEntry)
    → improved rest (improved (row ∷ []) x) ≡ improved (row ∷ rest) x
improved-cons row rest none x =
    elim (cases_Bool (same_board x.0 row.0)) [
      | inl same ↦ (
          let gone : entry_of rest x.0 ≡ None = subst (λ q. entry_of rest q ≡ None) (sym (equal_boards x.0 row.0 same)) none in
          let one = entry_of-here x.0 row [] same in
          let all = entry_of-here x.0 row rest same in
          let left : pick (pick x.1 (entry_of (row ∷ []) x.0)) (entry_of rest x.0) ≡ smaller x.1 row.1 = λ i. pick (pick x.1 (one i)) (gone i) in
          let right : pick x.1 (entry_of (row ∷ rest) x.0) ≡ smaller x.1 row.1 = ap (pick x.1) all in
          λ i. (x.0, (left ∙ sym right) i))
      | inr other ↦ (
          let one = entry_of-there x.0 row [] other in
          let all = entry_of-there x.0 row rest other in
          let left : pick (pick x.1 (entry_of (row ∷ []) x.0)) (entry_of rest x.0) ≡ pick x.1 (entry_of rest x.0) = ap (λ o. pick (pick x.1 o) (entry_of rest x.0)) one in
          let right : pick x.1 (entry_of (row ∷ rest) x.0) ≡ pick x.1 (entry_of rest x.0) = ap (pick x.1) all in
          λ i. (x.0, (left ∙ sym right) i))
    ]

map_improved-cons : (row : Board × WinEntry) (rest : List (Board × WinEntry)) → HasNone rest row.0 → (into : List (Board × WinEntry))
    → map (improved rest) (map (improved (row ∷ [])) into) ≡ map (improved (row ∷ rest)) into
map_improved-cons row rest none [] = refl
map_improved-cons row rest none (x ∷ into) = λ i. improved-cons row rest none x i ∷ map_improved-cons row rest none into i

-- improving changes no position
is_none-improved : (from into : List (Board × WinEntry)) (q : Board) → is_none (entry_of (map (improved from) into) q) ≡ is_none (entry_of into q)
is_none-improved from [] q = refl
is_none-improved from (x ∷ into) q = by (same_board q x.0) (is_none-improved from into q)
  where
    by : (b : Bool) → is_none (entry_of (map (improved from) into) q) ≡ is_none (entry_of into q)
        → is_none (cond b (Some (pick x.1 (entry_of from x.0))) (entry_of (map (improved from) into) q)) ≡ is_none (cond b (Some x.1) (entry_of into q))
    by true more = refl
    by false more = more

new_rows-improved : (from into rest : List (Board × WinEntry)) → added_rows (map (improved from) into) rest ≡ added_rows into rest
new_rows-improved from into [] = refl
new_rows-improved from into (row ∷ rest) =
    let same = is_none-improved from into row.0 in
    let more = new_rows-improved from into rest in
    λ i. cond (same i) (row ∷ more i) (more i)

-- a row is not improved by a list without its position
improved-none : (from : List (Board × WinEntry)) (row : Board × WinEntry) → HasNone from row.0 → improved from row ≡ row
improved-none from row none = λ i. (row.0, pick row.1 (none i))

pub merged_wins-step : (into : List (Board × WinEntry)) (row : Board × WinEntry) (rest : List (Board × WinEntry))
    → HasNone rest row.0 → merged_wins (merged_wins into (row ∷ [])) rest ≡ merged_wins into (row ∷ rest)
merged_wins-step into row rest none = by (is_none (entry_of into row.0))
  where
    one : List (Board × WinEntry)
    one = map (improved (row ∷ [])) into

    by : (b : Bool) → merged_wins (one ++ cond b (row ∷ []) []) rest ≡ map (improved (row ∷ rest)) into ++ cond b (row ∷ added_rows into rest) (added_rows into rest)
    by true =
        let front = map-append (improved rest) one (row ∷ []) in
        let old = map_improved-cons row rest none into in
        let new = improved-none rest row none in
        let back = new_rows-push one row rest none ∙ new_rows-improved (row ∷ []) into rest in
        (λ i. front i ++ back i) ∙ (λ i. (old i ++ new i ∷ []) ++ added_rows into rest) ∙ append_assoc (map (improved (row ∷ rest)) into) (row ∷ []) (added_rows into rest)
    by false =
        let old = map_improved-cons row rest none into in
        let back = new_rows-improved (row ∷ []) into rest in
        ap (λ rows. merged_wins rows rest) (append-nil one) ∙ (λ i. old i ++ back i)

-- a list is improved at one position at most
map_improved-none : (row : Board × WinEntry) (into : List (Board × WinEntry)) → HasNone into row.0 → map (improved (row ∷ [])) into ≡ into
map_improved-none row [] none = refl
map_improved-none row (x ∷ into) none =
    let other : same_board x.0 row.0 ≡ false = same_board-equivalence.symm x.0 row.0 ∙ none_head row.0 x into none in
    let here = improved-none (row ∷ []) x (entry_of-there x.0 row [] other) in
    let more = map_improved-none row into (none_tail row.0 x into none) in
    λ i. here i ∷ more i

pub merged_wins-new : (into : List (Board × WinEntry)) (row : Board × WinEntry) → HasNone into row.0 → into ++ row ∷ [] ≡ merged_wins into (row ∷ [])
merged_wins-new into row none = sym (λ i. map_improved-none row into none i ++ cond (is_none (none i)) (row ∷ []) [])

-- the row of the position takes the better entry, at its place
map_improved-there : (row : Board × WinEntry) (kept : WinEntry) (into : List (Board × WinEntry)) (i : ℕ) → HasDistinctPositions into
    → slice_get into i ≡ Some (row.0, kept) → nat_lt row.1.rank kept.rank ≡ true → set into i row ≡ map (improved (row ∷ [])) into
map_improved-there row kept [] i distinct at below = cc
map_improved-there row kept (x ∷ into) zero distinct at below =
    let is : x ≡ (row.0, kept) = same_Some x (row.0, kept) at in
    let equal : x.0 ≡ row.0 = ap (λ (r : Board × WinEntry). r.0) is in
    let back : same_board x.0 row.0 ≡ true = ap (λ (q : Board). same_board q row.0) equal ∙ same_itself row.0 in
    let gone : HasNone into row.0 = subst (HasNone into) equal (first_none x into distinct) in
    let less : nat_lt row.1.rank x.1.rank ≡ true = subst (λ (e : WinEntry). nat_lt row.1.rank e.rank ≡ true) (sym (ap (λ (r : Board × WinEntry). r.1) is)) below in
    let better = ap (pick x.1) (entry_of-here x.0 row [] back) ∙ smaller-other x.1 row.1 less in
    let here : improved (row ∷ []) x ≡ row = λ k. (equal k, better k) in
    sym (λ k. here k ∷ map_improved-none row into gone k)
map_improved-there row kept (x ∷ into) (suc i) distinct at below =
    let found : entry_of into row.0 ≡ Some kept = lookup_found into (distinct_tail x into distinct) i row.0 kept at in
    let gone : HasNone into x.0 = first_none x into distinct in
    let apart : same_board x.0 row.0 ≡ false = elim (cases_Bool (same_board x.0 row.0)) [
      | inl same ↦ absurd (let none = subst (λ (q : Board). entry_of into q ≡ None) (equal_boards x.0 row.0 same) gone in cc)
      | inr other ↦ other
    ] in
    let here = improved-none (row ∷ []) x (entry_of-there x.0 row [] apart) in
    let more = map_improved-there row kept into i (distinct_tail x into distinct) at below in
    λ k. sym here k ∷ more k

map_improved-kept : (row : Board × WinEntry) (kept : WinEntry) (into : List (Board × WinEntry)) → HasDistinctPositions into
    → entry_of into row.0 ≡ Some kept → nat_lt row.1.rank kept.rank ≡ false → into ≡ map (improved (row ∷ [])) into
map_improved-kept row kept [] distinct is below = cc
map_improved-kept row kept (x ∷ into) distinct is below =
    elim (cases_Bool (same_board row.0 x.0)) [
      | inl same ↦ (
          let equal = equal_boards row.0 x.0 same in
          let this : kept ≡ x.1 = (let e = sym is ∙ entry_of-here row.0 x into same in cc) in
          let back : same_board x.0 row.0 ≡ true = same_board-equivalence.symm x.0 row.0 ∙ same in
          let gone : HasNone into row.0 = subst (HasNone into) (sym equal) (first_none x into distinct) in
          let less : nat_lt row.1.rank x.1.rank ≡ false = subst (λ (e : WinEntry). nat_lt row.1.rank e.rank ≡ false) this below in
          let here : improved (row ∷ []) x ≡ x = λ i. (x.0, (ap (pick x.1) (entry_of-here x.0 row [] back) ∙ smaller-same x.1 row.1 less) i) in
          sym (λ i. here i ∷ map_improved-none row into gone i))
      | inr other ↦ (
          let apart : same_board x.0 row.0 ≡ false = same_board-equivalence.symm x.0 row.0 ∙ other in
          let here = improved-none (row ∷ []) x (entry_of-there x.0 row [] apart) in
          let more = map_improved-kept row kept into (distinct_tail x into distinct) (sym (entry_of-there row.0 x into other) ∙ is) below in
          λ i. sym here i ∷ more i)
    ]

-- nothing new, where the position has an entry
merged_wins-present : (into : List (Board × WinEntry)) (row : Board × WinEntry) (kept : WinEntry) → entry_of into row.0 ≡ Some kept
    → map (improved (row ∷ [])) into ≡ merged_wins into (row ∷ [])
merged_wins-present into row kept is =
    sym (append-nil (map (improved (row ∷ [])) into)) ∙ ap (λ o. map (improved (row ∷ [])) into ++ cond (is_none o) (row ∷ []) []) (sym is)

pub merged_wins-there : (into : List (Board × WinEntry)) (row : Board × WinEntry) (kept : WinEntry) (i : ℕ) → HasDistinctPositions into
    → slice_get into i ≡ Some (row.0, kept) → nat_lt row.1.rank kept.rank ≡ true → set into i row ≡ merged_wins into (row ∷ [])
merged_wins-there into row kept i distinct at below =
    map_improved-there row kept into i distinct at below ∙ merged_wins-present into row kept (lookup_found into distinct i row.0 kept at)

pub merged_wins-kept : (into : List (Board × WinEntry)) (row : Board × WinEntry) (kept : WinEntry) → HasDistinctPositions into
    → entry_of into row.0 ≡ Some kept → nat_lt row.1.rank kept.rank ≡ false → into ≡ merged_wins into (row ∷ [])
merged_wins-kept into row kept distinct is below = map_improved-kept row kept into distinct is below ∙ merged_wins-present into row kept is

pub merged_wins-nil : (into : List (Board × WinEntry)) → merged_wins into [] ≡ into
merged_wins-nil into = append-nil (map (improved []) into) ∙ map-id into

-- ---- a list without its ranks

positions-without_rank : (rows : List (Board × WinEntry)) → positions_of (map without_rank rows) ≡ positions_of rows
positions-without_rank [] = refl
positions-without_rank (row ∷ rows) = ap (◌∷◌ row.0) (positions-without_rank rows)

pub distinct-without_rank : (rows : List (Board × WinEntry)) → HasDistinctPositions rows → HasDistinctPositions (map without_rank rows)
distinct-without_rank rows = subst (IsDistinct same_board) (sym (positions-without_rank rows))
