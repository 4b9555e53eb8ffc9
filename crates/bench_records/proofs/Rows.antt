-- Entries of parts: positions that stand once.
use Rattle.std.proofs.Common.{◌≡◌, true, false, List, [], ◌∷◌, ◌++◌, refl, sym, ◌∙◌, subst, inl, inr, ◌⊎◌}
use Rattle.std.specs.Prelude.{Contains, Option, Some, None, IsNone, is_some, ◌↔◌}
use Rattle.std.specs.List.{list_any, IsDistinct, AllByRecursion}
use Rattle.std.proofs.lemmas.Bool.{false≢true}
use Rattle.std.proofs.lemmas.List.{map-append, map_push}
use Rattle.std.proofs.lemmas.Map.Keys.{IsDistinct-head, IsDistinct-tail, IsDistinct-push}
use Rattle.draughts_board.specs.Board.{Board, same_board}
use Rattle.draughts_board.specs.Same.{same_board-Decides, same_board-equivalence}
use Rattle.draughts_board.proofs.Members.{bool_cases, Contains-nil, Contains-cons_cases, Contains-map, Contains-from_map, true_any}
use Rattle.strategy_certificate.specs.Parts.{HasDistinctPositions, HasEntry, positions_of}

pub new_push : (qs : List Board) (p : Board) → IsDistinct same_board qs → ¬ Contains qs p → IsDistinct same_board (qs ++ p ∷ [])
new_push qs p distinct new = IsDistinct-push same_board-equivalence qs p distinct (none (bool_cases (list_any (same_board p) qs)))
  where
    none : (list_any (same_board p) qs ≡ true) ⊎ (list_any (same_board p) qs ≡ false) → list_any (same_board p) qs ≡ false
    none (inr absent) = absent
    none (inl found_any) =
        let found = true_any (same_board p) qs found_any in
        absurd (new (subst (Contains qs) (sym ((same_board-Decides p found.0).0 found.1.1)) found.1.0))

middle_differs : (p : Board) (qs : List Board) (q : Board) (more : List Board) → AllByRecursion (λ r. same_board p r ≡ false) (qs ++ q ∷ more) → same_board p q ≡ false
middle_differs p [] q more h = h.0
middle_differs p (r ∷ qs) q more h = middle_differs p qs q more h.1

new_here : (qs : List Board) (p : Board) (more : List Board) → IsDistinct same_board (qs ++ p ∷ more) → ¬ Contains qs p
new_here [] p more distinct there = Contains-nil p there
new_here (q ∷ qs) p more distinct there =
    elim (Contains-cons_cases q qs p there) [
      | inl same ↦ false≢true (sym (middle_differs q qs p more (IsDistinct-head same_board q (qs ++ p ∷ more) distinct)) ∙ (same_board-Decides q p).1 same)
      | inr later ↦ new_here qs p more (IsDistinct-tail same_board q (qs ++ p ∷ more) distinct) later
    ]

pub none_distinct : (E : Type 0) → HasDistinctPositions {E = E} []
unfolding IsDistinct
none_distinct E = tt

module _ {E : Type 0} where
  -- one more entry, of a new position
  pub distinct_push : (rows : List (Board × E)) (row : Board × E) → HasDistinctPositions rows → ¬ Contains (positions_of rows) row.0 → HasDistinctPositions (rows ++ row ∷ [])
  distinct_push rows row distinct new =
      subst (IsDistinct same_board) (sym (map_push (λ (r : Board × E). r.0) rows row)) (new_push (positions_of rows) row.0 distinct new)

  -- an entry's position has none before it
  pub distinct_here : (rows : List (Board × E)) (row : Board × E) (more : List (Board × E)) → HasDistinctPositions (rows ++ row ∷ more) → ¬ Contains (positions_of rows) row.0
  distinct_here rows row more distinct =
      new_here (positions_of rows) row.0 (positions_of more) (subst (IsDistinct same_board) (map-append (λ (r : Board × E). r.0) rows (row ∷ more)) distinct)

  pub entry_stands : (rows : List (Board × E)) (p : Board) → HasEntry rows p → Contains (positions_of rows) p
  entry_stands rows p (e, there) = Contains-map (λ (r : Board × E). r.0) rows (p, e) there

  pub position_has_entry : (rows : List (Board × E)) (p : Board) → Contains (positions_of rows) p → HasEntry rows p
  position_has_entry rows p there =
      let found = Contains-from_map (λ (r : Board × E). r.0) rows p there in
      (found.0.1, subst (λ q. Contains rows (q, found.0.1)) found.1.1 found.1.0)

  -- what a look-up says
  pub is_taken : (r : Option E) (rows : List (Board × E)) (p : Board) → ((e : E) → (r ≡ Some e) ↔ Contains rows (p, e)) → is_some r ≡ true → HasEntry rows p
  is_taken (Some e) rows p found some = (e, (found e).0 refl)
  is_taken None rows p found some = absurd (false≢true some)

  pub not_taken : (r : Option E) (rows : List (Board × E)) (p : Board) → IsNone r ↔ (¬ HasEntry rows p) → is_some r ≡ false → ¬ HasEntry rows p
  not_taken None rows p none absent = none.0 refl
  not_taken (Some e) rows p none absent = absurd (false≢true (sym absent))
