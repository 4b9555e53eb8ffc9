-- What a look-up says of the entries, and what each row of a part keeps.
use Rattle.std.proofs.Common.{◌≡◌, ℕ, ◌↔◌, List, [], ◌∷◌, ◌++◌, refl, sym, ◌∙◌, Option, Some, None, Bool, true, false, cond, map}
use Rattle.std.specs.Prelude.{Contains, All, IfSome, IsNone, MatchBool, is_none}
use Rattle.std.proofs.lemmas.List.Elements.{All-weaker, All-append, All-map, All-filter, All-nil, All-cons}
use Rattle.std.proofs.lemmas.Map.Entries.{All-lookup}
use Rattle.std.proofs.lemmas.Map.Views.{Contains-from_lookup, lookup-from_Contains}
use Rattle.draughts_board.specs.Board.{Board, same_board}
use Rattle.draughts_board.specs.Same.{same_board-equivalence}
use Rattle.strategy_certificate.specs.declared.entries.WinEntry.{WinEntry}
use Rattle.strategy_certificate.specs.Parts.{HasEntry, HasDistinctPositions, entry_of, improved, added_rows, merged_wins, merged_holds, IsInRange, IsWinRow, IsHoldRow, without_rank}
use Rattle.strategy_certificate.proofs.MergeLemmas.{equal_boards, HasNone, pick-all}

module _ {E : Type 0} (rows : List (Board × E)) (p : Board) where
  -- a look-up finds what stands there
  pub entry_of-iff : HasDistinctPositions rows → (e : E) → (entry_of rows p ≡ Some e) ↔ Contains rows (p, e)
  entry_of-iff distinct e = (Contains-from_lookup equal_boards p e rows, lookup-from_Contains same_board-equivalence p e rows distinct)

  pub none-from_absent : ¬ HasEntry rows p → HasNone rows p
  none-from_absent absent = by (entry_of rows p) refl
    where
      by : (o : Option E) → entry_of rows p ≡ o → o ≡ None
      by None is = refl
      by (Some e) is = absurd (absent (e, Contains-from_lookup equal_boards p e rows is))

  absent-from_none : HasDistinctPositions rows → HasNone rows p → ¬ HasEntry rows p
  absent-from_none distinct none (e, there) = let found = sym none ∙ lookup-from_Contains same_board-equivalence p e rows distinct there in cc

  -- and finds nothing exactly where nothing stands
  pub none-iff : HasDistinctPositions rows → IsNone (entry_of rows p) ↔ (¬ HasEntry rows p)
  none-iff distinct = by (entry_of rows p) refl
    where
      by : (o : Option E) → entry_of rows p ≡ o → IsNone o ↔ (¬ HasEntry rows p)
      by None is = (λ _. absent-from_none distinct is, λ _. refl)
      by (Some e) is = (λ none. cc, λ absent. absurd (absent (e, Contains-from_lookup equal_boards p e rows is)))

  -- whether nothing stands there, as a test
  pub tells_new : HasDistinctPositions rows → MatchBool (is_none (entry_of rows p)) (¬ HasEntry rows p) (HasEntry rows p)
  tells_new distinct = by (entry_of rows p) refl
    where
      by : (o : Option E) → entry_of rows p ≡ o → MatchBool (is_none o) (¬ HasEntry rows p) (HasEntry rows p)
      by None is = absent-from_none distinct is
      by (Some e) is = (e, Contains-from_lookup equal_boards p e rows is)

-- where nothing stands the test says so
pub told_new : {X : Type 0} (b : Bool) → MatchBool b (¬ X) X → ¬ X → b ≡ true
told_new true tells absent = refl
told_new false tells absent = absurd (absent tells)

-- ---- rows

pub entry_of-in_range : (rows : List (Board × WinEntry)) (p : Board) → All IsWinRow rows → IfSome (entry_of rows p) IsInRange
entry_of-in_range rows p all = All-lookup IsInRange (same_board p) rows (All-weaker IsWinRow (λ x. IsInRange x.1) (λ x keeps. keeps.1) rows all)

improved-IsWinRow : (from : List (Board × WinEntry)) → All IsWinRow from → (row : Board × WinEntry) → IsWinRow row → IsWinRow (improved from row)
improved-IsWinRow from all row keeps = (
  keeps.0,
  pick-all IsInRange row.1 (entry_of from row.0) (keeps.1)
      (entry_of-in_range from row.0 all),
)

pub All-merged_wins : (into from : List (Board × WinEntry)) → All IsWinRow into → All IsWinRow from → All IsWinRow (merged_wins into from)
All-merged_wins into from all more =
    All-append IsWinRow (map (improved from) into) (added_rows into from)
    (All-map IsWinRow (improved from) into (All-weaker IsWinRow (λ row. IsWinRow (improved from row)) (improved-IsWinRow from more) into all))
    (All-filter (λ row. is_none (entry_of into row.0)) IsWinRow from more)

pub All-merged_holds : (into from : List (Board × Option (List ℕ))) → All IsHoldRow into → All IsHoldRow from → All IsHoldRow (merged_holds into from)
All-merged_holds into from all more =
    All-append IsHoldRow into (added_rows into from) all (All-filter (λ row. is_none (entry_of into row.0)) IsHoldRow from more)

pub All-hold_of : (rows : List (Board × WinEntry)) → All IsWinRow rows → All IsHoldRow (map without_rank rows)
All-hold_of rows all = All-map IsHoldRow without_rank rows (All-weaker IsWinRow (λ row. IsHoldRow (without_rank row)) (λ row keeps. (keeps.0, keeps.1.1)) rows all)

All-push : {X : Type 0} (P : X → Type 0) (xs : List X) (x : X) → All P xs → P x → All P (xs ++ x ∷ [])
All-push P xs x all here = All-append P xs (x ∷ []) all (All-cons P x [] here (All-nil P))

pub All-added : {X : Type 0} (P : X → Type 0) (xs : List X) (x : X) (b : Bool) → All P xs → P x → All P (cond b (xs ++ x ∷ []) xs)
All-added P xs x true all here = All-push P xs x all here
All-added P xs x false all here = all
