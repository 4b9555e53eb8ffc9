-- At which place a position has its entry.
use Rattle.std.proofs.Common.{◌≡◌, ◌<◌, ℕ, inl, inr, List, Some, true, sym, ◌∙◌, ap, subst, slice_get, length, get_or, arith}
use Rattle.std.specs.Prelude.{Contains}
use Rattle.std.proofs.lemmas.Bool.{cases_lt, true≢false}
use Rattle.std.proofs.lemmas.List.{get_or-map, length-map}
use Rattle.std.proofs.lemmas.List.Elements.{Contains-get_or}
use Rattle.std.proofs.lemmas.Option.{slice_get_within, get_or_from_slice_get}
use Rattle.std.proofs.lemmas.Map.Keys.{apart_from_distinct}
use Rattle.draughts_board.specs.Board.{Board, same_board}
use Rattle.strategy_certificate.specs.Parts.{HasDistinctPositions, positions_of}
use Rattle.strategy_certificate.specs.Places.{StandsAt}
use Rattle.strategy_certificate.proofs.MergeLemmas.{same_itself}

module _ {E : Type 0} (rows : List (Board × E)) where
  pub contains_at : (i : ℕ) (p : Board) (e : E) → slice_get rows i ≡ Some (p, e) → Contains rows (p, e)
  contains_at i p e at =
      let within = slice_get_within rows i (p, e) at in
      subst (Contains rows) (get_or_from_slice_get rows i (p, e) (p, e) at) (Contains-get_or rows i (p, e) within)

  position_at : (i : ℕ) (p : Board) (d : Board) → StandsAt rows i p → get_or (positions_of rows) i d ≡ p
  position_at i p d (e, at) =
      let within = slice_get_within rows i (p, e) at in
      get_or-map (λ (row : Board × E). row.0) rows i (p, e) d within ∙ ap (λ (row : Board × E). row.0) (get_or_from_slice_get rows i (p, e) (p, e) at)

  -- no position stands at two places
  pub one_place : HasDistinctPositions rows → (i j : ℕ) (p : Board) → StandsAt rows i p → StandsAt rows j p → i ≡ j
  one_place distinct i j p one another =
      let long : length (positions_of rows) ≡ length rows = length-map rows (λ (row : Board × E). row.0) in
      let in_one : i < length rows = slice_get_within rows i (p, one.0) one.1 in
      let in_another : j < length rows = slice_get_within rows j (p, another.0) another.1 in
      let same : same_board (get_or (positions_of rows) i p) (get_or (positions_of rows) j p) ≡ true =
      (λ k. same_board (position_at i p p one k) (position_at j p p another k)) ∙ same_itself p in
      let back : same_board (get_or (positions_of rows) j p) (get_or (positions_of rows) i p) ≡ true =
      (λ k. same_board (position_at j p p another k) (position_at i p p one k)) ∙ same_itself p in
      elim (cases_lt i j) [
        | inl lt ↦ absurd (true≢false (sym same ∙ apart_from_distinct same_board (positions_of rows) i j p distinct lt (omega arith)))
        | inr ge ↦ elim (cases_lt j i) [
          | inl lt ↦ absurd (true≢false (sym back ∙ apart_from_distinct same_board (positions_of rows) j i p distinct lt (omega arith)))
          | inr le ↦ omega arith
        ]
      ]
