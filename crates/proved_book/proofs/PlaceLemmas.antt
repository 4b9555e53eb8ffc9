-- What stands at which place.
use Rattle.std.proofs.Common.{◌≡◌, ℕ, List, Option, Some, None, refl, sym, ◌∙◌, ap, slice_get, map}
use Rattle.std.specs.Prelude.{Contains}
use Rattle.std.specs.Option.{option_map}
use Rattle.std.proofs.lemmas.Option.{slice_get-get_or, slice_get-map, none-some, same_Some, some_pair_parts}
use Rattle.std.proofs.lemmas.Map.Views.{lookup-from_Contains}
use Rattle.draughts_board.specs.Board.{Board}
use Rattle.draughts_board.specs.Same.{same_board-equivalence}
use Rattle.strategy_certificate.specs.declared.entries.WinEntry.{WinEntry}
use Rattle.strategy_certificate.specs.Parts.{HasDistinctPositions, without_rank}
use Rattle.strategy_certificate.specs.Places.{StandsAt}
use Rattle.strategy_certificate.proofs.PlaceLemmas.{contains_at}

module _ {E : Type 0} (rows : List (Board × E)) where
  -- an entry stands at some place
  pub place_of_entry : (p : Board) (e : E) → Contains rows (p, e) → (i : ℕ) × (slice_get rows i ≡ Some (p, e))
  place_of_entry p e (i, within, is) = (i, slice_get-get_or rows i (p, e) within ∙ ap Some is)

  -- what stands at one place is one
  pub same_there : (i : ℕ) (p q : Board) → StandsAt rows i p → StandsAt rows i q → p ≡ q
  same_there i p q (e, at) (f, also) = (some_pair_parts p q e f (sym at ∙ also)).0

  -- an entry of a position that stands at the place is what stands there
  pub entry_there : HasDistinctPositions rows → (i : ℕ) (p : Board) (e f : E) → slice_get rows i ≡ Some (p, e) → Contains rows (p, f) → e ≡ f
  entry_there distinct i p e f at there =
      let one = lookup-from_Contains same_board-equivalence p e rows distinct (contains_at rows i p e at) in
      let other = lookup-from_Contains same_board-equivalence p f rows distinct there in
      same_Some e f (sym one ∙ other)

-- ---- a win part's rows, without their ranks

pub stands_without_rank : (rows : List (Board × WinEntry)) (i : ℕ) (p : Board) → StandsAt rows i p → StandsAt (map without_rank rows) i p
stands_without_rank rows i p (e, at) = (e.chosen, slice_get-map without_rank rows i ∙ ap (option_map without_rank) at)

pub stands_with_rank : (rows : List (Board × WinEntry)) (i : ℕ) (p : Board) → StandsAt (map without_rank rows) i p → StandsAt rows i p
stands_with_rank rows i p (chosen, at) = by (slice_get rows i) refl
  where
    by : (o : Option (Board × WinEntry)) → slice_get rows i ≡ o → StandsAt rows i p
    by None is = absurd (none-some (p, chosen) (ap (option_map without_rank) (sym is) ∙ (sym (slice_get-map without_rank rows i) ∙ at)))
    by (Some row) is =
        let same : Some (without_rank row) ≡ Some (p, chosen) = ap (option_map without_rank) (sym is) ∙ (sym (slice_get-map without_rank rows i) ∙ at) in
        let here : row.0 ≡ p = (some_pair_parts row.0 p row.1.chosen chosen same).0 in
        (row.1, is ∙ (λ k. Some (here k, row.1)))
