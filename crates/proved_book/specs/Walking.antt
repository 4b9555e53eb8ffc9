-- What a walk along a strategy has come to. Nobody has to believe it.
use Rattle.std.specs.Prelude.{◌≡◌, ◌<◌, ◌↔◌, ℕ, List, ◌++◌, Contains, All, length, slice_get, Some, IfSome}
use Rattle.std.specs.List.Sorted.{IsStrictlyIncreasing}
use Rattle.draughts_board.specs.Board.{Board}
use Rattle.draughts_board.specs.Rules.{IsLegal}
use Rattle.strategy_certificate.specs.Places.{StandsAt}
use Rattle.proved_book.specs.Trimming.{Strategy, GoesOn, Leads}

-- each move that is chosen is legal
abbrev pub AreLegalChoices : Strategy → Type 0
AreLegalChoices rows = All (λ row. IfSome row.1 (IsLegal row.0)) rows

-- These positions were noted: new places were added behind those that were seen, and each of the
-- positions that has a place is seen now.
pub record Notes (rows : Strategy) (due : List Board) (seen seen' : List ℕ) : Type 0 where
  pub added : List ℕ
  pub is : seen' ≡ seen ++ added
  pub fresh : (i : ℕ) → Contains added i → (r : Board) × (Contains due r × StandsAt rows i r)
  pub each : (r : Board) (i : ℕ) → Contains due r → StandsAt rows i r → Contains seen' i

-- A walk from p that went on from the first places so far: to each place that is seen p leads, p is
-- seen, and so is all to which the first places go on.
pub record IsWalk (rows : Strategy) (p : Board) (seen : List ℕ) (done : ℕ) : Type 0 where
  pub sound : (i : ℕ) → Contains seen i → (q : Board) × (StandsAt rows i q × Leads rows p q)
  pub start : (i : ℕ) → StandsAt rows i p → Contains seen i
  pub closed : (k i : ℕ) → k < done → slice_get seen k ≡ Some i
      → (q r : Board) (j : ℕ) → StandsAt rows i q → GoesOn rows q r → StandsAt rows j r → Contains seen j

-- the places, rising, of the entries to which p leads
pub record ArePlacesLedTo (rows : Strategy) (p : Board) (places : List ℕ) : Type 0 where
  pub rising : IsStrictlyIncreasing places
  pub within : All (λ i. i < length rows) places
  pub exact : (i : ℕ) (q : Board) → StandsAt rows i q → Contains places i ↔ Leads rows p q
