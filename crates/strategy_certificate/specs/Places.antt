-- At which place a position has its entry.
use Rattle.std.specs.Prelude.{◌≡◌, ℕ, List, Some, slice_get}
use Rattle.draughts_board.specs.Board.{Board}

-- the position has its entry at this place, counted from 0
abbrev pub StandsAt : {E : Type 0} → List (Board × E) → ℕ → Board → Type 0
StandsAt {E} rows i p = (e : E) × (slice_get rows i ≡ Some (p, e))
