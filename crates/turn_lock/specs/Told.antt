-- What each step on the lock's table tells: of the step, the seat before, the number found and the
-- seat after.
use Rattle.std.specs.Prelude.{◌≡◌, ◌≢◌, ◌⊎◌, ℕ, List, [], ◌∷◌, Option, Some}
use Rattle.atomic_table.specs.Table.{Step}
use Rattle.turn_lock.specs.Growth.{GrowsTo}
use Rattle.turn_lock.specs.Views.{Seated, outside, entering, holding}

module _ {V E : Type 0} where
  -- the seat has the turn where nobody had it, and else nothing changed
  abbrev pub TakesTurn : Step (Option V) → Seated V E → ℕ → Seated V E → Type 0
  TakesTurn s me found me' =
      (found ≡ 0 → me' ≡ (entering me.0.front, me.1)) × (found ≢ 0 → me' ≡ me)

  -- the value goes out with the seat, and its entries are the front
  abbrev pub TakesValue : (V → List E) → (E → Type 0) → Step (Option V) → Seated V E → ℕ
      → Seated V E → Type 0
  TakesValue entries may_add s me found me' =
      (value : V) × (me' ≡ (holding (entries value), (0, Some value) ∷ []))
      × GrowsTo may_add me.0.front (entries value)

  -- the front becomes these entries
  abbrev pub NotesEntries : List E → Step (Option V) → Seated V E → ℕ → Seated V E → Type 0
  NotesEntries noted s me found me' = me' ≡ (holding noted, me.1)

  -- the value is in the lock, and the turn is free
  abbrev pub GivesTurn : Step (Option V) → Seated V E → ℕ → Seated V E → Type 0
  GivesTurn s me found me' = me' ≡ (outside me.0.front, [])

  -- of two fronts the seat keeps the longer
  abbrev pub KeepsLonger : (E → Type 0) → Step (Option V) → Seated V E → ℕ → Seated V E → Type 0
  KeepsLonger may_add s me found me' =
      (longer : List E) × (me' ≡ (outside longer, []))
      × ((longer ≡ me.0.front) ⊎ (longer ≡ me.0.joined)) × GrowsTo may_add me.0.front longer
      × GrowsTo may_add me.0.joined longer
