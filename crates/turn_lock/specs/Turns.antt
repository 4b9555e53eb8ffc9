-- The rule of the lock's table, which holds between any two steps of any threads.
-- Word 0 is the turn, 0 while nobody has it. Word 1 counts the entries. The one slot is the
-- value's.
use Rattle.std.specs.Prelude.{◌≡◌, ℕ, ◌<◌, ◌^◌, List, [], ◌∷◌, length, Option, Some}
use mathlib.Core.Option.{some}
use mathlib.Core.Option as maybe
use lib.ListN.{get_elem?}
use Rattle.atomic_table.specs.Table.{State}
use Rattle.turn_lock.specs.Growth.{GrowsTo}
use Rattle.turn_lock.specs.declared.view.SeatView.{SeatView}
use Rattle.turn_lock.specs.declared.view.Stage.{Stage}
use Rattle.turn_lock.specs.declared.view.Stage.TheVariants.{Outside, Entering, Holding, Joining, Gone}

module _ {V E : Type 0} (entries : V → List E) (may_add : E → Type 0) where
  -- the lock has a value with these entries
  abbrev pub IsHome : List E → maybe.Option (Option V) → Type 0
  IsHome log home = (value : V) × (home ≡ some (Some value)) × (entries value ≡ log)

  -- what holds of a seat with these fronts at this stage
  abbrev pub Knows : ℕ → ℕ → maybe.Option (Option V) → List E → ℕ → List E → List E → Stage → Type 0
  Knows turn holder home log seat front joined Outside = GrowsTo may_add front log
  Knows turn holder home log seat front joined Entering =
      (seat ≡ holder) × (0 < turn) × GrowsTo may_add front log × IsHome log home
  Knows turn holder home log seat front joined Holding =
      (seat ≡ holder) × (0 < turn) × (front ≡ log)
  Knows turn holder home log seat front joined Joining =
      GrowsTo may_add front log × GrowsTo may_add joined log
  Knows turn holder home log seat front joined Gone = Unit {0}

  -- the log is the value's entries while it is in the lock, and else the front of the seat that
  -- holds it
  pub record Turns (s : State (Option V) (SeatView E)) : Type 0 where
    pub turn : ℕ
    pub holder : ℕ
    pub home : maybe.Option (Option V)
    pub log : List E
    pub words : s.words ≡ turn ∷ length log ∷ []
    pub homes : s.homes ≡ home ∷ []
    pub fits : length log < 2 ^ 64
    pub at_rest : turn ≡ 0 → IsHome log home
    pub each_seat : (seat : ℕ) (view : SeatView E) → get_elem? s.views seat ≡ some view
        → Knows turn holder home log seat view.front view.joined view.stage
