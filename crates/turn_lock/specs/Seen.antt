-- What contracts see of a lock and of a pass.
use Rattle.std.specs.Prelude.{◌≡◌, List, [], ◌∷◌, Bool, true, false, None}
use Rattle.atomic_table.specs.Seated.{TableId}
use Rattle.turn_lock.specs.declared.view.Stage.{Stage}
use Rattle.turn_lock.specs.declared.view.Stage.TheVariants.{Outside, Entering, Holding, Joining, Gone}
use Rattle.turn_lock.specs.Views.{Seated, outside, holding}

-- which lock it is
abbrev pub LockId : Type 0
LockId = TableId

-- which lock the pass is of, the entries that it has seen, and whether it has the turn
pub record SeenPass (E : Type 0) : Type 0 where
  pub lock : LockId
  pub front : List E
  pub turn : Bool

-- the pass is of this lock, and does not have the turn
pub record IsOutside {E : Type 0} (lock : LockId) (pass : SeenPass E) : Type 0 where
  pub of_lock : pass.lock ≡ lock
  pub outside : pass.turn ≡ false

-- whether a seat at this stage has the turn
abbrev pub has_turn : Stage → Bool
has_turn Outside = false
has_turn Entering = true
has_turn Holding = true
has_turn Joining = false
has_turn Gone = false

module _ {V E : Type 0} where
  abbrev pub seen : LockId → Seated V E → SeenPass E
  seen lock me = record { lock = lock; front = me.0.front; turn = has_turn me.0.stage }

  -- a seat that is not in the middle of a call
  abbrev pub between_calls : List E → Bool → Seated V E
  between_calls front false = (outside front, [])
  between_calls front true = (holding front, (0, None) ∷ [])

  -- between calls a pass has the turn and the empty slot, or neither
  abbrev pub IsBetweenCalls : Seated V E → Type 0
  IsBetweenCalls me = me ≡ between_calls me.0.front (has_turn me.0.stage)
