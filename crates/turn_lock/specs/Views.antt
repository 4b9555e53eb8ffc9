-- What a seat at the lock's table knows, at each stage.
use Rattle.std.specs.Prelude.{List, []}
use Rattle.atomic_table.specs.Table.{Me}
use Rattle.std.specs.Prelude.{Option}
use Rattle.turn_lock.specs.declared.view.SeatView.{SeatView}
use Rattle.turn_lock.specs.declared.view.Stage.TheVariants.{Outside, Entering, Holding, Joining, Gone}

-- a seat's view, with the slots that are out with it
abbrev pub Seated : Type 0 → Type 0 → Type 0
Seated V E = Me (Option V) (SeatView E)

module _ {E : Type 0} where
  -- the seat does not have the turn
  abbrev pub outside : List E → SeatView E
  outside front = record { front = front; joined = []; stage = Outside }

  -- it has the turn, and the value is still in the lock
  abbrev pub entering : List E → SeatView E
  entering front = record { front = front; joined = []; stage = Entering }

  -- it has the turn and the value
  abbrev pub holding : List E → SeatView E
  holding front = record { front = front; joined = []; stage = Holding }

  -- it has its own front and that of another seat
  abbrev pub joining : SeatView E → SeatView E → SeatView E
  joining this that = record { front = this.front; joined = that.front; stage = Joining }

  -- it was joined to another
  abbrev pub gone : SeatView E
  gone = record { front = []; joined = []; stage = Gone }
