-- A turn that a pass has taken: what contracts see of it, and how it goes on.
use Rattle.std.specs.Prelude.{◌≡◌, ◌≤◌, true}
use Rattle.bench_disk.specs.declared.disk.Disk.{Ghosts}
use Rattle.bench_disk.specs.Disk.{GoesOn, IsHonest}
use Rattle.turn_lock.specs.Seen.{LockId, SeenPass}
use Rattle.tree_manager.specs.declared.entries.Entry.{Entry}
use Rattle.tree_manager.specs.Sessions.{SessionState}
use Rattle.tree_manager.specs.Turns.{GrowsByTurns}

-- the lock of which the session is, and the session as the turn found it
pub record TurnStart (D : Type 0) : Type 0 where
  pub lock : LockId
  pub found : SessionState D

-- how a turn began, and the session as it is now
pub record TurnState (D : Type 0) : Type 0 where
  pub start : TurnStart D
  pub session : SessionState D

-- The disk went on: its calls were made, and its bytes were changed by nothing else.
pub record IsSameDisk {D : Type 0} (g : Ghosts D) (old new : D) : Type 0 where
  pub faults : g.faults old ≤ g.faults new
  pub moment : IsHonest g.TELLS → g.moment old ≤ g.moment new
  pub since : IsHonest g.TELLS
      → GoesOn (g.moment old) (g.images_since old) (g.images_since new)

-- The session went on: its line by entries that turns may add, on the same disk.
pub record IsSameSession {D : Type 0} (g : Ghosts D) (old new : SessionState D) : Type 0 where
  pub line : GrowsByTurns old.line new.line
  pub disk : IsSameDisk g old.disk new.disk

-- The turn goes on: it is the same turn, and its session's line grew by entries that turns may add.
pub record TurnGoesOn {D : Type 0} (old new : TurnState D) : Type 0 where
  pub start : new.start ≡ old.start
  pub line : GrowsByTurns old.session.line new.session.line

-- The pass has the turn at this lock, which began so, and its front is the line that was found.
pub record HasTurn {D : Type 0} (lock : LockId) (pass : SeenPass Entry)
    (start : TurnStart D) : Type 0 where
  pub lock_is : pass.lock ≡ lock
  pub turn : pass.turn ≡ true
  pub of_lock : start.lock ≡ lock
  pub front : pass.front ≡ start.found.line
