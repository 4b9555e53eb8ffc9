-- A turn goes on, and so does its session, on the same disk.
use Rattle.std.proofs.Common.{◌≡◌, ◌≤◌, ℕ, List, refl, ap, sym, ◌∙◌, subst, arith}
use Rattle.bench_disk.specs.declared.disk.Disk.{Ghosts}
use Rattle.bench_disk.specs.Disk.{IsHonest, GoesOn}
use Rattle.bench_disk.specs.Runs.{Leaves, leaves_none, leaves_then}
use Rattle.turn_lock.specs.Seen.{LockId, SeenPass}
use Rattle.tree_manager.specs.declared.entries.Entry.{Entry}
use Rattle.tree_manager.specs.Sessions.{SessionState}
use Rattle.tree_manager.specs.Turns.{GrowsByTurns}
use Rattle.tree_manager.specs.Taken.{TurnStart, TurnState, IsSameDisk, IsSameSession, TurnGoesOn, HasTurn}
use Rattle.tree_manager.proofs.TurnLemmas.{grows_same, grows_then}

-- ---- the disk

module _ {D : Type 0} (g : Ghosts D) where
  disk_stays : (disk : D) → IsSameDisk g disk disk
  disk_stays disk = record {
    faults = omega arith;
    moment = λ honest. omega arith;
    since = λ honest. (leaves_none g.moment g.images_since disk (λ image. Unit {0}) (λ image here. tt)).since;
  }

  -- an honest disk leaves something, whatever it is
  leaves_any : (old new : D) → IsHonest g.TELLS → IsSameDisk g old new → Leaves g.moment g.images_since old new (λ image. Unit {0})
  leaves_any old new honest same = record {
    later = same.moment honest;
    each = λ image since. tt;
    since = same.since honest;
  }

  disk_then : ((disk : D) (s t : ℕ) (image : List ℕ) → IsHonest g.TELLS → s ≤ t → g.images_since disk t image → g.images_since disk s image)
      → (old mid new : D) → IsSameDisk g old mid → IsSameDisk g mid new → IsSameDisk g old new
  disk_then earlier old mid new first second = record {
    faults = omega (arith, first.faults, second.faults);
    moment = λ honest. omega (arith, first.moment honest, second.moment honest);
    since = λ honest.
        (leaves_then g.moment g.images_since (λ disk s t image le past. earlier disk s t image honest le past) old mid new (λ image. Unit {0}) (leaves_any old mid honest first) (leaves_any mid new honest second)).since;
  }

  -- ---- the session

  session_stays : (s : SessionState D) → IsSameSession g s s
  session_stays s = record { line = grows_same s.line s.line refl; disk = disk_stays s.disk }

  pub session_begins : (found held now : SessionState D) → found ≡ held → now ≡ held → IsSameSession g found now
  session_begins found held now is there = subst (λ (s : SessionState D). IsSameSession g found s) (is ∙ sym there) (session_stays found)

  -- a call that leaves the disk as it was
  pub session_grows : (found old mid new : SessionState D) → IsSameSession g found old → mid ≡ old → GrowsByTurns mid.line new.line → new.disk ≡ mid.disk → IsSameSession g found new
  session_grows found old mid new same is grows disk =
      let before : IsSameSession g found mid = subst (λ (s : SessionState D). IsSameSession g found s) (sym is) same in
      record {
        line = grows_then _ _ _ before.line grows;
        disk = subst (λ d. IsSameDisk g found.disk d) (sym disk) before.disk;
      }

  -- a call that makes calls of the disk
  pub session_commits : ((disk : D) (s t : ℕ) (image : List ℕ) → IsHonest g.TELLS → s ≤ t → g.images_since disk t image → g.images_since disk s image)
      → (found old mid new : SessionState D) → IsSameSession g found old → mid ≡ old → GrowsByTurns mid.line new.line
      → g.faults mid.disk ≤ g.faults new.disk → (IsHonest g.TELLS → g.moment mid.disk ≤ g.moment new.disk)
      → (IsHonest g.TELLS → GoesOn (g.moment mid.disk) (g.images_since mid.disk) (g.images_since new.disk)) → IsSameSession g found new
  session_commits earlier found old mid new same is grows faults moment since =
      let before : IsSameSession g found mid = subst (λ (s : SessionState D). IsSameSession g found s) (sym is) same in
      record {
        line = grows_then _ _ _ before.line grows;
        disk = disk_then earlier found.disk mid.disk new.disk before.disk (record { faults = faults; moment = moment; since = since });
      }

-- ---- the turn

module _ {D : Type 0} where
  -- what holds of the session as a call found it
  pub at_session : (P : SessionState D → Type 0) (old inside : TurnState D) (mid : SessionState D) → inside ≡ old → mid ≡ inside.session → P mid → P old.session
  at_session P old inside mid is there h = subst P (there ∙ ap (λ (t : TurnState D). t.session) is) h

  pub turn_grows : (old inside new : TurnState D) (mid : SessionState D) → inside ≡ old → mid ≡ inside.session → new.start ≡ inside.start → GrowsByTurns mid.line new.session.line → TurnGoesOn old new
  turn_grows old inside new mid is there start grows = record {
    start = start ∙ ap (λ (t : TurnState D). t.start) is;
    line = at_session (λ s. GrowsByTurns s.line new.session.line) old inside mid is there grows;
  }

  pub turn_stays : (turn : TurnState D) → TurnGoesOn turn turn
  turn_stays turn = record { start = refl; line = grows_same turn.session.line turn.session.line refl }

  pub turn_then : (old mid new : TurnState D) → TurnGoesOn old mid → TurnGoesOn mid new → TurnGoesOn old new
  turn_then old mid new first second = record {
    start = second.start ∙ first.start;
    line = grows_then _ _ _ first.line second.line;
  }

  -- the pass still has the turn
  pub has_turn_on : (lock : LockId) (pass : SeenPass Entry) (old new : TurnState D) → HasTurn lock pass old.start → TurnGoesOn old new → HasTurn lock pass new.start
  has_turn_on lock pass old new has goes = subst (λ (start : TurnStart D). HasTurn lock pass start) (sym goes.start) has
