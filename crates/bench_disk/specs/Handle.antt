-- What a call of an open file does.
use Rattle.std.specs.Prelude.{◌≡◌, ◌⊎◌, ℕ, ◌+◌, ◌≤◌, List, ◌++◌, length, take, drop, Bool, IsTrue}
use Rattle.bench_disk.specs.Runs.{OnlyLooks, OnlySyncs, OnlyWrites}

-- Some bytes from a place on were read into the front of a buffer, and behind them the buffer
-- stays. There are none of them only where the bytes end there, or where the buffer is empty.
pub record HasReadSome (at : ℕ) (bytes : List ℕ) (count : ℕ) (old new : List ℕ) : Type 0 where
  pub there : count ≤ length (drop at bytes)
  pub filled : new ≡ take count (drop at bytes) ++ drop count old
  pub none : count ≡ 0 → (length old ≡ 0) ⊎ (length bytes ≤ at)

-- It is still in the moment in which it was, and where the file's entry outlasted a crash it still
-- does.
pub record StaysIn {F : Type 0} (moment : F → ℕ) (is_entered : F → Bool)
    (old new : F) : Type 0 where
  pub within : moment new ≡ moment old
  pub entry : IsTrue (is_entered old) → IsTrue (is_entered new)

-- It ended the moment, and where the file's entry outlasted a crash it still does.
pub record EndsMoment {F : Type 0} (moment : F → ℕ) (is_entered : F → Bool)
    (old new : F) : Type 0 where
  pub ended : moment new ≡ moment old + 1
  pub entry : IsTrue (is_entered old) → IsTrue (is_entered new)

-- looks, within a moment
pub record Looks {F : Type 0} (reads : F → List ℕ) (images : F → List ℕ → Type 0)
    (images_since : F → ℕ → List ℕ → Type 0) (moment : F → ℕ) (is_entered : F → Bool)
    (old new : F) : Type 0 where
  pub looks : OnlyLooks reads images images_since moment old new
  pub stays : StaysIn moment is_entered old new

-- writes within a range, within a moment
pub record Writes {F : Type 0} (images : F → List ℕ → Type 0)
    (images_since : F → ℕ → List ℕ → Type 0) (moment : F → ℕ) (is_entered : F → Bool) (at count : ℕ)
    (old new : F) : Type 0 where
  pub writes : OnlyWrites images images_since moment at count old new
  pub stays : StaysIn moment is_entered old new

-- a sync, which ends the moment
pub record Syncs {F : Type 0} (reads : F → List ℕ) (images : F → List ℕ → Type 0)
    (images_since : F → ℕ → List ℕ → Type 0) (moment : F → ℕ) (is_entered : F → Bool)
    (old new : F) : Type 0 where
  pub syncs : OnlySyncs reads images images_since moment old new
  pub ends : EndsMoment moment is_entered old new

-- the end of a moment, and nothing else
pub record Pauses {F : Type 0} (reads : F → List ℕ) (images : F → List ℕ → Type 0)
    (images_since : F → ℕ → List ℕ → Type 0) (moment : F → ℕ) (is_entered : F → Bool)
    (old new : F) : Type 0 where
  pub looks : OnlyLooks reads images images_since moment old new
  pub ends : EndsMoment moment is_entered old new
