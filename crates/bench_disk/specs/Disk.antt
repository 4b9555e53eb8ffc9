-- What a call of a disk does to its bytes, to what a crash may leave of them, to its moment and to
-- its count of faults.
use Rattle.std.specs.Prelude.{◌≡◌, ◌⊎◌, ℕ, ◌+◌, ◌-◌, ◌^◌, ◌<◌, ◌≤◌, max, Bool, IsTrue, List, ◌++◌, length, take, drop, slice_index, Result, IsErr, OnOk}

-- an honest disk: its type says that it tells its bytes, and then it keeps every clause on them
abbrev pub IsHonest : Bool → Type 0
IsHonest tells = IsTrue tells

-- the bytes with these in the place of what stood there, longer where these end later
abbrev pub written : List ℕ → ℕ → List ℕ → List ℕ
written old at bytes = take at old ++ bytes ++ drop (at + length bytes) old

-- `count` bytes from place `at` on were read into the front of a buffer: as many as there are and as
-- it has room for. Behind them the buffer stays.
pub record HasRead (at : ℕ) (bytes : List ℕ) (count : ℕ) (old new : List ℕ) : Type 0 where
  pub number : count ≡ length (take (length old) (drop at bytes))
  pub filled : new ≡ take (length old) (drop at bytes) ++ drop count old

-- Torn by a range of `count` bytes from place `at` on: every byte outside of the range stays. Inside
-- of it and past the old end there may stand anything, and the end lies anywhere from the old one
-- to that of the range.
pub record IsTorn (at count : ℕ) (old new : List ℕ) : Type 0 where
  pub no_shorter : length old ≤ length new
  pub no_longer : length new ≤ max (length old) (at + count)
  pub outside : (k : ℕ) → k < length old → (k < at) ⊎ (at + count ≤ k)
      → slice_index new k ≡ slice_index old k

-- each new image is an old one, torn by the range
abbrev pub AddsOnlyTorn : ℕ → ℕ → (List ℕ → Type 0) → (List ℕ → Type 0) → Type 0
AddsOnlyTorn at count old new =
    (image : List ℕ) → new image → (whole : List ℕ) × old whole × IsTorn at count whole image

-- no image is new
abbrev pub AddsNone : (List ℕ → Type 0) → (List ℕ → Type 0) → Type 0
AddsNone old new = (image : List ℕ) → new image → old image

-- nothing pending: a crash leaves what a read gives, and nothing else
abbrev pub NothingPending : List ℕ → (List ℕ → Type 0) → Type 0
NothingPending reads images = (image : List ℕ) → images image → image ≡ reads

-- The disk reads as before, and a crash may leave what it might have left before.
pub record Stays {D : Type 0} (reads : D → List ℕ) (images : D → List ℕ → Type 0)
    (old new : D) : Type 0 where
  pub same : reads new ≡ reads old
  pub none_added : AddsNone (images old) (images new)
  pub none_lost : AddsNone (images new) (images old)

-- Calls that began at the moment `before`. What a crash since an earlier moment might have left
-- before them, it might have left behind them; all else that it might have left, a crash since
-- their beginning might have left.
pub record GoesOn (before : ℕ) (past since : ℕ → List ℕ → Type 0) : Type 0 where
  pub nothing_else : (t : ℕ) (image : List ℕ) → t ≤ before → since t image
      → past t image ⊎ since before image
  pub keeps : (t : ℕ) (image : List ℕ) → t ≤ before → past t image → since t image

-- A call that is Ok raises the moment by one, and one that fails by at most one. At the last moment
-- each call fails.
pub record TakesOneMoment {T E : Type 0} (before now : ℕ) (result : Result T E) : Type 0 where
  pub later : before ≤ now
  pub at_most_one : now ≤ before + 1
  pub ok : OnOk result (now ≡ before + 1)
  pub last : before ≡ 2 ^ 64 - 1 → IsErr result × (now ≡ before)
