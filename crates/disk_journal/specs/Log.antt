-- A journal as its callers see it, and what its receipts say.
use Rattle.std.specs.Prelude.{◌≡◌, ◌⊎◌, ◌<◌, ◌≤◌, ◌^◌, ℕ, List, length, Bool, false}
use Rattle.std.specs.List.{flat_map}
use Rattle.bench_disk.specs.Disk.{IsHonest, NothingPending}
use Rattle.disk_journal.specs.Format.{IsFresh, IsJournal, StandsBetween, journal_front}

-- A journal: its disk, the pieces of its tables, what is staged, how many payloads it has, the
-- moment when it was opened, and whether it failed.
pub record Log (D : Type 0) : Type 0 where
  pub disk : D
  pub pieces : ℕ
  pub staged : List (List ℕ)
  pub count : ℕ
  pub opened : ℕ
  pub failed : Bool

-- The disk holds a journal of these payloads, with nothing pending, and its closed gate stands at
-- this place.
pub record IsAtRest {D : Type 0} (reads : D → List ℕ) (images : D → List ℕ → Type 0) (disk : D)
    (pieces gate : ℕ) (payloads : List (List ℕ)) : Type 0 where
  pub frames : List (List (List ℕ))
  pub journal : IsJournal pieces frames (reads disk)
  pub place : gate ≡ length (journal_front pieces frames)
  pub all : payloads ≡ flat_map (λ f. f) frames
  pub settled : NothingPending (reads disk) (images disk)

-- each image of a crash since that moment stands for the low list of payloads, or for more, up to
-- the high list
abbrev pub StandsSince : {D : Type 0} → (D → ℕ → List ℕ → Type 0) → D → ℕ → ℕ → List (List ℕ)
    → List (List ℕ) → Type 0
StandsSince images_since disk t pieces low high =
    (image : List ℕ) → images_since disk t image → StandsBetween pieces low high image

-- what attaching may leave of a file: an image that there was, or, of a fresh file, a fresh one
abbrev pub StaysOrFresh : (List ℕ → Type 0) → List ℕ → List ℕ → Type 0
StaysOrFresh images file image = images image ⊎ (IsFresh file × IsFresh image)

-- What a journal keeps: unless it failed its disk is at rest.
pub record IsSoundJournal {D : Type 0} (tells : Bool) (reads : D → List ℕ)
    (images : D → List ℕ → Type 0) (disk : D) (pieces gate count : ℕ) (failed : Bool) : Type 0 where
  pub bound : gate < 2 ^ 62
  pub counted : count ≤ gate
  pub at_rest : IsHonest tells → failed ≡ false
      → (payloads : List (List ℕ)) × IsAtRest reads images disk pieces gate payloads
      × (length payloads ≡ count)
