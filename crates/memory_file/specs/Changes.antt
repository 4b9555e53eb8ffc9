-- What a file in memory reads after a list of changes, the newest first, and what a crash may leave of it.
use Rattle.std.specs.Prelude.{◌≡◌, ◌⊎◌, ℕ, ◌<◌, ◌≤◌, List, [], ◌∷◌, length}
use Rattle.std.specs.List.{AllByRecursion as Each}
use Rattle.bench_disk.specs.Disk.{written}
use Rattle.bench_disk.specs.Runs.{TornFrom}
use Rattle.memory_file.specs.declared.changes.Change.{Change}
use Rattle.memory_file.specs.declared.changes.Change.TheVariants.{Wrote, Synced}
use Rattle.memory_file.specs.declared.changes.Step.{Step}

-- the bytes that are read after a change
abbrev pub changed : Change → List ℕ → List ℕ
changed (Wrote at bytes) old = written old at bytes.items
changed Synced old = old

-- .. and after all of them
abbrev pub bytes_after : List ℕ → List Step → List ℕ
bytes_after start [] = start
bytes_after start (step ∷ steps) = changed step.change (bytes_after start steps)

-- What a crash may leave behind a change of a file that reads so and has these images: behind a write
-- an old image that its range tore, behind a sync the bytes alone.
abbrev pub MayLeave : Change → List ℕ → (List ℕ → Type 0) → List ℕ → Type 0
MayLeave (Wrote at bytes) reads images image = TornFrom at (length bytes.items) images image
MayLeave Synced reads images image = image ≡ reads

-- A crash after the changes may leave this image: anything where none of them is a sync, for the file
-- may be new.
abbrev pub IsImage : List ℕ → List Step → List ℕ → Type 0
IsImage start [] image = Unit {0}
IsImage start (step ∷ steps) image =
    MayLeave step.change (bytes_after start steps) (IsImage start steps) image

-- A crash may have left it at some time since that moment began: now, or before a change that came in
-- that moment or later.
abbrev pub IsImageSince : List ℕ → List Step → ℕ → List ℕ → Type 0
IsImageSince start [] t image = Unit {0}
IsImageSince start (step ∷ steps) t image =
    IsImage start (step ∷ steps) image ⊎ ((t ≤ step.moment) × IsImageSince start steps t image)

-- a sync ended its moment
abbrev pub IsEnded : ℕ → Step → Type 0
IsEnded now step = step.change ≡ Synced → step.moment < now

abbrev pub AreEnded : ℕ → List Step → Type 0
AreEnded now steps = Each (IsEnded now) steps
