-- What a disk in memory reads after a list of calls, the newest first, and what a crash may leave
-- of it.
use Rattle.std.specs.Prelude.{◌≡◌, ◌⊎◌, ℕ, ◌≤◌, List, [], ◌∷◌, length}
use Rattle.bench_disk.specs.Disk.{IsTorn, written}
use Rattle.bench_disk.specs.declared.call.Call.{Call}
use Rattle.bench_disk.specs.declared.call.Call.TheVariants.{Look, Sync, Write}

-- the bytes that are read after the calls
abbrev pub bytes_after : List ℕ → List Call → List ℕ
bytes_after start [] = start
bytes_after start (Look ∷ calls) = bytes_after start calls
bytes_after start (Sync ∷ calls) = bytes_after start calls
bytes_after start (Write at bytes ∷ calls) = written (bytes_after start calls) at bytes.items

-- the bytes that were read at the last sync: what is left without the writes that are pending
abbrev pub synced_after : List ℕ → List Call → List ℕ
synced_after start [] = start
synced_after start (Look ∷ calls) = synced_after start calls
synced_after start (Sync ∷ calls) = bytes_after start calls
synced_after start (Write at bytes ∷ calls) = synced_after start calls

-- a crash after the calls may leave this image: the bytes of the last sync, torn by each write
-- since, in turn
abbrev pub IsImage : List ℕ → List Call → List ℕ → Type 0
IsImage start [] image = image ≡ start
IsImage start (Look ∷ calls) image = IsImage start calls image
IsImage start (Sync ∷ calls) image = image ≡ bytes_after start calls
IsImage start (Write at bytes ∷ calls) image =
    (whole : List ℕ) × IsImage start calls whole × IsTorn at (length bytes.items) whole image

-- a crash at some moment after at least t of the calls may have left it
abbrev pub IsImageSince : List ℕ → List Call → ℕ → List ℕ → Type 0
IsImageSince start [] t image = (t ≡ 0) × IsImage start [] image
IsImageSince start (call ∷ calls) t image = ((t ≤ length (call ∷ calls))
    × IsImage start (call ∷ calls) image) ⊎ IsImageSince start calls t image
