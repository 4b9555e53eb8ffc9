-- The laws of a disk, of the calls that one in memory keeps, which are listed here the oldest
-- first.
use Rattle.std.specs.Prelude.{◌≡◌, ℕ, ◌+◌, ◌≤◌, List, [], ◌∷◌, length, reverse, refl}
use Rattle.std.proofs.Common.{sym, subst, inl, inr, arith}
use Rattle.std.proofs.lemmas.List.{length-reverse}
use Rattle.bench_disk.specs.Calls.{IsImage, IsImageSince, bytes_after, synced_after}
use Rattle.bench_disk.specs.Torn.{torn_same, written_is_torn}
use Rattle.bench_disk.specs.declared.call.Call.{Call}
use Rattle.bench_disk.specs.declared.call.Call.TheVariants.{Look, Sync, Write}

-- of the calls, the newest first

pub bytes_are_image : (start : List ℕ) (calls : List Call)
    → IsImage start calls (bytes_after start calls)
bytes_are_image start [] = refl
bytes_are_image start (Look ∷ calls) = bytes_are_image start calls
bytes_are_image start (Sync ∷ calls) = refl
bytes_are_image start (Write at bytes ∷ calls) = (
  bytes_after start calls,
  bytes_are_image start calls,
  written_is_torn (bytes_after start calls) at bytes.items,
)

-- a crash may leave none of the pending writes
pub synced_is_image : (start : List ℕ) (calls : List Call)
    → IsImage start calls (synced_after start calls)
synced_is_image start [] = refl
synced_is_image start (Look ∷ calls) = synced_is_image start calls
synced_is_image start (Sync ∷ calls) = refl
synced_is_image start (Write at bytes ∷ calls) = (
  synced_after start calls,
  synced_is_image start calls,
  torn_same at (length bytes.items) (synced_after start calls),
)

now_is_since : (start : List ℕ) (calls : List Call) (t : ℕ) (image : List ℕ) → t ≤ length calls
    → IsImage start calls image → IsImageSince start calls t image
now_is_since start [] t image le now = (omega arith, now)
now_is_since start (call ∷ calls) t image le now = inl (le, now)

pub earlier_counts : (start : List ℕ) (calls : List Call) (s t : ℕ) (image : List ℕ) → s ≤ t
    → IsImageSince start calls t image → IsImageSince start calls s image
earlier_counts start [] s t image le since = (omega (arith, since.0), since.1)
earlier_counts start (call ∷ calls) s t image le (inl here) = inl (omega (arith, here.0), here.1)
earlier_counts start (call ∷ calls) s t image le (inr there) =
    inr (earlier_counts start calls s t image le there)

none_later : (start : List ℕ) (calls : List Call) (t : ℕ) (image : List ℕ) → length calls + 1 ≤ t
    → IsImageSince start calls t image → ⊥
none_later start [] t image le since = omega (arith, since.0)
none_later start (call ∷ calls) t image le (inl here) = omega (arith, here.0)
none_later start (call ∷ calls) t image le (inr there) =
    none_later start calls t image (omega arith) there

pub newest_is_now : (start : List ℕ) (calls : List Call) (image : List ℕ)
    → IsImageSince start calls (length calls) image → IsImage start calls image
newest_is_now start [] image since = since.1
newest_is_now start (call ∷ calls) image (inl here) = here.1
newest_is_now start (call ∷ calls) image (inr there) =
    absurd (none_later start calls (length (call ∷ calls)) image (omega arith) there)

-- of the calls as they are kept, the oldest first

pub reads_is_image : (start : List ℕ) (kept : List Call) (bytes : List ℕ)
    → bytes ≡ bytes_after start (reverse kept) → IsImage start (reverse kept) bytes
reads_is_image start kept bytes e =
    subst (IsImage start (reverse kept)) (sym e) (bytes_are_image start (reverse kept))

pub now_counts : (start : List ℕ) (kept : List Call) (t : ℕ) (image : List ℕ) → t ≤ length kept
    → IsImage start (reverse kept) image → IsImageSince start (reverse kept) t image
now_counts start kept t image le now =
    now_is_since start (reverse kept) t image (omega (arith, length-reverse kept)) now

pub only_now : (start : List ℕ) (kept : List Call) (image : List ℕ)
    → IsImageSince start (reverse kept) (length kept) image → IsImage start (reverse kept) image
only_now start kept image since = newest_is_now start (reverse kept) image
    (subst (λ n. IsImageSince start (reverse kept) n image) (sym (length-reverse kept)) since)
