-- What one more call of a disk in memory does to what a crash may have left.
use Rattle.std.specs.Prelude.{◌≡◌, ◌⊎◌, ℕ, ◌+◌, ◌<◌, ◌≤◌, List, [], ◌∷◌, ◌++◌, get_or, length, reverse, take, Vec}
use Rattle.std.proofs.Common.{sym, ◌∙◌, ap, subst, inl, inr, ⊎_elim, arith, length-append}
use Rattle.std.proofs.lemmas.List.{length-reverse, reverse-append, take_more}
use Rattle.std.specs.declared.alloc.Global.{Global}
use Rattle.bench_disk.specs.Disk.{GoesOn, IsTorn, AddsNone}
use Rattle.bench_disk.specs.Torn.{torn_same}
use Rattle.bench_disk.specs.Calls.{IsImage, IsImageSince}
use Rattle.bench_disk.specs.CallLaws.{bytes_are_image, newest_is_now}
use Rattle.bench_disk.specs.MemoryDisk.{images_of, images_since_of, moment_of, reads_of}
use Rattle.bench_disk.specs.Runs.{Leaves, OnlyLooks, OnlySyncs, OnlyWrites, TornFrom}
use Rattle.bench_disk.specs.declared.call.Call.{Call}
use Rattle.bench_disk.specs.declared.call.Call.TheVariants.{Look, Sync, Write}
use Rattle.bench_disk.specs.declared.memory_disk.MemoryDisk.{MemoryDisk}

-- what a crash since an earlier moment may have left, with one call more, the newest first
newest_since : (start : List ℕ) (kept all : List Call) (call : Call) (t : ℕ) (image : List ℕ) → all ≡ kept ++ call ∷ [] → IsImageSince start (reverse all) t image
    → ((t ≤ length (call ∷ reverse kept)) × IsImage start (call ∷ reverse kept) image) ⊎ IsImageSince start (reverse kept) t image
newest_since start kept all call t image e since =
    subst (λ (calls : List Call). IsImageSince start calls t image) (reverse-append kept (call ∷ [])) (subst (λ (calls : List Call). IsImageSince start (reverse calls) t image) e since)

with_newest : (start : List ℕ) (kept all : List Call) (call : Call) (t : ℕ) (image : List ℕ) → all ≡ kept ++ call ∷ []
    → ((t ≤ length (call ∷ reverse kept)) × IsImage start (call ∷ reverse kept) image) ⊎ IsImageSince start (reverse kept) t image → IsImageSince start (reverse all) t image
with_newest start kept all call t image e since =
    subst (λ (calls : List Call). IsImageSince start (reverse calls) t image) (sym e) (subst (λ (calls : List Call). IsImageSince start calls t image) (sym (reverse-append kept (call ∷ []))) since)

-- since the last call began there is what a crash leaves before it and behind it
begun : (start : List ℕ) (kept all : List Call) (call : Call) (image : List ℕ) → all ≡ kept ++ call ∷ [] → IsImageSince start (reverse all) (length kept) image
    → IsImage start (call ∷ reverse kept) image ⊎ IsImage start (reverse kept) image
begun start kept all call image e since =
    ⊎_elim (λ here. inl here.1) (λ there. inr (newest_is_now start (reverse kept) image (subst (λ n. IsImageSince start (reverse kept) n image) (sym (length-reverse kept)) there)))
    (newest_since start kept all call (length kept) image e since)

goes_on : (start : List ℕ) (kept all : List Call) (call : Call) → all ≡ kept ++ call ∷ [] → GoesOn (length kept) (IsImageSince start (reverse kept)) (IsImageSince start (reverse all))
goes_on start kept all call e = record {
  nothing_else = λ t image le since.
      ⊎_elim (λ here. inr (with_newest start kept all call (length kept) image e (inl (omega (arith, length-reverse kept), here.1)))) (λ past. inl past) (newest_since start kept all call t image e since);
  keeps = λ t image le past. with_newest start kept all call t image e (inr past);
}

-- A call that was Ok: the disk before it and behind it.
pub record Adds (call : Call) (old new : MemoryDisk) : Type 0 where
  pub start : new.start.items ≡ old.start.items
  pub calls : new.calls.items ≡ old.calls.items ++ call ∷ []

module _ (call : Call) (old new : MemoryDisk) (adds : Adds call old new) where
  began : (image : List ℕ) → images_since_of new (moment_of old) image → IsImage old.start.items (call ∷ reverse old.calls.items) image ⊎ images_of old image
  began image since =
      begun old.start.items old.calls.items new.calls.items call image adds.calls (subst (λ (start : List ℕ). IsImageSince start (reverse new.calls.items) (moment_of old) image) adds.start since)

  pub leaves : (P : List ℕ → Type 0) → ((image : List ℕ) → IsImage old.start.items (call ∷ reverse old.calls.items) image → P image) → ((image : List ℕ) → images_of old image → P image)
      → Leaves moment_of images_since_of old new P
  leaves P here before = record {
    later = omega (arith, ap length adds.calls, length-append old.calls.items (call ∷ []));
    each = λ image since. ⊎_elim (here image) (before image) (began image since);
    since = subst (λ (start : List ℕ). GoesOn (moment_of old) (images_since_of old) (IsImageSince start (reverse new.calls.items))) (sym adds.start)
        (goes_on old.start.items old.calls.items new.calls.items call adds.calls);
  }

  now : (image : List ℕ) → IsImage old.start.items (call ∷ reverse old.calls.items) image → images_of new image
  now image is =
      subst (λ (start : List ℕ). IsImage start (reverse new.calls.items) image) (sym adds.start)
      (subst (λ (calls : List Call). IsImage old.start.items (reverse calls) image) (sym adds.calls) (subst (λ (calls : List Call). IsImage old.start.items calls image) (sym (reverse-append old.calls.items (call ∷ []))) is))

pub looked : (old new : MemoryDisk) → new.start.items ≡ old.start.items → new.calls.items ≡ old.calls.items ++ Look ∷ [] → reads_of new ≡ reads_of old → OnlyLooks reads_of images_of images_since_of moment_of old new
looked old new start calls same =
    let adds : Adds Look old new = record { start = start; calls = calls } in
    record { same = same; run = leaves Look old new adds (images_of old) (λ image is. is) (λ image is. is); stays = λ image is. now Look old new adds image is }

pub synced : (old new : MemoryDisk) → new.start.items ≡ old.start.items → new.calls.items ≡ old.calls.items ++ Sync ∷ [] → reads_of new ≡ reads_of old → OnlySyncs reads_of images_of images_since_of moment_of old new
synced old new start calls same = record {
  same = same;
  run = leaves Sync old new (record { start = start; calls = calls }) (images_of old)
      (λ image is. subst (images_of old) (sym is) (bytes_are_image old.start.items (reverse old.calls.items))) (λ image is. is);
}

pub wrote : (old new : MemoryDisk) (at : ℕ) (v : Vec ℕ Global) (bytes : List ℕ) → v.items ≡ bytes → new.start.items ≡ old.start.items → new.calls.items ≡ old.calls.items ++ Write at v ∷ []
    → OnlyWrites images_of images_since_of moment_of at (length bytes) old new
wrote old new at v bytes is start calls = record {
  run = leaves (Write at v) old new (record { start = start; calls = calls }) (TornFrom at (length bytes) (images_of old))
      (λ image torn. (torn.0, torn.1, subst (λ (l : List ℕ). IsTorn at (length l) torn.0 image) is torn.2)) (λ image was. (image, was, torn_same at (length bytes) image));
}

-- A call that failed: nothing is kept of it.
unchanged : (old new : MemoryDisk) (P : List ℕ → Type 0) → new.start.items ≡ old.start.items → new.calls.items ≡ old.calls.items → ((image : List ℕ) → images_of old image → P image) → Leaves moment_of images_since_of old new P
unchanged old new P start calls before =
    let past = λ (t : ℕ) (image : List ℕ). λ (since : images_since_of new t image).
    subst (λ (l : List Call). IsImageSince old.start.items (reverse l) t image) calls (subst (λ (s : List ℕ). IsImageSince s (reverse new.calls.items) t image) start since) in
    let again = λ (t : ℕ) (image : List ℕ). λ (since : images_since_of old t image).
    subst (λ (s : List ℕ). IsImageSince s (reverse new.calls.items) t image) (sym start) (subst (λ (l : List Call). IsImageSince old.start.items (reverse l) t image) (sym calls) since) in
    record {
      later = omega (arith, ap length calls);
      each = λ image since. before image (newest_is_now old.start.items (reverse old.calls.items) image (subst (λ n. IsImageSince old.start.items (reverse old.calls.items) n image) (sym (length-reverse old.calls.items)) (past (moment_of old) image since)));
      since = record { nothing_else = λ t image le since. inl (past t image since); keeps = λ t image le was. again t image was };
    }

same_images : (old new : MemoryDisk) → new.start.items ≡ old.start.items → new.calls.items ≡ old.calls.items → AddsNone (images_of new) (images_of old)
same_images old new start calls image is =
    subst (λ (s : List ℕ). IsImage s (reverse new.calls.items) image) (sym start) (subst (λ (l : List Call). IsImage old.start.items (reverse l) image) (sym calls) is)

pub not_looked : (old new : MemoryDisk) → new.start.items ≡ old.start.items → new.calls.items ≡ old.calls.items → reads_of new ≡ reads_of old → OnlyLooks reads_of images_of images_since_of moment_of old new
not_looked old new start calls same = record { same = same; run = unchanged old new (images_of old) start calls (λ image is. is); stays = same_images old new start calls }

pub not_synced : (old new : MemoryDisk) → new.start.items ≡ old.start.items → new.calls.items ≡ old.calls.items → reads_of new ≡ reads_of old → OnlySyncs reads_of images_of images_since_of moment_of old new
not_synced old new start calls same = record { same = same; run = unchanged old new (images_of old) start calls (λ image is. is) }

pub not_written : (old new : MemoryDisk) (at count : ℕ) → new.start.items ≡ old.start.items → new.calls.items ≡ old.calls.items → OnlyWrites images_of images_since_of moment_of at count old new
not_written old new at count start calls = record { run = unchanged old new (TornFrom at count (images_of old)) start calls (λ image was. (image, was, torn_same at count image)) }

-- one call more, the newest first
pub newest : (calls : List Call) (i : ℕ) (call : Call) → i < length calls → call ≡ get_or calls i call → reverse (take (i + 1) calls) ≡ call ∷ reverse (take i calls)
newest calls i call l is =
    ap reverse (take_more calls i call l) ∙ reverse-append (take i calls) (get_or calls i call ∷ []) ∙ ap (λ c. c ∷ reverse (take i calls)) (sym is)
