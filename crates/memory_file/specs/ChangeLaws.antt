-- The laws of a file in memory, of its changes, the newest first.
use Rattle.std.specs.Prelude.{◌≡◌, ◌⊎◌, ℕ, ◌<◌, ◌≤◌, List, [], ◌∷◌, length, refl}
use Rattle.std.proofs.Common.{sym, subst, inl, inr, arith}
use Rattle.bench_disk.specs.Torn.{torn_same, written_is_torn}
use Rattle.memory_file.specs.Changes.{AreEnded, IsEnded, IsImage, IsImageSince, MayLeave, bytes_after, changed}
use Rattle.memory_file.specs.declared.changes.Change.{Change}
use Rattle.memory_file.specs.declared.changes.Change.TheVariants.{Wrote, Synced}
use Rattle.memory_file.specs.declared.changes.Step.{Step}

whole_may_be_left : (change : Change) (reads : List ℕ) (images : List ℕ → Type 0) → images reads
    → MayLeave change reads images (changed change reads)
whole_may_be_left (Wrote at bytes) reads images is =
    (reads, is, written_is_torn reads at bytes.items)
whole_may_be_left Synced reads images is = refl

pub bytes_are_image : (start : List ℕ) (steps : List Step)
    → IsImage start steps (bytes_after start steps)
bytes_are_image start [] = tt
bytes_are_image start (step ∷ steps) =
    whole_may_be_left step.change (bytes_after start steps) (IsImage start steps)
    (bytes_are_image start steps)

pub reads_is_image : (start : List ℕ) (steps : List Step) (bytes : List ℕ)
    → bytes ≡ bytes_after start steps → IsImage start steps bytes
reads_is_image start steps bytes e =
    subst (IsImage start steps) (sym e) (bytes_are_image start steps)

pub now_counts : (start : List ℕ) (steps : List Step) (t : ℕ) (image : List ℕ)
    → IsImage start steps image → IsImageSince start steps t image
now_counts start [] t image now = tt
now_counts start (step ∷ steps) t image now = inl now

since_earlier : (start : List ℕ) (steps : List Step) (s t : ℕ) (image : List ℕ) → s ≤ t
    → IsImageSince start steps t image → IsImageSince start steps s image
since_earlier start [] s t image le since = tt
since_earlier start (step ∷ steps) s t image le (inl now) = inl now
since_earlier start (step ∷ steps) s t image le (inr before) =
    inr (omega (arith, le, before.0), since_earlier start steps s t image le before.1)

pub earlier_counts : (start : List ℕ) (steps : List Step) (now s t : ℕ) (image : List ℕ) → s ≤ t
    → (t ≤ now) × IsImageSince start steps t image → (s ≤ now) × IsImageSince start steps s image
earlier_counts start steps now s t image le since =
    (omega (arith, le, since.0), since_earlier start steps s t image le since.1)

-- what a crash left before a change of the present moment, it may leave behind it too
left_before : (now moment : ℕ) (change : Change) (reads : List ℕ) (images : List ℕ → Type 0)
    (image : List ℕ) → (change ≡ Synced → moment < now) → now ≤ moment → images image
    → MayLeave change reads images image
left_before now moment (Wrote at bytes) reads images image ended le is =
    (image, is, torn_same at (length bytes.items) image)
left_before now moment Synced reads images image ended le is =
    absurd (let before = ended refl in omega (arith, before, le))

pub only_now : (start : List ℕ) (steps : List Step) (now : ℕ) (image : List ℕ)
    → AreEnded now steps → IsImageSince start steps now image → IsImage start steps image
only_now start [] now image ended since = tt
only_now start (step ∷ steps) now image ended (inl is) = is
only_now start (step ∷ steps) now image ended (inr before) =
    left_before now step.moment step.change (bytes_after start steps) (IsImage start steps) image
    ended.0 before.0 (only_now start steps now image ended.1 before.1)
