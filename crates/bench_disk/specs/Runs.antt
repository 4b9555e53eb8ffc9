-- What a call does, or a run of calls, of which the layer above makes one call of its own.
use Rattle.std.specs.Prelude.{◌≡◌, ℕ, ◌+◌, ◌≤◌, List, Result}
use Rattle.std.proofs.Common.{◌∙◌, inl, inr, ⊎_elim, arith}
use Rattle.bench_disk.specs.Disk.{AddsNone, GoesOn, IsTorn, TakesOneMoment}
use Rattle.shared_words.specs.Counts.{HasCause}
use Rattle.bench_disk.specs.Torn.{torn_then}

-- A crash at some moment since the run began leaves only what has P, and what a crash since an
-- earlier moment may have left goes on.
pub record Leaves {D : Type 0} (moment : D → ℕ) (images_since : D → ℕ → List ℕ → Type 0)
    (old new : D) (P : List ℕ → Type 0) : Type 0 where
  pub later : moment old ≤ moment new
  pub each : (image : List ℕ) → images_since new (moment old) image → P image
  pub since : GoesOn (moment old) (images_since old) (images_since new)

-- an old image, torn by a range of this number of bytes from a place on
abbrev pub TornFrom : ℕ → ℕ → (List ℕ → Type 0) → List ℕ → Type 0
TornFrom at count old image = (whole : List ℕ) × old whole × IsTorn at count whole image

-- Calls that only look: the disk reads as before, a crash since they began leaves only what it
-- might have left before, and it still might.
pub record OnlyLooks {D : Type 0} (reads : D → List ℕ) (images : D → List ℕ → Type 0)
    (images_since : D → ℕ → List ℕ → Type 0) (moment : D → ℕ) (old new : D) : Type 0 where
  pub same : reads new ≡ reads old
  pub run : Leaves moment images_since old new (images old)
  pub stays : AddsNone (images new) (images old)

-- Calls that write within a range: a crash since they began leaves only what it might have left
-- before, torn by the range.
pub record OnlyWrites {D : Type 0} (images : D → List ℕ → Type 0)
    (images_since : D → ℕ → List ℕ → Type 0) (moment : D → ℕ) (at count : ℕ)
    (old new : D) : Type 0 where
  pub run : Leaves moment images_since old new (TornFrom at count (images old))

-- Calls that sync: the disk reads as before, and a crash since they began leaves only what it might
-- have left before.
pub record OnlySyncs {D : Type 0} (reads : D → List ℕ) (images : D → List ℕ → Type 0)
    (images_since : D → ℕ → List ℕ → Type 0) (moment : D → ℕ) (old new : D) : Type 0 where
  pub same : reads new ≡ reads old
  pub run : Leaves moment images_since old new (images old)

-- what one call of any disk does to its moment and to its faults
pub record IsCall {D T E : Type 0} (moment faults : D → ℕ) (old new : D)
    (result : Result T E) : Type 0 where
  pub takes : TakesOneMoment (moment old) (moment new) result
  pub cause : HasCause (faults old) (faults new) result

-- a run leaves what has a weaker property too
pub leaves_weaker : {D : Type 0} (moment : D → ℕ) (images_since : D → ℕ → List ℕ → Type 0)
    (old new : D) (P Q : List ℕ → Type 0) → ((image : List ℕ) → P image → Q image)
    → Leaves moment images_since old new P → Leaves moment images_since old new Q
leaves_weaker moment images_since old new P Q weaker run =
    record {
      later = run.later;
      each = λ image since. weaker image (run.each image since);
      since = run.since;
    }

-- the run of no call
pub leaves_none : {D : Type 0} (moment : D → ℕ) (images_since : D → ℕ → List ℕ → Type 0) (disk : D)
    (P : List ℕ → Type 0) → ((image : List ℕ) → images_since disk (moment disk) image → P image)
    → Leaves moment images_since disk disk P
leaves_none moment images_since disk P here =
    record {
      later = omega arith;
      each = here;
      since =
          record { nothing_else = λ t image le past. inl past; keeps = λ t image le past. past };
    }

-- one run behind another is a run
pub leaves_then : {D : Type 0} (moment : D → ℕ) (images_since : D → ℕ → List ℕ → Type 0)
    → ((disk : D) (s t : ℕ) (image : List ℕ) → s ≤ t → images_since disk t image
    → images_since disk s image)
    → (old mid new : D) (P : List ℕ → Type 0) → Leaves moment images_since old mid P
    → Leaves moment images_since mid new P → Leaves moment images_since old new P
leaves_then moment images_since earlier old mid new P first second = record {
  later = omega (arith, first.later, second.later);
  each = λ image since. ⊎_elim (first.each image) (second.each image)
      (second.since.nothing_else (moment old) image first.later since);
  since = record {
    nothing_else = λ t image le since. ⊎_elim
        (λ past. ⊎_elim (λ before. inl before)
        (λ began. inr (second.since.keeps (moment old) image first.later began))
        (first.since.nothing_else t image le past))
        (λ began. inr (earlier new (moment old) (moment mid) image first.later began))
        (second.since.nothing_else t image (omega (arith, le, first.later)) since);
    keeps = λ t image le past. second.since.keeps t image (omega (arith, le, first.later))
        (first.since.keeps t image le past);
  };
}

-- The groups, one behind another.
module _ {D : Type 0} (reads : D → List ℕ) (images : D → List ℕ → Type 0)
    (images_since : D → ℕ → List ℕ → Type 0) (moment : D → ℕ)
    (now_counts : (disk : D) (t : ℕ) (image : List ℕ) → t ≤ moment disk → images disk image
    → images_since disk t image)
    (earlier_counts : (disk : D) (s t : ℕ) (image : List ℕ) → s ≤ t → images_since disk t image
    → images_since disk s image) where
  -- what a later run leaves of images that the first one left
  pub leaves_from : (old mid new : D) → Leaves moment images_since old mid (images old)
      → Leaves moment images_since mid new (images mid)
      → Leaves moment images_since old new (images old)
  leaves_from old mid new first second =
      leaves_then moment images_since earlier_counts old mid new (images old) first
      (leaves_weaker moment images_since mid new (images mid) (images old)
      (λ image now. first.each image (now_counts mid
      (moment old) image first.later now)) second)

  pub looks_then : (old mid new : D) → OnlyLooks reads images images_since moment old mid
      → OnlyLooks reads images images_since moment mid new
      → OnlyLooks reads images images_since moment old new
  looks_then old mid new first second = record {
    same = second.same ∙ first.same;
    run = leaves_from old mid new first.run second.run;
    stays = λ image was. second.stays image (first.stays image was);
  }

  pub syncs_then : (old mid new : D) → OnlySyncs reads images images_since moment old mid
      → OnlySyncs reads images images_since moment mid new
      → OnlySyncs reads images images_since moment old new
  syncs_then old mid new first second =
      record { same = second.same ∙ first.same; run = leaves_from old mid new first.run second.run }

  -- a write within the range of the first ones
  pub writes_then : (at count from n : ℕ) (old mid new : D) → at ≤ from → from + n ≤ at + count
      → OnlyWrites images images_since moment at count old mid
      → OnlyWrites images images_since moment from n mid new
      → OnlyWrites images images_since moment at count old new
  writes_then at count from n old mid new low high first second = record {
    run = leaves_then moment images_since earlier_counts old mid new
        (TornFrom at count (images old)) first.run
        (leaves_weaker moment images_since mid new (TornFrom from n (images mid))
        (TornFrom at count (images old))
        (λ image torn. let was = first.run.each torn.0
        (now_counts mid (moment old) torn.0 first.run.later torn.1) in (
          was.0,
          was.1,
          torn_then at count from n was.0 torn.0 image low high was.2 torn.2,
        )) second.run);
  }
