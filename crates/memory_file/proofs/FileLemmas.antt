-- What a call of a file in memory does to what a crash may have left.
use Rattle.std.specs.Prelude.{◌≡◌, refl, ◌⊎◌, ℕ, ◌+◌, ◌<◌, ◌≤◌, List, [], ◌∷◌, ◌++◌, Bool, IsTrue, length, reverse, Vec}
use Rattle.std.proofs.Common.{sym, ◌∙◌, ap, subst, inl, inr, ⊎_elim, arith}
use Rattle.std.proofs.lemmas.List.{reverse-append}
use Rattle.std.specs.declared.alloc.Global.{Global}
use Rattle.bench_disk.specs.Disk.{GoesOn, IsTorn, NothingPending}
use Rattle.bench_disk.specs.Handle.{Looks, Pauses, Syncs, Writes}
use Rattle.bench_disk.specs.Torn.{torn_same}
use Rattle.bench_disk.specs.Runs.{Leaves, OnlyLooks, OnlySyncs, OnlyWrites, TornFrom}
use Rattle.memory_file.specs.Changes.{AreEnded, IsImage, IsImageSince, bytes_after}
use Rattle.memory_file.specs.Files.{images_of, images_since_of, moment_of, reads_of}
use Rattle.memory_file.specs.ChangeLaws.{bytes_are_image, only_now}
use Rattle.memory_file.specs.declared.changes.Change.{Change}
use Rattle.memory_file.specs.declared.changes.Change.TheVariants.{Wrote, Synced}
use Rattle.memory_file.specs.declared.changes.Step.{Step}
use Rattle.memory_file.specs.declared.held.MemoryFile.{MemoryFile}

-- ---- a call that changed nothing, and perhaps ended the moment

module _ (old new : MemoryFile) (start : new.start.items ≡ old.start.items) (steps : new.steps.items ≡ old.steps.items) (later : old.moment ≤ new.moment) where
  past : (t : ℕ) (image : List ℕ) → IsImageSince new.start.items (reverse new.steps.items) t image → IsImageSince old.start.items (reverse old.steps.items) t image
  past t image since =
      subst (λ (l : List Step). IsImageSince old.start.items (reverse l) t image) steps (subst (λ (s : List ℕ). IsImageSince s (reverse new.steps.items) t image) start since)

  again : (t : ℕ) (image : List ℕ) → IsImageSince old.start.items (reverse old.steps.items) t image → IsImageSince new.start.items (reverse new.steps.items) t image
  again t image since =
      subst (λ (s : List ℕ). IsImageSince s (reverse new.steps.items) t image) (sym start) (subst (λ (l : List Step). IsImageSince old.start.items (reverse l) t image) (sym steps) since)

  pub stays : (P : List ℕ → Type 0) → ((image : List ℕ) → images_of old image → P image) → AreEnded old.moment (reverse old.steps.items) → Leaves moment_of images_since_of old new P
  stays P here ended = record {
    later = later;
    each = λ image since. here image (only_now old.start.items (reverse old.steps.items) old.moment image ended (past old.moment image since.1));
    since = record { nothing_else = λ t image le since. inl (le, past t image since.1); keeps = λ t image le was. (omega (arith, le, later), again t image was.1) };
  }

  same_images : (image : List ℕ) → images_of old image → images_of new image
  same_images image is =
      subst (λ (s : List ℕ). IsImage s (reverse new.steps.items) image) (sym start) (subst (λ (l : List Step). IsImage old.start.items (reverse l) image) (sym steps) is)

  pub looked : AreEnded old.moment (reverse old.steps.items) → reads_of new ≡ reads_of old → OnlyLooks reads_of images_of images_since_of moment_of old new
  looked ended same = record { same = same; run = stays (images_of old) (λ image is. is) ended; stays = same_images }

  pub not_synced : AreEnded old.moment (reverse old.steps.items) → reads_of new ≡ reads_of old → OnlySyncs reads_of images_of images_since_of moment_of old new
  not_synced ended same = record { same = same; run = stays (images_of old) (λ image is. is) ended }

  pub not_written : AreEnded old.moment (reverse old.steps.items) → (at count : ℕ) → OnlyWrites images_of images_since_of moment_of at count old new
  not_written ended at count = record { run = stays (TornFrom at count (images_of old)) (λ image is. (image, is, torn_same at count image)) ended }

-- ---- a call that added a change of the present moment

pub record Adds (step : Step) (old new : MemoryFile) : Type 0 where
  pub start : new.start.items ≡ old.start.items
  pub steps : new.steps.items ≡ old.steps.items ++ step ∷ []
  pub moment : step.moment ≡ old.moment
  pub later : old.moment ≤ new.moment

module _ (step : Step) (old new : MemoryFile) (adds : Adds step old new) where
  since_now : (t : ℕ) (image : List ℕ) → IsImageSince new.start.items (reverse new.steps.items) t image
      → IsImage old.start.items (step ∷ reverse old.steps.items) image ⊎ ((t ≤ step.moment) × IsImageSince old.start.items (reverse old.steps.items) t image)
  since_now t image since =
      subst (λ (l : List Step). IsImageSince old.start.items l t image) (reverse-append old.steps.items (step ∷ []))
      (subst (λ (l : List Step). IsImageSince old.start.items (reverse l) t image) adds.steps (subst (λ (s : List ℕ). IsImageSince s (reverse new.steps.items) t image) adds.start since))

  now_since : (t : ℕ) (image : List ℕ) → IsImage old.start.items (step ∷ reverse old.steps.items) image ⊎ ((t ≤ step.moment) × IsImageSince old.start.items (reverse old.steps.items) t image)
      → IsImageSince new.start.items (reverse new.steps.items) t image
  now_since t image since =
      subst (λ (s : List ℕ). IsImageSince s (reverse new.steps.items) t image) (sym adds.start)
      (subst (λ (l : List Step). IsImageSince old.start.items (reverse l) t image) (sym adds.steps)
      (subst (λ (l : List Step). IsImageSince old.start.items l t image) (sym (reverse-append old.steps.items (step ∷ []))) since))

  pub leaves : (P : List ℕ → Type 0) → ((image : List ℕ) → IsImage old.start.items (step ∷ reverse old.steps.items) image → P image) → ((image : List ℕ) → images_of old image → P image)
      → AreEnded old.moment (reverse old.steps.items) → Leaves moment_of images_since_of old new P
  leaves P here before ended = record {
    later = adds.later;
    each = λ image since. ⊎_elim (here image) (λ older. before image (only_now old.start.items (reverse old.steps.items) old.moment image ended older.1)) (since_now old.moment image since.1);
    since = record {
      nothing_else = λ t image le since. ⊎_elim (λ is. inr (adds.later, now_since old.moment image (inl is))) (λ older. inl (le, older.1)) (since_now t image since.1);
      keeps = λ t image le was. (omega (arith, le, adds.later), now_since t image (inr (omega (arith, le, adds.moment), was.1)));
    };
  }

pub wrote : (old new : MemoryFile) (at : ℕ) (v : Vec ℕ Global) (bytes : List ℕ) (count : ℕ) → v.items ≡ bytes → length bytes ≤ count → new.start.items ≡ old.start.items
    → new.steps.items ≡ old.steps.items ++ (record { moment = old.moment; change = Wrote at v }) ∷ [] → new.moment ≡ old.moment → AreEnded old.moment (reverse old.steps.items)
    → OnlyWrites images_of images_since_of moment_of at count old new
wrote old new at v bytes count is fits start steps moment ended = record {
  run = leaves (record { moment = old.moment; change = Wrote at v }) old new (record { start = start; steps = steps; moment = refl; later = omega (arith, moment) })
      (TornFrom at count (images_of old))
      (λ image torn. (torn.0, torn.1, wider at (length v.items) count torn.0 image (subst (λ (l : List ℕ). length l ≤ count) (sym is) fits) torn.2))
      (λ image was. (image, was, torn_same at count image)) ended;
} where
  wider : (at n count : ℕ) (whole image : List ℕ) → n ≤ count → IsTorn at n whole image → IsTorn at count whole image
  wider at n count whole image le torn = record {
    no_shorter = torn.no_shorter;
    no_longer = omega (arith, torn.no_longer, le);
    outside = λ k l out. torn.outside k l (⊎_elim (λ before. inl before) (λ behind. inr (omega (arith, le, behind))) out);
  }

pub synced : (old new : MemoryFile) → new.start.items ≡ old.start.items → new.steps.items ≡ old.steps.items ++ (record { moment = old.moment; change = Synced }) ∷ [] → new.moment ≡ old.moment + 1
    → reads_of new ≡ reads_of old → AreEnded old.moment (reverse old.steps.items) → OnlySyncs reads_of images_of images_since_of moment_of old new
synced old new start steps moment same ended = record {
  same = same;
  run = leaves (record { moment = old.moment; change = Synced }) old new (record { start = start; steps = steps; moment = refl; later = omega (arith, moment) }) (images_of old)
      (λ image is. subst (images_of old) (sym is) (bytes_are_image old.start.items (reverse old.steps.items))) (λ image is. is) ended;
}

-- later moments are behind each sync too
pub ended_later : (now then : ℕ) (steps : List Step) → now ≤ then → AreEnded now steps → AreEnded then steps
ended_later now then [] le ended = tt
ended_later now then (step ∷ steps) le ended = ((λ e. let before = ended.0 e in omega (arith, before, le)), ended_later now then steps le ended.1)

-- ---- as a disk stands on the file

abbrev pub entered_of : MemoryFile → Bool
entered_of file = file.is_entered

module _ (old new : MemoryFile) (start : new.start.items ≡ old.start.items) (steps : new.steps.items ≡ old.steps.items) (same : reads_of new ≡ reads_of old) (entry : IsTrue old.is_entered → IsTrue new.is_entered) where
  pub file_looked : new.moment ≡ old.moment → Looks reads_of images_of images_since_of moment_of entered_of old new
  file_looked within = record { looks = looked old new start steps (omega (arith, within)) old.ended same; stays = record { within = within; entry = entry } }

  pub file_paused : new.moment ≡ old.moment + 1 → Pauses reads_of images_of images_since_of moment_of entered_of old new
  file_paused ended = record { looks = looked old new start steps (omega (arith, ended)) old.ended same; ends = record { ended = ended; entry = entry } }

  pub file_not_synced : new.moment ≡ old.moment + 1 → Syncs reads_of images_of images_since_of moment_of entered_of old new
  file_not_synced ended = record { syncs = not_synced old new start steps (omega (arith, ended)) old.ended same; ends = record { ended = ended; entry = entry } }

  pub file_not_written : new.moment ≡ old.moment → (at count : ℕ) → Writes images_of images_since_of moment_of entered_of at count old new
  file_not_written within at count = record { writes = not_written old new start steps (omega (arith, within)) old.ended at count; stays = record { within = within; entry = entry } }

pub file_synced : (old new : MemoryFile) → new.start.items ≡ old.start.items → new.steps.items ≡ old.steps.items ++ (record { moment = old.moment; change = Synced }) ∷ [] → new.moment ≡ old.moment + 1
    → reads_of new ≡ reads_of old → (IsTrue old.is_entered → IsTrue new.is_entered) → Syncs reads_of images_of images_since_of moment_of entered_of old new
file_synced old new start steps ended same entry = record { syncs = synced old new start steps ended same old.ended; ends = record { ended = ended; entry = entry } }

pub file_wrote : (old new : MemoryFile) (at : ℕ) (v : Vec ℕ Global) (bytes : List ℕ) (count : ℕ) → v.items ≡ bytes → length bytes ≤ count → new.start.items ≡ old.start.items
    → new.steps.items ≡ old.steps.items ++ (record { moment = old.moment; change = Wrote at v }) ∷ [] → new.moment ≡ old.moment → (IsTrue old.is_entered → IsTrue new.is_entered)
    → Writes images_of images_since_of moment_of entered_of at count old new
file_wrote old new at v bytes count is fits start steps within entry = record { writes = wrote old new at v bytes count is fits start steps within old.ended; stays = record { within = within; entry = entry } }

-- ---- what holds of the file behind a sync

module _ (start bytes : List ℕ) (now : ℕ) (steps all : List Step) (is : all ≡ steps ++ (record { moment = now; change = Synced }) ∷ []) where
  newest : reverse all ≡ (record { moment = now; change = Synced }) ∷ reverse steps
  newest = ap reverse is ∙ reverse-append steps ((record { moment = now; change = Synced }) ∷ [])

  pub synced_ended : AreEnded now (reverse steps) → AreEnded (now + 1) (reverse all)
  synced_ended ended = subst (λ (l : List Step). AreEnded (now + 1) l) (sym newest) ((λ e. omega arith), ended_later now (now + 1) (reverse steps) (omega arith) ended)

  pub synced_replayed : bytes ≡ bytes_after start (reverse steps) → bytes ≡ bytes_after start (reverse all)
  synced_replayed replayed = replayed ∙ sym (ap (bytes_after start) newest)

  pub synced_lasting : bytes ≡ bytes_after start (reverse steps) → NothingPending bytes (IsImage start (reverse all))
  synced_lasting replayed image left = (let is_so = subst (λ (l : List Step). IsImage start l image) newest left in is_so ∙ sym replayed)
