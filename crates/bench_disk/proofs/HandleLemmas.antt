-- Calls of a file within one moment, one behind another.
use Rattle.std.specs.Prelude.{◌≡◌, refl, ℕ, ◌+◌, ◌≤◌, List, Bool}
use Rattle.std.proofs.Common.{sym, ◌∙◌, ap, subst, arith}
use Rattle.bench_disk.specs.Disk.{GoesOn}
use Rattle.bench_disk.specs.Handle.{Looks, StaysIn, Writes}
use Rattle.bench_disk.specs.Runs.{OnlyLooks, OnlyWrites, TornFrom, leaves_none, leaves_then, leaves_weaker, looks_then, writes_then}
use Rattle.bench_disk.specs.Torn.{torn_same}

stays_then : {F : Type 0} (moment : F → ℕ) (is_entered : F → Bool) (old mid new : F) → StaysIn moment is_entered old mid → StaysIn moment is_entered mid new → StaysIn moment is_entered old new
stays_then moment is_entered old mid new first second = record { within = second.within ∙ first.within; entry = λ was. second.entry (first.entry was) }

module _ {F : Type 0} (reads : F → List ℕ) (images : F → List ℕ → Type 0) (images_since : F → ℕ → List ℕ → Type 0) (moment : F → ℕ) (is_entered : F → Bool)
    (now_counts : (file : F) (t : ℕ) (image : List ℕ) → t ≤ moment file → images file image → images_since file t image)
    (earlier_counts : (file : F) (s t : ℕ) (image : List ℕ) → s ≤ t → images_since file t image → images_since file s image) where
  pub looks_more : (old mid new : F) → Looks reads images images_since moment is_entered old mid → Looks reads images images_since moment is_entered mid new → Looks reads images images_since moment is_entered old new
  looks_more old mid new first second = record {
    looks = looks_then reads images images_since moment now_counts earlier_counts old mid new first.looks second.looks;
    stays = stays_then moment is_entered old mid new first.stays second.stays;
  }

  pub writes_more : (at count from n : ℕ) (old mid new : F) → at ≤ from → from + n ≤ at + count → Writes images images_since moment is_entered at count old mid → Writes images images_since moment is_entered from n mid new
      → Writes images images_since moment is_entered at count old new
  writes_more at count from n old mid new low high first second = record {
    writes = writes_then reads images images_since moment now_counts earlier_counts at count from n old mid new low high first.writes second.writes;
    stays = stays_then moment is_entered old mid new first.stays second.stays;
  }

-- no call
pub writes_none : {F : Type 0} (images : F → List ℕ → Type 0) (images_since : F → ℕ → List ℕ → Type 0) (moment : F → ℕ) (is_entered : F → Bool)
    → ((file : F) (image : List ℕ) → images_since file (moment file) image → images file image) → (at count : ℕ) (file : F) → Writes images images_since moment is_entered at count file file
writes_none images images_since moment is_entered only_now at count file = record {
  writes = record { run = leaves_none moment images_since file (TornFrom at count (images file)) (λ image since. (image, only_now file image since, torn_same at count image)) };
  stays = record { within = refl; entry = λ was. was };
}

-- writes of a file, and then the end of the moment
pub wrote_and_paused : {F : Type 0} (reads : F → List ℕ) (images : F → List ℕ → Type 0) (images_since : F → ℕ → List ℕ → Type 0) (moment : F → ℕ)
    → ((file : F) (t : ℕ) (image : List ℕ) → t ≤ moment file → images file image → images_since file t image)
    → ((file : F) (s t : ℕ) (image : List ℕ) → s ≤ t → images_since file t image → images_since file s image)
    → (at count : ℕ) (old mid new : F) → OnlyWrites images images_since moment at count old mid → OnlyLooks reads images images_since moment mid new → OnlyWrites images images_since moment at count old new
wrote_and_paused reads images images_since moment now_counts earlier_counts at count old mid new first second = record {
  run = leaves_then moment images_since earlier_counts old mid new (TornFrom at count (images old)) first.run
      (leaves_weaker moment images_since mid new (images mid) (TornFrom at count (images old)) (λ image now. first.run.each image (now_counts mid (moment old) image first.run.later now)) second.run);
}

-- A disk over a file writes what the file does.
pub writes_of : {D F : Type 0} (old new : D) (file : D → F) (clock : D → ℕ) (images : F → List ℕ → Type 0) (images_since : F → ℕ → List ℕ → Type 0) (moment : F → ℕ) (at count : ℕ) (before behind : F)
    → before ≡ file old → behind ≡ file new → moment before ≡ clock old → moment behind ≡ clock new → OnlyWrites images images_since moment at count before behind
    → OnlyWrites (λ disk. images (file disk)) (λ disk. images_since (file disk)) clock at count old new
writes_of old new file clock images images_since moment at count before behind p q start end writes =
    let run = (subst (λ f. OnlyWrites images images_since moment at count f (file new)) p (subst (λ f. OnlyWrites images images_since moment at count before f) q writes)).run in
    let began : moment (file old) ≡ clock old = sym (ap moment p) ∙ start in
    let ended : moment (file new) ≡ clock new = sym (ap moment q) ∙ end in
    record {
      run = record {
        later = omega (arith, began, ended, run.later);
        each = λ image since. run.each image (subst (λ t. images_since (file new) t image) (sym began) since);
        since = subst (λ t. GoesOn t (images_since (file old)) (images_since (file new))) began run.since;
      };
    }
