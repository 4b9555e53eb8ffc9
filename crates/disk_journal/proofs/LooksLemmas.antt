-- Calls that only look at a disk.
use Rattle.std.proofs.Common.{◌≤◌, ℕ, List, arith}
use Rattle.bench_disk.specs.declared.disk.Disk.{Ghosts}
use Rattle.bench_disk.specs.Disk.{IsHonest, Stays}
use Rattle.bench_disk.specs.Runs.{OnlyLooks, looks_then}
use Rattle.shared_words.specs.Counts.{Rose}
use Rattle.disk_journal.specs.Reads.{OnlyReads}

module _ {D : Type 0} (g : Ghosts D) where
  -- the same call, where its answer is a fault only if that one was
  pub reads_so : (old new : D) (A B : Type 0) → OnlyReads g old new A → (B → A) → OnlyReads g old new B
  reads_so old new A B reads fault = record {
    looks = reads.looks;
    later = reads.later;
    faults = reads.faults;
    cause = λ is. reads.cause (fault is);
  }

module _ {D : Type 0} (g : Ghosts D)
    (now_counts : (disk : D) (t : ℕ) (image : List ℕ) → IsHonest g.TELLS → t ≤ g.moment disk → g.images disk image → g.images_since disk t image) where
  pub reads_stays : (old new : D) (A : Type 0) → OnlyReads g old new A → IsHonest g.TELLS → Stays g.reads g.images old new
  reads_stays old new A reads honest =
      let looks = reads.looks honest in
      record {
        same = looks.same;
        none_added = λ image now. looks.run.each image (now_counts new (g.moment old) image honest looks.run.later now);
        none_lost = looks.stays;
      }

  module _ (earlier_counts : (disk : D) (s t : ℕ) (image : List ℕ) → IsHonest g.TELLS → s ≤ t → g.images_since disk t image → g.images_since disk s image) where
    -- the first call gave an answer, so a fault is the second one's
    pub reads_then : (old mid new : D) (A B C : Type 0) → OnlyReads g old mid A → OnlyReads g mid new B → (C → B) → OnlyReads g old new C
    reads_then old mid new A B C first second later_fault = record {
      looks = λ honest. looks_then g.reads g.images g.images_since g.moment (λ disk t image. now_counts disk t image honest)
          (λ disk s t image. earlier_counts disk s t image honest) old mid new (first.looks honest) (second.looks honest);
      later = omega (arith, first.later, second.later);
      faults = omega (arith, first.faults, second.faults);
      cause = λ is. omega (arith, first.faults, second.cause (later_fault is));
    }
