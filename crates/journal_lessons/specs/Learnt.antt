-- What a journal has come to by learning a certificate, what a crash leaves of it, and why a
-- certificate is not learnt. Tables are of the number of pieces that the certificate names.
use Rattle.std.specs.Prelude.{◌≡◌, ◌⊎◌, ℕ, Bool, false, List, ◌++◌}
use Rattle.std.specs.Bool.{OnFalse}
use Rattle.bench_disk.specs.declared.disk.Disk.{Ghosts}
use Rattle.bench_disk.specs.Disk.{NothingPending, Stays}
use Rattle.shared_words.specs.Counts.{Rose}
use Rattle.disk_journal.specs.Refusals.{Explains, says_nothing_of_file}
use Rattle.strategy_certificate.specs.declared.certificates.Certificate.{Certificate}
use Rattle.proof_tree.specs.Forest.{Forest}
use Rattle.bench_records.specs.declared.records.BenchRecord.{BenchRecord}
use Rattle.bench_core.specs.Growing.{IsForestOf}
use Rattle.tree_manager.specs.Receipts.{ReadsRecords}
use Rattle.tree_manager.specs.Replaying.{ExplainsReplay}
use Rattle.journal_lessons.specs.declared.refusals.LearnRefusal.{LearnRefusal}
use Rattle.journal_lessons.specs.declared.refusals.LearnRefusal.TheVariants as refusal
use Rattle.journal_lessons.specs.declared.lessons.Lesson.{Lesson}
use Rattle.journal_lessons.specs.declared.lessons.Lesson.TheVariants.{RootExpanded, TooManyRoots}
use Rattle.journal_lessons.specs.Lessons.{AreAdded, lesson_of}
use Rattle.journal_lessons.specs.Laws.{IsCoveredAt}

-- The file read as records, and reads as these and then those that the lesson adds. The nth root
-- of their forest has the certificate's position, and is settled or has all facts of its claim.
pub record IsLearnt (file file' : List ℕ) (c : Certificate) (n : ℕ) : Type 0 where
  pub before : List BenchRecord
  pub added : List BenchRecord
  pub read_then : ReadsRecords c.pieces file before
  pub then : Forest
  pub forest : IsForestOf c.pieces before then
  pub lesson : AreAdded c (lesson_of c.pieces then c) added
  pub reads_now : ReadsRecords c.pieces file' (before ++ added)
  pub now : Forest
  pub grown : IsForestOf c.pieces (before ++ added) now
  pub covered : IsCoveredAt n now c

-- ---- whatever comes of it

-- The image reads as the records of before, or as these with all that the lesson adds.
pub record ReadsWhole (c : Certificate) (before : List BenchRecord) (image : List ℕ) : Type 0 where
  pub roots : Forest
  pub forest : IsForestOf c.pieces before roots
  pub reads : ReadsRecords c.pieces image before
      ⊎ ((added : List BenchRecord) × (AreAdded c (lesson_of c.pieces roots c) added
      × ReadsRecords c.pieces image (before ++ added)))

-- of the disk at entry, and of the disk that is handed back
module _ {D : Type 0} (g : Ghosts D) where
  -- A crash since the entry, or one straight behind the call, may leave this image.
  abbrev pub MayBeLeft : D → D → List ℕ → Type 0
  MayBeLeft old new image = g.images_since new (g.moment old) image ⊎ g.images new image

  -- Each such image reads as the records of before, or as these with all that is learnt: never as a
  -- part of it. A disk that read as no such journal stays. Nothing is pending, unless faults rose.
  pub record KeepsWhole (c : Certificate) (old new : D) : Type 0 where
    pub recovers : (before : List BenchRecord) → ReadsRecords c.pieces (g.reads old) before
        → (image : List ℕ) → MayBeLeft old new image → ReadsWhole c before image
    pub unread : ((before : List BenchRecord) → ¬ ReadsRecords c.pieces (g.reads old) before)
        → Stays g.reads g.images old new
    pub settled : NothingPending (g.reads new) (g.images new) ⊎ Rose (g.faults old) (g.faults new)

-- ---- refusals

-- the lesson is this refusal
abbrev pub RefusesLesson : Lesson → LearnRefusal → Type 0
RefusesLesson lesson (refusal.Journal cause) = ⊥
RefusesLesson lesson (refusal.RootExpanded n) = lesson ≡ RootExpanded n
RefusesLesson lesson refusal.TooManyRoots = lesson ≡ TooManyRoots

-- The file reads as records, and the lesson on them is this refusal.
pub record IsRefusedLesson (file : List ℕ) (c : Certificate) (cause : LearnRefusal) : Type 0 where
  pub before : List BenchRecord
  pub read : ReadsRecords c.pieces file before
  pub roots : Forest
  pub forest : IsForestOf c.pieces before roots
  pub refused : RefusesLesson (lesson_of c.pieces roots c) cause

-- the refusal says nothing of the file: the disk failed, or memory ran out
abbrev pub says_nothing : LearnRefusal → Bool
says_nothing (refusal.Journal cause) = says_nothing_of_file cause
says_nothing (refusal.RootExpanded n) = false
says_nothing refusal.TooManyRoots = false

-- a cause for which the certificate is not learnt: the file is not read as records for its table,
-- or the lesson is a refusal
abbrev pub HasNoLesson : List ℕ → Certificate → LearnRefusal → Type 0
HasNoLesson file c (refusal.Journal cause) =
    Explains file c.pieces cause ⊎ ExplainsReplay file c.pieces cause
HasNoLesson file c (refusal.RootExpanded n) = IsRefusedLesson file c (refusal.RootExpanded n)
HasNoLesson file c refusal.TooManyRoots = IsRefusedLesson file c refusal.TooManyRoots

-- why it is not learnt, unless the refusal says nothing of the file
abbrev pub ExplainsNoLesson : List ℕ → Certificate → LearnRefusal → Type 0
ExplainsNoLesson file c cause = OnFalse (says_nothing cause) (HasNoLesson file c cause)
