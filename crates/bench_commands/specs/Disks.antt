-- Three words by command say all that a command is to its disk: what it leaves of it, what its
-- output shows of it, and why it is refused for it. A new command has a case in each.
use Rattle.std.specs.Prelude.{◌≡◌, ◌⊎◌, ℕ, Bool, List, Option, IfSome}
use Rattle.bench_disk.specs.declared.disk.Disk.{Ghosts}
use Rattle.bench_disk.specs.Disk.{IsHonest, NothingPending, Stays}
use Rattle.shared_words.specs.Counts.{Rose}
use Rattle.draughts_board.specs.Board.{Board}
use Rattle.bench_edges.specs.declared.words.Command.{Command}
use Rattle.bench_edges.specs.declared.words.Command.TheVariants.{Solve, Report, Certify, Verify, Learn, MakeTable, TableCheck, Generate}
use Rattle.bench_edges.specs.declared.words.Options.{Options}
use Rattle.capture_positions.specs.Walk.{openings_from}
use Rattle.certificate_text.specs.Text.{ReadsAs}
use Rattle.disk_journal.specs.declared.refusal.JournalRefusal.TheVariants as journal
use Rattle.pdn_openings.specs.declared.opening.Opening.{Opening}
use Rattle.strategy_certificate.specs.Certificates.{IsGood}
use Rattle.strategy_certificate.specs.declared.certificates.Certificate.{Certificate}
use Rattle.opening_report.specs.Findings.{learnt_text}
use Rattle.opening_report.specs.Report.{forest_roots, report_of, summary_line}
use Rattle.opening_report.specs.declared.refusals.Refusal.{Refusal}
use Rattle.journal_lessons.specs.Conversions.{of_lesson}
use Rattle.journal_lessons.specs.Learnt.{ExplainsNoLesson, IsLearnt, KeepsWhole}
use Rattle.journal_lessons.specs.declared.refusals.LearnRefusal.{LearnRefusal}
use Rattle.journal_lessons.specs.declared.refusals.LearnRefusal.TheVariants as lesson
use Rattle.journal_looks.specs.Conversions.{of_look}
use Rattle.journal_looks.specs.Looks.{Shows, Certifies, ExplainsNoReport, ExplainsNoCertificate}
use Rattle.journal_looks.specs.declared.refusals.LookRefusal.{LookRefusal}
use Rattle.journal_looks.specs.declared.refusals.LookRefusal.TheVariants as look
use Rattle.journal_runs.specs.Conversions.{of_run}
use Rattle.journal_runs.specs.Journals.{LeavesJournal, Resumes, IsCaused}
use Rattle.journal_runs.specs.declared.refusals.RunRefusal.{RunRefusal}
use Rattle.journal_runs.specs.declared.refusals.RunRefusal.TheVariants as run
use Rattle.bench_commands.specs.Solving.{OpeningsOf, roots_of_openings}
use Rattle.bench_commands.specs.declared.commands.generate.TheConstants.{GENERATE_DEPTH, GENERATE_LEASE, GENERATE_PIECES}

-- ---- of the disk at entry, and of the disk that is handed back

module _ {D : Type 0} (g : Ghosts D) where
  -- A run that makes no call of the disk leaves it as it was. One that learns a good certificate, of
  -- which the source is the text, and begins with nothing pending, keeps the journal whole.
  abbrev pub LeavesLearnt : Option (List ℕ) → D → D → Type 0
  LeavesLearnt source old new =
      (new ≡ old)
      ⊎ ((c : Certificate) × (IsGood c × (IfSome source (λ told. ReadsAs told c)
      × (IsHonest g.TELLS → NothingPending (g.reads old) (g.images old) → KeepsWhole g c old new))))

  -- What is left of the disk, however the run ends, where the source tells this. A run that searches
  -- or learns keeps the journal, a look at it leaves it, and the others make no call of the disk.
  abbrev pub LeavesDisk : Command → Option (List ℕ) → D → D → Type 0
  LeavesDisk (Solve options) source old new = LeavesJournal g options.pieces old new
  LeavesDisk Report source old new = IsHonest g.TELLS → Stays g.reads g.images old new
  LeavesDisk (Certify root) source old new = IsHonest g.TELLS → Stays g.reads g.images old new
  LeavesDisk Verify source old new = new ≡ old
  LeavesDisk Learn source old new = LeavesLearnt source old new
  LeavesDisk (MakeTable pieces) source old new = new ≡ old
  LeavesDisk TableCheck source old new = new ≡ old
  LeavesDisk (Generate seed count) source old new = LeavesJournal g GENERATE_PIECES old new

  -- The run went on from what the disk read as, with the source's openings.
  pub record HasResumed (options : Options) (source : List ℕ) (old new : D) (text : List ℕ)
      (settled : Bool) : Type 0 where
    pub openings : List Opening
    pub read : OpeningsOf options.plies source openings
    pub resumed : IsHonest g.TELLS →
        Resumes g (λ roots. report_of (forest_roots roots))
        options.pieces options.depth options.budget options.lease (roots_of_openings openings)
        old new text settled

  -- the text is that of the certificate of a root that the disk reads as
  abbrev pub HasCertified : ℕ → D → List ℕ → Type 0
  HasCertified root old text =
      IsHonest g.TELLS → (c : Certificate) × (ReadsAs text c × Certifies (g.reads old) root c)

  -- The journal has learnt the certificate, on the root that the line names.
  pub record HasLearnt (c : Certificate) (old new : D) (text : List ℕ) : Type 0 where
    pub number : ℕ
    pub text_is : text ≡ learnt_text number c.position c.claim
    pub learnt : IsHonest g.TELLS → IsLearnt (g.reads old) (g.reads new) c number

  -- what a run that comes to its output shows of the disk
  abbrev pub ShowsDisk : Command → List ℕ → D → D → List ℕ → Bool → Type 0
  ShowsDisk (Solve options) source old new text settled =
      HasResumed options source old new text settled
  ShowsDisk Report source old new text settled =
      IsHonest g.TELLS → Shows (g.reads old) text settled
  ShowsDisk (Certify root) source old new text settled = HasCertified root old text
  ShowsDisk Verify source old new text settled = Unit {0}
  ShowsDisk Learn source old new text settled =
      (c : Certificate) × (ReadsAs source c × HasLearnt c old new text)
  ShowsDisk (MakeTable pieces) source old new text settled = Unit {0}
  ShowsDisk TableCheck source old new text settled = Unit {0}
  ShowsDisk (Generate seed count) source old new text settled =
      IsHonest g.TELLS →
      Resumes g (λ roots. summary_line (forest_roots roots))
      GENERATE_PIECES GENERATE_DEPTH count GENERATE_LEASE (openings_from seed count) old new text
      settled

  -- A run with these positions is refused: the faults of the disk rose, its bytes are no such
  -- journal, there would be too many roots, or memory ran out.
  pub record IsRefusedRun (pieces : ℕ) (positions : List Board) (old new : D) (r : Refusal)
      : Type 0 where
    pub fault : RunRefusal
    pub is : r ≡ of_run fault
    pub disk : fault ≡ run.Journal journal.DiskFault → Rose (g.faults old) (g.faults new)
    pub caused : IsHonest g.TELLS → IsCaused pieces positions (g.reads old) fault

  -- A look at the disk is refused: its faults rose, or what it reads as explains it so.
  pub record IsLookFault (Explains : List ℕ → LookRefusal → Type 0) (old new : D) (r : Refusal)
      : Type 0 where
    pub fault : LookRefusal
    pub is : r ≡ of_look fault
    pub disk : fault ≡ look.Journal journal.DiskFault → Rose (g.faults old) (g.faults new)
    pub explained : IsHonest g.TELLS → Explains (g.reads old) fault

  -- The certificate is not learnt: the faults of the disk rose, or what it reads as explains it so.
  pub record IsLessonFault (c : Certificate) (old new : D) (r : Refusal) : Type 0 where
    pub fault : LearnRefusal
    pub is : r ≡ of_lesson fault
    pub disk : fault ≡ lesson.Journal journal.DiskFault → Rose (g.faults old) (g.faults new)
    pub explained : IsHonest g.TELLS → ExplainsNoLesson (g.reads old) c fault

  -- why the disk refuses the command
  abbrev pub HasDiskFault : Command → List ℕ → D → D → Refusal → Type 0
  HasDiskFault (Solve options) source old new r =
      (openings : List Opening) × (OpeningsOf options.plies source openings
      × IsRefusedRun options.pieces (roots_of_openings openings) old new r)
  HasDiskFault Report source old new r = IsLookFault ExplainsNoReport old new r
  HasDiskFault (Certify root) source old new r =
      IsLookFault (λ file fault. ExplainsNoCertificate file root fault) old new r
  HasDiskFault Verify source old new r = ⊥
  HasDiskFault Learn source old new r =
      (c : Certificate) × (ReadsAs source c × (IsGood c × IsLessonFault c old new r))
  HasDiskFault (MakeTable pieces) source old new r = ⊥
  HasDiskFault TableCheck source old new r = ⊥
  HasDiskFault (Generate seed count) source old new r =
      IsRefusedRun GENERATE_PIECES (openings_from seed count) old new r
