-- What is not refused as bad input or as no journal, and what is refused for what the disk reads as.
use Rattle.std.specs.Prelude.{◌≡◌, ◌≢◌, ℕ, ◌≤◌, List, length, Option, IfSome}
use Rattle.bench_disk.specs.declared.disk.Disk.{Ghosts}
use Rattle.draughts_board.specs.Board.{Board}
use Rattle.bench_edges.specs.declared.status.Status.{Status}
use Rattle.bench_edges.specs.declared.status.Status.TheVariants.{Done, Unsolved, Words, Input, Disk, Journal, Memory, Read, Write}
use Rattle.bench_edges.specs.declared.words.Command.{Command}
use Rattle.bench_edges.specs.declared.words.Command.TheVariants.{Solve, Report, Certify, Verify, Learn, MakeTable, TableCheck, Generate}
use Rattle.bench_disk.specs.Disk.{IsHonest}
use Rattle.bench_core.specs.Records.{begun}
use Rattle.bench_records.specs.declared.records.BenchRecord.{BenchRecord}
use Rattle.capture_positions.specs.Walk.{openings_from}
use Rattle.certificate_text.specs.Text.{ReadsAs}
use Rattle.endgame_table.specs.Bytes.{bytes_of}
use Rattle.endgame_table.specs.Entries.{IsTable}
use Rattle.journal_lessons.specs.Learnt.{HasNoLesson}
use Rattle.journal_lessons.specs.declared.refusals.LearnRefusal.{LearnRefusal}
use Rattle.journal_looks.specs.Looks.{HasNoCertificate, HasNoReport, HasSettledRoot}
use Rattle.journal_looks.specs.declared.refusals.LookRefusal.{LookRefusal}
use Rattle.journal_runs.specs.Ample.{IsAmple, IsRoomForEach}
use Rattle.opening_report.specs.declared.refusals.Refusal.{Refusal}
use Rattle.pdn_openings.specs.declared.opening.Opening.{Opening}
use Rattle.strategy_certificate.specs.Certificates.{IsGood}
use Rattle.strategy_certificate.specs.declared.certificates.Certificate.{Certificate}
use Rattle.tree_manager.specs.Receipts.{ReadsRecords}
use Rattle.tree_manager.specs.Sessions.{with_roots}
use Rattle.opening_report.specs.Refusals.{refusal_text}
use Rattle.program_edges.specs.Answers.{TakesLine}
use Rattle.program_edges.specs.Statuses.{status_of}
use Rattle.bench_commands.specs.Commands.{source_limit}
use Rattle.bench_commands.specs.Solving.{OpeningsOf, roots_of_openings}
use Rattle.bench_commands.specs.declared.commands.generate.TheConstants.{GENERATE_PIECES}
use Rattle.proof_tree.specs.declared.tree.TheConstants.{MOST_ROOTS}

-- the bytes are good for the command: openings can be read of them, or a good certificate, or a
-- sound table; none are for a command that reads none
abbrev pub IsGoodFor : Command → List ℕ → Type 0
IsGoodFor (Solve options) bytes =
    (openings : List Opening) × OpeningsOf options.plies bytes openings
IsGoodFor Report bytes = ⊥
IsGoodFor (Certify root) bytes = ⊥
IsGoodFor Verify bytes = (c : Certificate) × (IsGood c × ReadsAs bytes c)
IsGoodFor Learn bytes = (c : Certificate) × (IsGood c × ReadsAs bytes c)
IsGoodFor (MakeTable pieces) bytes = ⊥
IsGoodFor TableCheck bytes =
    (k : ℕ) × ((numbers : List ℕ) × (IsTable k numbers × (bytes ≡ bytes_of k numbers)))
IsGoodFor (Generate seed count) bytes = ⊥

-- neither bad input nor no journal
abbrev pub IsUnrefused : Status → Type 0
IsUnrefused status = (status ≢ Input) × (status ≢ Journal)

-- The disk reads as a journal for the table, which has room for the roots.
pub record HasRoom {D : Type 0} (g : Ghosts D) (pieces : ℕ)
    (positions : List Board) (disk : D) : Type 0 where
  pub honest : IsHonest g.TELLS
  pub records : List BenchRecord
  pub read : ReadsRecords pieces (g.reads disk) records
  pub room : length (with_roots (begun records) positions) ≤ MOST_ROOTS

-- The disk reads as a journal for the table, and the budget is ample for the roots that it has and
-- those that these positions begin.
pub record HasAmpleBudget {D : Type 0} (g : Ghosts D)
    (pieces depth budget : ℕ) (positions : List Board) (disk : D) : Type 0 where
  pub honest : IsHonest g.TELLS
  pub records : List BenchRecord
  pub read : ReadsRecords pieces (g.reads disk) records
  pub ample : IsAmple pieces depth budget positions records

-- The disk reads as a journal for the table, and of the roots that it has and those that these positions
-- begin there is room to search each that has no value.
pub record HasRoomToSearch {D : Type 0} (g : Ghosts D)
    (pieces budget lease : ℕ) (positions : List Board) (disk : D) : Type 0 where
  pub honest : IsHonest g.TELLS
  pub records : List BenchRecord
  pub read : ReadsRecords pieces (g.reads disk) records
  pub room : IsRoomForEach pieces budget lease positions records

-- The disk reads as a journal for the certificate's table, which may learn it.
pub record MayLearn {D : Type 0} (g : Ghosts D) (c : Certificate) (disk : D) : Type 0 where
  pub honest : IsHonest g.TELLS
  pub records : List BenchRecord
  pub read : ReadsRecords c.pieces (g.reads disk) records
  pub none : (cause : LearnRefusal) → ¬ HasNoLesson (g.reads disk) c cause

-- The journal has room for the roots of the source's openings, or may learn the source's certificate.
-- No other command reads a root of its source.
abbrev pub HasRoomFor : {D : Type 0} → Ghosts D → Command → List ℕ → D → Type 0
HasRoomFor g (Solve options) bytes disk =
    (openings : List Opening) → OpeningsOf options.plies bytes openings
    → HasRoom g options.pieces (roots_of_openings openings) disk
HasRoomFor g Report bytes disk = Unit {0}
HasRoomFor g (Certify root) bytes disk = Unit {0}
HasRoomFor g Verify bytes disk = Unit {0}
HasRoomFor g Learn bytes disk = (c : Certificate) → ReadsAs bytes c → MayLearn g c disk
HasRoomFor g (MakeTable pieces) bytes disk = Unit {0}
HasRoomFor g TableCheck bytes disk = Unit {0}
HasRoomFor g (Generate seed count) bytes disk = Unit {0}

-- A source of the right length that is good for the command, and a journal that has room for it, are
-- not refused.
abbrev pub Accepts : {D : Type 0} → Ghosts D → Command → Option (List ℕ) → D → Status
    → Type 0
Accepts g command source disk status =
    IfSome source (λ told. IsGoodFor command told
    → IfSome (source_limit command) (λ limit. length told ≤ limit)
    → HasRoomFor g command told disk → IsUnrefused status)

-- ---- what is asked of the disk

-- For a command that reads no source the disk has what it asks of it: a journal to report, a root
-- with a value to certify, or room for the openings that a seed gives. A table asks nothing.
abbrev pub HasAsked : {D : Type 0} → Ghosts D → Command → D → Type 0
HasAsked g (Solve options) disk = ⊥
HasAsked g Report disk =
    IsHonest g.TELLS × ((pieces : ℕ) × ((records : List BenchRecord)
    × ReadsRecords pieces (g.reads disk) records))
HasAsked g (Certify root) disk = IsHonest g.TELLS × HasSettledRoot (g.reads disk) root
HasAsked g Verify disk = ⊥
HasAsked g Learn disk = ⊥
HasAsked g (MakeTable pieces) disk = Unit {0}
HasAsked g TableCheck disk = ⊥
HasAsked g (Generate seed count) disk =
    HasRoom g GENERATE_PIECES (openings_from seed count) disk

-- a cause for which a look at a disk that reads as this file is refused
abbrev pub HasLookCause : Command → List ℕ → LookRefusal → Type 0
HasLookCause (Solve options) file cause = ⊥
HasLookCause Report file cause = HasNoReport file cause
HasLookCause (Certify root) file cause = HasNoCertificate file root cause
HasLookCause Verify file cause = ⊥
HasLookCause Learn file cause = ⊥
HasLookCause (MakeTable pieces) file cause = ⊥
HasLookCause TableCheck file cause = ⊥
HasLookCause (Generate seed count) file cause = ⊥

-- a cause for which a disk that reads as this file learns no good certificate of which these bytes are
-- the text; every other command learns none
abbrev pub HasLessonCause : Command → List ℕ → List ℕ → LearnRefusal → Type 0
HasLessonCause (Solve options) bytes file cause = ⊥
HasLessonCause Report bytes file cause = ⊥
HasLessonCause (Certify root) bytes file cause = ⊥
HasLessonCause Verify bytes file cause = ⊥
HasLessonCause Learn bytes file cause =
    (c : Certificate) × (IsGood c × (ReadsAs bytes c × HasNoLesson file c cause))
HasLessonCause (MakeTable pieces) bytes file cause = ⊥
HasLessonCause TableCheck bytes file cause = ⊥
HasLessonCause (Generate seed count) bytes file cause = ⊥

-- Of a source of the right length, each cause for which a disk that reads as this file does not learn it
-- has P.
abbrev pub Teaches : Command → Option (List ℕ) → List ℕ → (LearnRefusal → Type 0) → Type 0
Teaches command source file P =
    IfSome source (λ told. IfSome (source_limit command) (λ limit. length told ≤ limit)
    → (cause : LearnRefusal) → HasLessonCause command told file cause → P cause)

-- The run is refused so: its status is that of the refusal, and the sink took its line.
abbrev pub IsRefusedAs : Refusal → Option (List ℕ) → Option (List ℕ) → ℕ → ℕ → Status → Type 0
IsRefusedAs r before after faults_before faults_after status =
    (status_of r ≡ status) × TakesLine (refusal_text r) before after faults_before faults_after

-- .. or else the disk failed, or memory ran out
abbrev pub IsRefusedFor : Refusal → Option (List ℕ) → Option (List ℕ) → ℕ → ℕ → Status → Type 0
IsRefusedFor r before after faults_before faults_after Done =
    IsRefusedAs r before after faults_before faults_after Done
IsRefusedFor r before after faults_before faults_after Unsolved =
    IsRefusedAs r before after faults_before faults_after Unsolved
IsRefusedFor r before after faults_before faults_after Words =
    IsRefusedAs r before after faults_before faults_after Words
IsRefusedFor r before after faults_before faults_after Input =
    IsRefusedAs r before after faults_before faults_after Input
IsRefusedFor r before after faults_before faults_after Disk = Unit {0}
IsRefusedFor r before after faults_before faults_after Journal =
    IsRefusedAs r before after faults_before faults_after Journal
IsRefusedFor r before after faults_before faults_after Memory = Unit {0}
IsRefusedFor r before after faults_before faults_after Read =
    IsRefusedAs r before after faults_before faults_after Read
IsRefusedFor r before after faults_before faults_after Write =
    IsRefusedAs r before after faults_before faults_after Write
