-- The steps of a run, which the private functions answer for.
use Rattle.std.specs.Prelude.{◌≡◌, ℕ, ◌⊎◌, Bool, true, false, List, ◌++◌, Some, Result, Err, IfErr, IfOk}
use Rattle.bench_disk.specs.declared.disk.Disk.{Ghosts}
use Rattle.shared_words.specs.Answers.{Unless}
use Rattle.bench_disk.specs.Disk.{IsHonest}
use Rattle.draughts_board.specs.Board.{Board}
use Rattle.bench_edges.specs.declared.words.Command.{Command}
use Rattle.strategy_certificate.specs.declared.certificates.Certificate.{Certificate}
use Rattle.journal_lessons.specs.Conversions.{of_lesson}
use Rattle.journal_lessons.specs.Learnt.{HasNoLesson}
use Rattle.journal_lessons.specs.declared.refusals.LearnRefusal.{LearnRefusal}
use Rattle.journal_looks.specs.Conversions.{of_look}
use Rattle.journal_looks.specs.declared.refusals.LookRefusal.{LookRefusal}
use Rattle.pdn_openings.specs.declared.opening.Opening.{Opening}
use Rattle.opening_report.specs.Lines.{IsLine}
use Rattle.program_edges.specs.Statuses.{status_of}
use Rattle.opening_report.specs.Refusals.{refusal_text}
use Rattle.opening_report.specs.Report.{ValuesAreTrue}
use Rattle.opening_report.specs.declared.refusals.Refusal.{Refusal}
use Rattle.opening_report.specs.declared.refusals.Refusal.TheVariants as refusal
use Rattle.bench_commands.specs.Accepted.{IsGoodFor, HasAsked, HasLessonCause, HasLookCause, HasRoomFor, IsUnrefused}
use Rattle.bench_commands.specs.Bench.{ComesBeforeDisk}
use Rattle.bench_commands.specs.Commands.{Answers, HasFault}
use Rattle.bench_commands.specs.Disks.{IsLessonFault, LeavesDisk, ShowsDisk, HasDiskFault}
use Rattle.bench_commands.specs.Solving.{OpeningsOf, roots_of_openings}
use Rattle.opening_report.specs.declared.written.Written.{Written}

-- the refusal's text is one line
abbrev pub IsLineOf : Refusal → Type 0
IsLineOf r = IsLine (refusal_text r)

-- the text has true values alone, and so has each front of it
abbrev pub SaysTrue : List ℕ → Type 0
SaysTrue text = (front back : List ℕ) → text ≡ front ++ back → ValuesAreTrue front

-- a command refuses these bytes: a fault of theirs stands, or memory ran out
abbrev pub IsAnswerFault : Command → List ℕ → Refusal → Type 0
IsAnswerFault command bytes r = (r ≡ refusal.Memory) ⊎ HasFault command bytes r

-- good bytes are refused for want of memory alone
abbrev pub IsAnswerFaultOnly : Command → List ℕ → Refusal → Type 0
IsAnswerFaultOnly command bytes r = IsGoodFor command bytes → r ≡ refusal.Memory

-- the distinct positions of the openings of the text
pub record AreRootsIn (plies : ℕ) (text : List ℕ) (positions : List Board) : Type 0 where
  pub openings : List Opening
  pub read : OpeningsOf plies text openings
  pub all : positions ≡ roots_of_openings openings

-- of the disk at entry, and of the disk that is handed back
module _ {D : Type 0} (g : Ghosts D) where
  -- the text answers these bytes, and shows what is on the disk
  pub record AnswersBytes (command : Command) (bytes : List ℕ) (old new : D) (text : List ℕ)
      (settled : Bool) : Type 0 where
    pub answers : Answers command bytes text settled
    pub shows : ShowsDisk g
        command bytes old new text settled

  -- a fault of these bytes stands, the disk refuses, or memory ran out
  abbrev pub RefusesBytes : Command → List ℕ → D → D → Refusal → Type 0
  RefusesBytes command bytes old new r =
      IsAnswerFault command bytes r
      ⊎ HasDiskFault g command bytes old new r

-- good bytes, and a journal that has room for them, are not refused
abbrev pub AcceptsBytes : {D : Type 0} → Ghosts D → Command → List ℕ → D → Refusal
    → Type 0
AcceptsBytes g command bytes disk r =
    IsGoodFor command bytes → HasRoomFor g command bytes disk
    → IsUnrefused (status_of r)

-- ---- a look at the disk

-- the refusal says nothing of what the disk reads as: the disk failed, or memory ran out
abbrev pub says_nothing_of_bytes : Refusal → Bool
says_nothing_of_bytes (refusal.Words at) = false
says_nothing_of_bytes refusal.TooLong = false
says_nothing_of_bytes (refusal.PdnBadByte at) = false
says_nothing_of_bytes (refusal.PdnOpenTag at) = false
says_nothing_of_bytes (refusal.PdnOpenComment at) = false
says_nothing_of_bytes (refusal.PdnOpenVariation at) = false
says_nothing_of_bytes (refusal.PdnBadMove at) = false
says_nothing_of_bytes refusal.PdnTooManyGames = false
says_nothing_of_bytes (refusal.OtherGame game) = false
says_nothing_of_bytes (refusal.Fen game fault) = false
says_nothing_of_bytes (refusal.Illegal game ply at) = false
says_nothing_of_bytes (refusal.Ambiguous game ply at) = false
says_nothing_of_bytes (refusal.TextBadLine n) = false
says_nothing_of_bytes (refusal.TextBadFen n) = false
says_nothing_of_bytes (refusal.TextDoubled n) = false
says_nothing_of_bytes (refusal.TextAfterEnd n) = false
says_nothing_of_bytes refusal.TextTruncated = false
says_nothing_of_bytes refusal.ClaimNotMet = false
says_nothing_of_bytes (refusal.BadRank part entry) = false
says_nothing_of_bytes (refusal.BadMove part entry) = false
says_nothing_of_bytes (refusal.Missing part entry) = false
says_nothing_of_bytes (refusal.StuckHolder part entry) = false
says_nothing_of_bytes (refusal.CheckNoRoot part) = false
says_nothing_of_bytes refusal.TableBadHead = false
says_nothing_of_bytes (refusal.TableWrongLength found due) = false
says_nothing_of_bytes (refusal.TableBadEntry index kept) = false
says_nothing_of_bytes refusal.TooManyRoots = false
says_nothing_of_bytes (refusal.NoRoot n) = false
says_nothing_of_bytes (refusal.UnsettledRoot n) = false
says_nothing_of_bytes (refusal.RootExpanded n) = false
says_nothing_of_bytes refusal.Disk = true
says_nothing_of_bytes refusal.NotAJournal = false
says_nothing_of_bytes (refusal.OtherTable found asked) = false
says_nothing_of_bytes (refusal.Damaged at) = false
says_nothing_of_bytes refusal.Memory = true
says_nothing_of_bytes refusal.Read = false

-- a disk that has what the command asks of it is not refused for what it reads as
abbrev pub AcceptsAsked : {D T : Type 0} → Ghosts D → Command → D → Result T Refusal
    → Type 0
AcceptsAsked g command disk answer =
    HasAsked g command disk → IfErr answer (λ r. says_nothing_of_bytes r ≡ true)

-- a cause that the disk has is the answer
abbrev pub AnswersLook : {D T : Type 0} → Ghosts D → Command → D → Result T Refusal
    → Type 0
AnswersLook g command disk answer =
    IsHonest g.TELLS → (cause : LookRefusal) → HasLookCause command (g.reads disk) cause
    → Unless says_nothing_of_bytes answer (answer ≡ Err (of_look cause))

-- a cause for which the disk does not learn the certificate is the answer
abbrev pub AnswersCertificate : {D T : Type 0} → Ghosts D → Certificate → D → Result T Refusal
    → Type 0
AnswersCertificate g c disk answer =
    IsHonest g.TELLS → (cause : LearnRefusal) → HasNoLesson (g.reads disk) c cause
    → Unless says_nothing_of_bytes answer (answer ≡ Err (of_lesson cause))

-- the disk does not learn the certificate, or memory ran out
abbrev pub RefusesCertificate : {D : Type 0} → Ghosts D → Certificate → D → D → Refusal → Type 0
RefusesCertificate g c old new r = (r ≡ refusal.Memory) ⊎ IsLessonFault g c old new r

-- a cause for which the disk does not learn these bytes is the answer
abbrev pub AnswersLesson : {D T : Type 0} → Ghosts D → Command → List ℕ → D → Result T Refusal
    → Type 0
AnswersLesson g command bytes disk answer =
    IsHonest g.TELLS → (cause : LearnRefusal) → HasLessonCause command bytes (g.reads disk) cause
    → Unless says_nothing_of_bytes answer (answer ≡ Err (of_lesson cause))

-- ---- all that an answer is

module _ {D : Type 0} (g : Ghosts D) where
  -- What a command has to write for these bytes, or why it is refused, and what it leaves of the
  -- disk.
  pub record IsAnswer (command : Command) (bytes : List ℕ) (old new : D)
      (answer : Result Written Refusal) : Type 0 where
    pub leaves : LeavesDisk g command (Some bytes) old new
    pub answers : IfOk answer (λ output. AnswersBytes g
        command bytes old new output.text.items output.is_settled)
    pub says : IfOk answer (λ output. SaysTrue output.text.items)
    pub refused : IfErr answer (RefusesBytes g
        command bytes old new)
    pub accepted : IfErr answer (AcceptsBytes g command bytes old)
    pub asked : AcceptsAsked g command old answer
    pub looked : AnswersLook g command old answer
    pub taught : AnswersLesson g command bytes old answer
    pub unused : IfErr answer (λ r. ComesBeforeDisk r → new ≡ old)
