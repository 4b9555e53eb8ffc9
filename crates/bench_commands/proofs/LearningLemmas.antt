-- What `learn` writes, and what it refuses.
use Rattle.std.proofs.Common.{◌≡◌, ◌≢◌, ℕ, inl, inr, Bool, true, false, List, Some, refl, sym, ◌∙◌, ap, subst, arith, get_or, take}
use Rattle.std.specs.Prelude.{codes, IfErr, IfOk, OnOk, Result, Ok, Err}
use Rattle.std.specs.Bool.{OnFalse}
use Rattle.shared_words.proofs.Exactness.{on_false}
use Rattle.shared_words.specs.Answers.{Unless}
use Rattle.shared_words.specs.Counts.{Rose}
use Rattle.bench_disk.specs.declared.disk.Disk.{Ghosts}
use Rattle.bench_disk.specs.Disk.{IsHonest, NothingPending}
use Rattle.bench_edges.specs.declared.words.Command.TheVariants.{Learn, Verify}
use Rattle.draughts_board.specs.Board.{Board}
use Rattle.strategy_certificate.specs.Certificates.{IsGood, IsTrueOf}
use Rattle.strategy_certificate.specs.declared.claims.Claim.{Claim}
use Rattle.strategy_certificate.specs.declared.certificates.Certificate.{Certificate}
use Rattle.certificate_text.specs.Text.{ReadsAs}
use Rattle.certificate_text.proofs.Exact.{one_certificate_read}
use Rattle.disk_journal.specs.declared.refusal.JournalRefusal.TheVariants as journal
use Rattle.journal_lessons.specs.Conversions.{of_lesson}
use Rattle.journal_lessons.specs.Learnt.{ExplainsNoLesson, HasNoLesson, IsLearnt, KeepsWhole, says_nothing}
use Rattle.journal_lessons.specs.declared.refusals.LearnRefusal.{LearnRefusal}
use Rattle.journal_lessons.specs.declared.refusals.LearnRefusal.TheVariants as lesson
use Rattle.journal_looks.proofs.FileLemmas.{nothing_by}
use Rattle.opening_report.specs.Findings.{learnt_text}
use Rattle.opening_report.specs.Lines.{IsLine}
use Rattle.opening_report.specs.declared.refusals.Refusal.{Refusal}
use Rattle.opening_report.specs.declared.refusals.Refusal.TheVariants as refusal
use Rattle.opening_report.specs.declared.written.Written.{Written}
use Rattle.opening_report.proofs.ReportLemmas.{no_root-is_true, other_line_says_no_root}
use Rattle.program_edges.specs.Statuses.{status_of}
use Rattle.bench_commands.specs.Accepted.{IsUnrefused}
use Rattle.bench_commands.specs.Bench.{ComesBeforeDisk}
use Rattle.bench_commands.specs.Disks.{HasLearnt, IsLessonFault, LeavesDisk}
use Rattle.bench_commands.specs.Steps.{AcceptsBytes, AnswersBytes, AnswersCertificate, AnswersLesson, IsAnswerFault, IsAnswerFaultOnly, RefusesBytes, RefusesCertificate, SaysTrue, says_nothing_of_bytes}
use Rattle.bench_commands.proofs.JournalLemmas.{journal_silence, silent_unrefused}
use Rattle.bench_commands.proofs.LookingLemmas.{no_error}

-- ---- the line

not_root : (n : ℕ) (p : Board) (claim : Claim) → take 5 (learnt_text n p claim) ≢ codes "root "
not_root n p claim same = let first : ◌≡◌ {A = ℕ} 108 114 = ap (λ t. get_or t 0 0) same in omega (arith, first)

pub learnt_says : (n : ℕ) (p : Board) (claim : Claim) (line : List ℕ) → IsLine (learnt_text n p claim) → line ≡ learnt_text n p claim → SaysTrue line
learnt_says n p claim line one is front back whole = no_root-is_true front (other_line_says_no_root (learnt_text n p claim) front back one (not_root n p claim) (sym is ∙ whole))

-- ---- a refusal of the lesson, and the program's own

lesson_silence : (fault : LearnRefusal) → says_nothing_of_bytes (of_lesson fault) ≡ says_nothing fault
lesson_silence (lesson.Journal cause) = journal_silence cause
lesson_silence (lesson.RootExpanded n) = refl
lesson_silence lesson.TooManyRoots = refl

journal_late : (fault : LearnRefusal) → ComesBeforeDisk (of_lesson fault) → ⊥
journal_late (lesson.Journal journal.DiskFault) h = h
journal_late (lesson.Journal journal.NotAJournal) h = h
journal_late (lesson.Journal (journal.OtherTable found asked)) h = h
journal_late (lesson.Journal (journal.Damaged at)) h = h
journal_late (lesson.Journal (journal.Memory error)) h = h
journal_late (lesson.RootExpanded n) h = h
journal_late lesson.TooManyRoots h = h

error_of : {X E : Type 0} (one other : E) → ◌≡◌ {A = Result X E} (Err one) (Err other) → one ≡ other
error_of one other e = cc

-- a cause that is the answer of the lesson is that of the program
lesson_answers : (X T : Type 0) (fault cause : LearnRefusal) (r : Refusal) → r ≡ of_lesson fault → OnFalse (says_nothing fault) (◌≡◌ {A = Result X LearnRefusal} (Err fault) (Err cause))
    → OnFalse (says_nothing_of_bytes r) (◌≡◌ {A = Result T Refusal} (Err r) (Err (of_lesson cause)))
lesson_answers X T fault cause r is h =
    subst (λ (q : Refusal). OnFalse (says_nothing_of_bytes q) (◌≡◌ {A = Result T Refusal} (Err q) (Err (of_lesson cause)))) (sym is)
    (subst (λ (b : Bool). OnFalse b (◌≡◌ {A = Result T Refusal} (Err (of_lesson fault)) (Err (of_lesson cause)))) (sym (lesson_silence fault))
    (on_false (says_nothing fault) (◌≡◌ {A = Result X LearnRefusal} (Err fault) (Err cause)) (◌≡◌ {A = Result T Refusal} (Err (of_lesson fault)) (Err (of_lesson cause)))
    (λ e. ap (λ (q : LearnRefusal). Err (of_lesson q)) (error_of fault cause e)) h))

memory_silent : (r : Refusal) (P : Type 0) → r ≡ refusal.Memory → OnFalse (says_nothing_of_bytes r) P
memory_silent r P is = subst (λ (q : Refusal). OnFalse (says_nothing_of_bytes q) P) (sym is) tt

-- ---- a certificate that was checked

-- what the journal answered of it
abbrev Learnt : Type 0
Learnt = Result ℕ LearnRefusal

module _ {D : Type 0} (g : Ghosts D) (c : Certificate) (old new : D) (learnt : Learnt) where
  -- it was learnt, and the line on it is the answer unless memory runs out

  module _ (n : ℕ) (is : learnt ≡ Ok n) (p : Board) (claim : Claim) (same : p ≡ c.position) (also : claim ≡ c.claim) where
    pub line_learnt : (answer : Result Written Refusal) → IfOk answer (λ output. output.text.items ≡ learnt_text n p claim) → (IsHonest g.TELLS → IfOk learnt (IsLearnt (g.reads old) (g.reads new) c))
        → IfOk answer (λ output. HasLearnt g c old new output.text.items)
    line_learnt (Ok output) text does = record {
      number = n;
      text_is = text ∙ (ap (λ (q : Board). learnt_text n q claim) same ∙ ap (λ (q : Claim). learnt_text n c.position q) also);
      learnt = λ honest. subst (λ (o : Learnt). IfOk o (IsLearnt (g.reads old) (g.reads new) c)) is (does honest);
    }
    line_learnt (Err r) text does = tt

    pub line_causes : (answer : Result Written Refusal) → IfErr answer (λ r. r ≡ refusal.Memory)
        → (IsHonest g.TELLS → (cause : LearnRefusal) → HasNoLesson (g.reads old) c cause → Unless says_nothing learnt (learnt ≡ Err cause)) → AnswersCertificate g c old answer
    line_causes (Ok output) memory causes honest cause stands =
        absurd (no_error n cause (subst (λ (o : Learnt). Unless says_nothing o (o ≡ Err cause)) is (causes honest cause stands)))
    line_causes (Err r) memory causes honest cause stands = memory_silent r _ memory

  pub line_refused : (answer : Result Written Refusal) → IfErr answer (λ r. r ≡ refusal.Memory) → IfErr answer (RefusesCertificate g c old new)
  line_refused (Ok output) memory = tt
  line_refused (Err r) memory = inl memory

  -- it is not learnt

  module _ (fault : LearnRefusal) (is : learnt ≡ Err fault) (r : Refusal) (from : r ≡ of_lesson fault) where
    pub fault_refused : IfErr learnt (λ q. q ≡ lesson.Journal journal.DiskFault → Rose (g.faults old) (g.faults new)) → (IsHonest g.TELLS → IfErr learnt (ExplainsNoLesson (g.reads old) c))
        → RefusesCertificate g c old new r
    fault_refused disk explained = inr (record {
      fault = fault;
      is = from;
      disk = subst (λ (o : Learnt). IfErr o (λ q. q ≡ lesson.Journal journal.DiskFault → Rose (g.faults old) (g.faults new))) is disk;
      explained = λ honest. subst (λ (o : Learnt). IfErr o (ExplainsNoLesson (g.reads old) c)) is (explained honest);
    })

    pub fault_causes : (T : Type 0) → (IsHonest g.TELLS → (cause : LearnRefusal) → HasNoLesson (g.reads old) c cause → Unless says_nothing learnt (learnt ≡ Err cause)) → AnswersCertificate {T = T} g c old (Err r)
    fault_causes T causes honest cause stands =
        lesson_answers ℕ T fault cause r from (subst (λ (o : Learnt). Unless says_nothing o (o ≡ Err cause)) is (causes honest cause stands))

-- the line on it says no root
pub line_says : (n : ℕ) (p : Board) (claim : Claim) (answer : Result Written Refusal) → IfOk answer (λ output. output.text.items ≡ learnt_text n p claim) → OnOk answer (IsLine (learnt_text n p claim))
    → IfOk answer (λ output. SaysTrue output.text.items)
line_says n p claim (Ok output) is one = learnt_says n p claim output.text.items one is
line_says n p claim (Err r) is one = tt

-- ---- a text whose certificate was checked

module _ {D : Type 0} (g : Ghosts D) (text : List ℕ) (c : Certificate) (spelled : ReadsAs text c) (good : IsGood c) (old new : D) where
  pub checked_leaves : (IsHonest g.TELLS → NothingPending (g.reads old) (g.images old) → KeepsWhole g c old new) → LeavesDisk g Learn (Some text) old new
  checked_leaves keeps = inr (c, (good, (spelled, keeps)))

  pub checked_answers : IsTrueOf c.claim c.position → (answer : Result Written Refusal) → IfOk answer (λ output. HasLearnt g c old new output.text.items) → IfOk answer (λ output. output.is_settled ≡ true)
      → IfOk answer (λ output. AnswersBytes g Learn text old new output.text.items output.is_settled)
  checked_answers right (Ok output) learnt settled = record {
    answers = (record { certificate = c; spelled = spelled; good = good; right = right; number = learnt.number; text_is = learnt.text_is }, settled);
    shows = (c, (spelled, learnt));
  }
  checked_answers right (Err r) learnt settled = tt

  pub checked_refused : {T : Type 0} (answer : Result T Refusal) → IfErr answer (RefusesCertificate g c old new) → IfErr answer (RefusesBytes g Learn text old new)
  checked_refused (Ok output) h = tt
  checked_refused (Err r) (inl memory) = inl (inl memory)
  checked_refused (Err r) (inr fault) = inr (c, (spelled, (good, fault)))

  unrefused_by : (r : Refusal) → RefusesCertificate g c old new r → AcceptsBytes g Learn text old r
  unrefused_by r (inl memory) = λ is_good room. silent_unrefused r (ap says_nothing_of_bytes memory)
  unrefused_by r (inr fault) = λ is_good room.
      let may = room c spelled in
      silent_unrefused r (ap says_nothing_of_bytes fault.is
      ∙ (lesson_silence fault.fault ∙ nothing_by (says_nothing fault.fault) (HasNoLesson (g.reads old) c fault.fault) (fault.explained may.honest) (may.none fault.fault)))

  pub checked_accepted : {T : Type 0} (answer : Result T Refusal) → IfErr answer (RefusesCertificate g c old new) → IfErr answer (AcceptsBytes g Learn text old)
  checked_accepted (Ok output) h = tt
  checked_accepted (Err r) h = unrefused_by r h

  pub checked_taught : {T : Type 0} (answer : Result T Refusal) → AnswersCertificate g c old answer → AnswersLesson g Learn text old answer
  checked_taught answer causes honest cause (d, (fine, (reads, stands))) =
      causes honest cause (subst (λ (x : Certificate). HasNoLesson (g.reads old) x cause) (one_certificate_read text d c reads spelled) stands)

  late : (r : Refusal) → RefusesCertificate g c old new r → ComesBeforeDisk r → ⊥
  late r (inl memory) h = subst ComesBeforeDisk memory h
  late r (inr fault) h = journal_late fault.fault (subst ComesBeforeDisk fault.is h)

  pub checked_unused : {T : Type 0} (answer : Result T Refusal) → IfErr answer (RefusesCertificate g c old new) → IfErr answer (λ r. ComesBeforeDisk r → new ≡ old)
  checked_unused (Ok output) h = tt
  checked_unused (Err r) h = λ first. absurd (late r h first)

-- ---- a text that is refused

module _ {D : Type 0} (g : Ghosts D) (text : List ℕ) (disk : D) (r : Refusal) where
  pub unchecked_refused : IsAnswerFault Verify text r → RefusesBytes g Learn text disk disk r
  unchecked_refused h = inl h

  pub unchecked_accepted : IsAnswerFaultOnly Verify text r → AcceptsBytes g Learn text disk r
  unchecked_accepted only good room = silent_unrefused r (ap says_nothing_of_bytes (only good))

  pub unchecked_taught : (T : Type 0) → IsAnswerFaultOnly Verify text r → AnswersLesson {T = T} g Learn text disk (Err r)
  unchecked_taught T only honest cause (c, (good, (reads, stands))) = memory_silent r _ (only (c, (good, reads)))
