-- A file has one lesson, or one cause for which it has none.
use Rattle.std.proofs.Common.{◌≡◌, ◌⊎◌, ℕ, List, ◌∷◌, ◌++◌, inl, inr, refl, ap, sym, ◌∙◌, subst}
use Rattle.std.specs.Prelude.{Bool, false, Result, Ok, Err, IfOk, IfErr}
use Rattle.std.specs.Bool.{OnFalse}
use Rattle.shared_words.specs.Answers.{Unless}
use Rattle.shared_words.proofs.Exactness.{on_false}
use Rattle.disk_journal.specs.FormatLaws.{read_or_refused, refused_once}
use Rattle.disk_journal.specs.Refusals.{Explains, says_nothing_of_file}
use Rattle.disk_journal.specs.declared.refusal.JournalRefusal.{JournalRefusal}
use Rattle.disk_journal.specs.declared.refusal.JournalRefusal.TheVariants.{DiskFault, NotAJournal, OtherTable, Damaged, Memory}
use Rattle.strategy_certificate.specs.declared.certificates.Certificate.{Certificate}
use Rattle.proof_tree.specs.Forest.{Forest}
use Rattle.bench_records.specs.declared.records.BenchRecord.{BenchRecord}
use Rattle.bench_core.specs.Growing.{IsForestOf}
use Rattle.bench_core.proofs.OneForest.{records_have_one_forest}
use Rattle.tree_manager.specs.Receipts.{ReadsRecords}
use Rattle.tree_manager.specs.Replaying.{ExplainsReplay}
use Rattle.tree_manager.proofs.ExactLemmas.{files_read_as_one_list, one_payload_stops_replay, refused_files_read_as_none}
use Rattle.journal_lessons.specs.declared.refusals.LearnRefusal.{LearnRefusal}
use Rattle.journal_lessons.specs.declared.refusals.LearnRefusal.TheVariants as refusal
use Rattle.journal_lessons.specs.declared.lessons.Lesson.{Lesson}
use Rattle.journal_lessons.specs.declared.lessons.Lesson.TheVariants as lesson
use Rattle.journal_lessons.specs.Lessons.{AreAdded, lesson_of}
use Rattle.journal_lessons.specs.Learnt.{ExplainsNoLesson, HasNoLesson, IsLearnt, IsRefusedLesson, says_nothing}

-- a cause of the journal: of its bytes, or of a payload
abbrev pub IsJournalCause : List ℕ → ℕ → JournalRefusal → Type 0
IsJournalCause file k cause = Explains file k cause ⊎ ExplainsReplay file k cause

told_by : (k : ℕ) (file : List ℕ) (cause : JournalRefusal) → IsJournalCause file k cause → says_nothing_of_file cause ≡ false
told_by k file DiskFault (inl own) = absurd own
told_by k file DiskFault (inr why) = absurd why
told_by k file NotAJournal stands = refl
told_by k file (OtherTable found asked) stands = refl
told_by k file (Damaged at) stands = refl
told_by k file (Memory error) (inl own) = absurd own
told_by k file (Memory error) (inr why) = absurd why

-- a file with such a cause reads as no records
pub journal_unread : (k : ℕ) (file : List ℕ) (records : List BenchRecord) (cause : JournalRefusal) → IsJournalCause file k cause → ReadsRecords k file records → ⊥
journal_unread k file records cause stands read =
    let told = told_by k file cause stands in
    refused_files_read_as_none k file cause records (subst (λ (b : Bool). OnFalse b (IsJournalCause file k cause)) (sym told) stands) told read

replay_sound : (k : ℕ) (file : List ℕ) (cause other : JournalRefusal) → ExplainsReplay file k cause → Explains file k other → ⊥
replay_sound k file DiskFault other why own = why
replay_sound k file NotAJournal other why own = why
replay_sound k file (OtherTable found asked) other why own = why
replay_sound k file (Damaged at) other why own = read_or_refused file k (why.front ++ why.payload ∷ why.rest) other why.payloads own
replay_sound k file (Memory error) other why own = why

replay_once : (k : ℕ) (file : List ℕ) (cause other : JournalRefusal) → ExplainsReplay file k cause → ExplainsReplay file k other → cause ≡ other
replay_once k file DiskFault other why so = absurd why
replay_once k file NotAJournal other why so = absurd why
replay_once k file (OtherTable found asked) other why so = absurd why
replay_once k file (Memory error) other why so = absurd why
replay_once k file (Damaged at) DiskFault why so = absurd so
replay_once k file (Damaged at) NotAJournal why so = absurd so
replay_once k file (Damaged at) (OtherTable found asked) why so = absurd so
replay_once k file (Damaged at) (Memory error) why so = absurd so
replay_once k file (Damaged at) (Damaged place) why so = ap Damaged (one_payload_stops_replay k file at place why so)

journal_once : (k : ℕ) (file : List ℕ) (cause other : JournalRefusal) → IsJournalCause file k cause → IsJournalCause file k other → cause ≡ other
journal_once k file cause other (inl own) (inl so) = refused_once file k cause other own so
journal_once k file cause other (inl own) (inr so) = absurd (replay_sound k file other cause so own)
journal_once k file cause other (inr why) (inl so) = absurd (replay_sound k file cause other why so)
journal_once k file cause other (inr why) (inr so) = replay_once k file cause other why so

-- the records that a file reads as have one forest
pub one_forest : (k : ℕ) (file : List ℕ) (before after : List BenchRecord) (roots others : Forest) → ReadsRecords k file before → ReadsRecords k file after
    → IsForestOf k before roots → IsForestOf k after others → roots ≡ others
one_forest k file before after roots others read again forest other =
    records_have_one_forest k before roots others forest
    (subst (λ (l : List BenchRecord). IsForestOf k l others) (sym (files_read_as_one_list k file before after read again)) other)

same_lesson : (file : List ℕ) (c : Certificate) (one other : LearnRefusal) (a : IsRefusedLesson file c one) (b : IsRefusedLesson file c other) → lesson_of c.pieces a.roots c ≡ lesson_of c.pieces b.roots c
same_lesson file c one other a b = ap (λ (roots : Forest). lesson_of c.pieces roots c) (one_forest c.pieces file a.before b.before a.roots b.roots a.read b.read a.forest b.forest)

expanded_once : (n m : ℕ) → ◌≡◌ {A = Lesson} (lesson.RootExpanded n) (lesson.RootExpanded m) → n ≡ m
expanded_once n m h = cc

expanded_or_many : (n : ℕ) → ◌≡◌ {A = Lesson} (lesson.RootExpanded n) lesson.TooManyRoots → ⊥
expanded_or_many n h = cc

-- a file has one cause for which it has no lesson
pub one_cause : (file : List ℕ) (c : Certificate) (cause other : LearnRefusal) → HasNoLesson file c cause → HasNoLesson file c other → cause ≡ other
one_cause file c (refusal.Journal x) (refusal.Journal y) a b = ap refusal.Journal (journal_once c.pieces file x y a b)
one_cause file c (refusal.Journal x) (refusal.RootExpanded m) a b = absurd (journal_unread c.pieces file b.before x a b.read)
one_cause file c (refusal.Journal x) refusal.TooManyRoots a b = absurd (journal_unread c.pieces file b.before x a b.read)
one_cause file c (refusal.RootExpanded n) (refusal.Journal y) a b = absurd (journal_unread c.pieces file a.before y b a.read)
one_cause file c refusal.TooManyRoots (refusal.Journal y) a b = absurd (journal_unread c.pieces file a.before y b a.read)
one_cause file c (refusal.RootExpanded n) (refusal.RootExpanded m) a b =
    ap refusal.RootExpanded (expanded_once n m (sym a.refused ∙ (same_lesson file c (refusal.RootExpanded n) (refusal.RootExpanded m) a b ∙ b.refused)))
one_cause file c (refusal.RootExpanded n) refusal.TooManyRoots a b =
    absurd (expanded_or_many n (sym a.refused ∙ (same_lesson file c (refusal.RootExpanded n) refusal.TooManyRoots a b ∙ b.refused)))
one_cause file c refusal.TooManyRoots (refusal.RootExpanded m) a b =
    absurd (expanded_or_many m (sym b.refused ∙ (same_lesson file c (refusal.RootExpanded m) refusal.TooManyRoots b a ∙ a.refused)))
one_cause file c refusal.TooManyRoots refusal.TooManyRoots a b = refl

-- a file of which something was learnt has none
learnt_and_expanded : (file file' : List ℕ) (c : Certificate) (root n : ℕ) → IsLearnt file file' c root → IsRefusedLesson file c (refusal.RootExpanded n) → ⊥
learnt_and_expanded file file' c root n learnt unsure =
    subst (λ (l : Lesson). AreAdded c l learnt.added)
    (ap (λ (roots : Forest). lesson_of c.pieces roots c) (one_forest c.pieces file learnt.before unsure.before learnt.then unsure.roots learnt.read_then unsure.read learnt.forest unsure.forest) ∙ unsure.refused)
    learnt.lesson

learnt_and_many : (file file' : List ℕ) (c : Certificate) (root : ℕ) → IsLearnt file file' c root → IsRefusedLesson file c refusal.TooManyRoots → ⊥
learnt_and_many file file' c root learnt unsure =
    subst (λ (l : Lesson). AreAdded c l learnt.added)
    (ap (λ (roots : Forest). lesson_of c.pieces roots c) (one_forest c.pieces file learnt.before unsure.before learnt.then unsure.roots learnt.read_then unsure.read learnt.forest unsure.forest) ∙ unsure.refused)
    learnt.lesson

pub learnt_has_none : (file file' : List ℕ) (c : Certificate) (root : ℕ) (cause : LearnRefusal) → IsLearnt file file' c root → HasNoLesson file c cause → ⊥
learnt_has_none file file' c root (refusal.Journal x) learnt unsure = journal_unread c.pieces file learnt.before x unsure learnt.read_then
learnt_has_none file file' c root (refusal.RootExpanded n) learnt unsure = learnt_and_expanded file file' c root n learnt unsure
learnt_has_none file file' c root refusal.TooManyRoots learnt unsure = learnt_and_many file file' c root learnt unsure

-- each cause is the answer
pub causes_from : (file file' : List ℕ) (c : Certificate) (answer : Result ℕ LearnRefusal) → IfOk answer (IsLearnt file file' c) → IfErr answer (ExplainsNoLesson file c)
    → (cause : LearnRefusal) → HasNoLesson file c cause → Unless says_nothing answer (answer ≡ Err cause)
causes_from file file' c (Ok root) learnt refused cause stands = absurd (learnt_has_none file file' c root cause learnt stands)
causes_from file file' c (Err r) learnt refused cause stands =
    on_false (says_nothing r) (HasNoLesson file c r) (◌≡◌ {A = Result ℕ LearnRefusal} (Err r) (Err cause)) (λ here. ap (λ (x : LearnRefusal). Err x) (one_cause file c r cause here stands)) refused
