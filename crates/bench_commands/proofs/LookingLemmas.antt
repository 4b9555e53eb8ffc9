-- What a look at a disk answers, and what it is not refused for.
use Rattle.std.proofs.Common.{◌≡◌, ℕ, inl, inr, Bool, true, false, List, Option, None, Some, refl, sym, ◌∙◌, ap, subst}
use Rattle.std.specs.Prelude.{IfErr, IsSome, Result, Ok, Err}
use Rattle.std.specs.Bool.{OnFalse}
use Rattle.std.proofs.lemmas.Bool.{false≢true}
use Rattle.bench_disk.specs.declared.disk.Disk.{Ghosts}
use Rattle.shared_words.proofs.Exactness.{on_false}
use Rattle.bench_edges.specs.declared.status.Status.{Status}
use Rattle.bench_edges.specs.declared.status.Status.TheVariants.{Disk, Memory}
use Rattle.bench_edges.specs.declared.words.Command.{Command}
use Rattle.bench_edges.specs.declared.words.Command.TheVariants.{Solve, Report, Certify, MakeTable, Generate}
use Rattle.capture_positions.specs.Walk.{openings_from}
use Rattle.journal_looks.specs.Conversions.{of_look}
use Rattle.journal_looks.specs.Looks.{says_nothing}
use Rattle.journal_looks.specs.declared.refusals.LookRefusal.{LookRefusal}
use Rattle.journal_looks.specs.declared.refusals.LookRefusal.TheVariants as look
use Rattle.opening_report.specs.declared.refusals.Refusal.{Refusal}
use Rattle.opening_report.specs.declared.refusals.Refusal.TheVariants as refusal
use Rattle.bench_commands.specs.Accepted.{HasAsked, HasLookCause, IsRefusedFor}
use Rattle.opening_report.specs.Refusals.{refusal_text}
use Rattle.program_edges.specs.Answers.{TakesLine}
use Rattle.program_edges.specs.Sources.{IsCutShort}
use Rattle.program_edges.specs.Statuses.{status_of}
use Rattle.bench_commands.specs.Commands.{Searches, source_limit}
use Rattle.bench_commands.specs.Steps.{AcceptsAsked, AnswersLook, RefusesBytes, says_nothing_of_bytes}
use Rattle.bench_commands.specs.declared.commands.generate.TheConstants.{GENERATE_PIECES}
use Rattle.bench_commands.proofs.JournalLemmas.{journal_silence, room_silent}

-- ---- a look, and the program's own refusal

same_silence : (fault : LookRefusal) → says_nothing_of_bytes (of_look fault) ≡ says_nothing fault
same_silence (look.Journal cause) = journal_silence cause
same_silence (look.NoRoot n) = refl
same_silence (look.UnsettledRoot n) = refl

pub look_accepts : (fault : LookRefusal) (r : Refusal) → r ≡ of_look fault → says_nothing fault ≡ true → says_nothing_of_bytes r ≡ true
look_accepts fault r is silent = ap says_nothing_of_bytes is ∙ (same_silence fault ∙ silent)

error_of : {X E : Type 0} (one other : E) → ◌≡◌ {A = Result X E} (Err one) (Err other) → one ≡ other
error_of one other e = cc

pub no_error : {X E : Type 0} (x : X) (e : E) → ◌≡◌ {A = Result X E} (Ok x) (Err e) → ⊥
no_error x e is = cc

-- a cause that is the answer of the look is that of the program
pub look_answers : (X T : Type 0) (fault cause : LookRefusal) (r : Refusal) → r ≡ of_look fault → OnFalse (says_nothing fault) (◌≡◌ {A = Result X LookRefusal} (Err fault) (Err cause))
    → OnFalse (says_nothing_of_bytes r) (◌≡◌ {A = Result T Refusal} (Err r) (Err (of_look cause)))
look_answers X T fault cause r is h =
    subst (λ (q : Refusal). OnFalse (says_nothing_of_bytes q) (◌≡◌ {A = Result T Refusal} (Err q) (Err (of_look cause)))) (sym is)
    (subst (λ (b : Bool). OnFalse b (◌≡◌ {A = Result T Refusal} (Err (of_look fault)) (Err (of_look cause)))) (sym (same_silence fault))
    (on_false (says_nothing fault) (◌≡◌ {A = Result X LookRefusal} (Err fault) (Err cause)) (◌≡◌ {A = Result T Refusal} (Err (of_look fault)) (Err (of_look cause)))
    (λ e. ap (λ (q : LookRefusal). Err (of_look q)) (error_of fault cause e)) h))

pub memory_accepts : {T : Type 0} (answer : Result T Refusal) → IfErr answer (λ r. r ≡ refusal.Memory) → IfErr answer (λ r. says_nothing_of_bytes r ≡ true)
memory_accepts (Ok x) h = tt
memory_accepts (Err r) h = ap says_nothing_of_bytes h

-- ---- a command that reads no source is not cut short but for want of memory

some_none : (n : ℕ) (o : Option ℕ) → o ≡ None → o ≡ Some n → ⊥
some_none n o none some = cc

cut_silent : (command : Command) (source rest : Option (List ℕ)) (before after : ℕ) (r : Refusal) → source_limit command ≡ None → IsCutShort (source_limit command) source rest before after r
    → says_nothing_of_bytes r ≡ true
cut_silent command source rest before after r none (inl memory) = ap says_nothing_of_bytes memory
cut_silent command source rest before after r none (inr (inl read)) = absurd (false≢true (subst (λ (o : Option ℕ). IsSome o) none read.1.0))
cut_silent command source rest before after r none (inr (inr long)) = absurd (some_none long.1.most (source_limit command) none long.1.is_limit)

module _ {D : Type 0} (g : Ghosts D) where
  asked_reads_none : (command : Command) (disk : D) → HasAsked g command disk → source_limit command ≡ None
  asked_reads_none Report disk asked = refl
  asked_reads_none (Certify root) disk asked = refl
  asked_reads_none (MakeTable pieces) disk asked = refl
  asked_reads_none (Generate seed count) disk asked = refl
  asked_reads_none command disk asked = absurd asked

  pub cut_accepts : (command : Command) (source rest : Option (List ℕ)) (before after : ℕ) (disk : D) (r : Refusal) → IsCutShort (source_limit command) source rest before after r
      → HasAsked g command disk → says_nothing_of_bytes r ≡ true
  cut_accepts command source rest before after disk r cut asked = cut_silent command source rest before after r (asked_reads_none command disk asked) cut

look_reads_none : (command : Command) (file : List ℕ) (cause : LookRefusal) → HasLookCause command file cause → source_limit command ≡ None
look_reads_none Report file cause stands = refl
look_reads_none (Certify root) file cause stands = refl
look_reads_none command file cause stands = absurd stands

pub cut_answers : (command : Command) (file : List ℕ) (cause : LookRefusal) (source rest : Option (List ℕ)) (before after : ℕ) (r : Refusal) (P : Type 0)
    → IsCutShort (source_limit command) source rest before after r → HasLookCause command file cause → OnFalse (says_nothing_of_bytes r) P
cut_answers command file cause source rest before after r P cut stands =
    subst (λ (b : Bool). OnFalse b P) (sym (cut_silent command source rest before after r (look_reads_none command file cause stands) cut)) tt

-- ---- the status

module _ (before after : Option (List ℕ)) (faults_before faults_after : ℕ) where
  silent_for : (r q : Refusal) (status : Status) → says_nothing_of_bytes r ≡ true → status ≡ status_of r → IsRefusedFor q before after faults_before faults_after status
  silent_for refusal.Disk q status silent of = subst (IsRefusedFor q before after faults_before faults_after) (sym of) tt
  silent_for refusal.Memory q status silent of = subst (IsRefusedFor q before after faults_before faults_after) (sym of) tt
  silent_for r q status silent of = absurd (false≢true silent)

  exact_for : (q : Refusal) (status : Status) → status_of q ≡ status → TakesLine (refusal_text q) before after faults_before faults_after → IsRefusedFor q before after faults_before faults_after status
  exact_for q Disk of line = tt
  exact_for q Memory of line = tt
  exact_for q status of line = (of, line)

  refused_by : (b : Bool) (r q : Refusal) (status : Status) → says_nothing_of_bytes r ≡ b → status ≡ status_of r → TakesLine (refusal_text r) before after faults_before faults_after → OnFalse b (r ≡ q)
      → IsRefusedFor q before after faults_before faults_after status
  refused_by true r q status silent of line h = silent_for r q status silent of
  refused_by false r q status silent of line h =
      exact_for q status (ap status_of (sym h) ∙ sym of) (subst (λ (x : Refusal). TakesLine (refusal_text x) before after faults_before faults_after) h line)

  pub refused_for : (X : Type 0) (r q : Refusal) (status : Status) → status ≡ status_of r → TakesLine (refusal_text r) before after faults_before faults_after
      → OnFalse (says_nothing_of_bytes r) (◌≡◌ {A = Result X Refusal} (Err r) (Err q)) → IsRefusedFor q before after faults_before faults_after status
  refused_for X r q status of line h =
      refused_by (says_nothing_of_bytes r) r q status refl of line
      (on_false (says_nothing_of_bytes r) (◌≡◌ {A = Result X Refusal} (Err r) (Err q)) (r ≡ q) (λ e. error_of r q e) h)

-- ---- a command that searches

module _ {D : Type 0} (g : Ghosts D) where
  generated_accepts : (seed count : ℕ) (bytes : List ℕ) (old new : D) (r : Refusal) → HasAsked g (Generate seed count) old
      → RefusesBytes g (Generate seed count) bytes old new r → says_nothing_of_bytes r ≡ true
  generated_accepts seed count bytes old new r room (inl (inl memory)) = ap says_nothing_of_bytes memory
  generated_accepts seed count bytes old new r room (inl (inr fault)) = absurd fault
  generated_accepts seed count bytes old new r room (inr run) =
      room_silent g GENERATE_PIECES (openings_from seed count) old new r run.fault run.is room (run.caused room.honest)

  -- it is not refused for what a disk reads as that has what it asks ..
  pub search_accepts : {X : Type 0} (command : Command) (bytes : List ℕ) (old new : D) (answer : Result X Refusal) → Searches command
      → IfErr answer (RefusesBytes g command bytes old new) → AcceptsAsked g command old answer
  search_accepts command bytes old new (Ok x) searches refused = λ asked. tt
  search_accepts (Generate seed count) bytes old new (Err r) searches refused = λ asked. generated_accepts seed count bytes old new r asked refused
  search_accepts (Solve options) bytes old new (Err r) searches refused = λ asked. absurd asked
  search_accepts command bytes old new (Err r) searches refused = absurd searches

-- .. and no look at a disk has a cause to refuse it
pub search_answers : {D X : Type 0} (g : Ghosts D) (command : Command) (disk : D) (answer : Result X Refusal) → Searches command → AnswersLook g command disk answer
search_answers g Report disk answer searches = absurd searches
search_answers g (Certify root) disk answer searches = absurd searches
search_answers g command disk answer searches = λ honest cause stands. absurd stands
