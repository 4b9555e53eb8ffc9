-- A run of a command: the answer to its source, and what is written of it.
use Rattle.std.proofs.Common.{◌≡◌, ◌⊎◌, ◌∙◌, ℕ, ◌+◌, ◌<◌, ◌≤◌, inl, inr, Bool, true, List, [], Option, None, Some, refl, sym, ap, subst, length, arith}
use Rattle.std.specs.Prelude.{IfErr, IfOk, IfSome, IsSome, OnOk, Result, Ok, Err}
use Rattle.std.specs.Io.KnownBytes.{IsAtEnd}
use Rattle.bench_disk.specs.declared.disk.Disk.{Ghosts}
use Rattle.shared_words.specs.Counts.{Rose}
use Rattle.bench_edges.specs.KnownBytes.{ConsumesAtMost}
use Rattle.bench_edges.specs.declared.status.Status.{Status}
use Rattle.bench_edges.specs.declared.status.Status.TheVariants.{Done, Unsolved, Read, Write}
use Rattle.bench_edges.specs.declared.words.Command.{Command}
use Rattle.bench_edges.specs.declared.words.Command.TheVariants.{Solve, Report, Certify, Learn, Generate}
use Rattle.bench_disk.specs.Disk.{IsHonest}
use Rattle.journal_lessons.specs.Conversions.{of_lesson}
use Rattle.journal_looks.specs.Conversions.{of_look}
use Rattle.opening_report.specs.Report.{ValuesAreTrue}
use Rattle.opening_report.specs.declared.refusals.Refusal.{Refusal}
use Rattle.opening_report.specs.declared.refusals.Refusal.TheVariants as refusal
use Rattle.bench_commands.specs.Accepted.{Accepts, HasAsked, IsRefusedFor, IsUnrefused, Teaches}
use Rattle.opening_report.specs.Refusals.{refusal_text}
use Rattle.program_edges.specs.Answers.{TakesLine, TakesOutput}
use Rattle.program_edges.specs.Sources.{IsCutShort, IsInput}
use Rattle.program_edges.specs.Statuses.{status_of}
use Rattle.bench_commands.specs.Bench.{ComesBeforeDisk, ComesToDisk, Finishes, IsCommandRefusal, ReadsSource, Refuses, Reports, TakesAtMost}
use Rattle.bench_commands.specs.Commands.{source_limit}
use Rattle.bench_commands.specs.Disks.{LeavesDisk}
use Rattle.bench_commands.specs.Runs.{HandsOut, RunsCommand}
use Rattle.bench_commands.specs.Steps.{AcceptsBytes, AnswersBytes, AnswersLook, IsAnswer, IsLineOf, RefusesBytes, SaysTrue, says_nothing_of_bytes}
use Rattle.opening_report.specs.declared.written.Written.{Written}
use Rattle.bench_commands.proofs.CauseLemmas.{Blames, bytes_refuse, command_blames}
use Rattle.bench_commands.proofs.JournalLemmas.{silent_unrefused}
use Rattle.bench_commands.proofs.LessonLemmas.{bytes_teach, cut_teach}
use Rattle.bench_commands.proofs.LookingLemmas.{cut_accepts, cut_answers, no_error, refused_for, search_accepts, search_answers}
use Rattle.bench_commands.proofs.RefusalLemmas.{bytes_accept}
use Rattle.bench_commands.proofs.SolvingLemmas.{output_holds}
use Rattle.bench_commands.proofs.WritingLemmas.{line_values, output_has}

-- ---- what a status says

output_reports : (text : List ℕ) (settled : Bool) (before after : Option (List ℕ)) (status : Status) → TakesOutput status text settled before after → Reports status
output_reports text settled before after Done h = tt
output_reports text settled before after Unsolved h = tt
output_reports text settled before after Write h = tt
output_reports text settled before after status h = absurd h

finished_reports : (status : Status) → Finishes status → Reports status
finished_reports Done h = tt
finished_reports Unsolved h = tt
finished_reports status h = absurd h

-- a run that comes to its output is not refused
not_both : (status : Status) → Reports status → Refuses status → ⊥
not_both Done reports refuses = refuses
not_both Unsolved reports refuses = refuses
not_both Write reports refuses = refuses
not_both status reports refuses = reports

refusal_refuses : (r : Refusal) → Refuses (status_of r)
refusal_refuses (refusal.Words at) = tt
refusal_refuses refusal.Disk = tt
refusal_refuses refusal.NotAJournal = tt
refusal_refuses (refusal.OtherTable found asked) = tt
refusal_refuses (refusal.Damaged at) = tt
refusal_refuses refusal.Memory = tt
refusal_refuses refusal.Read = tt
refusal_refuses r = tt

accept_unrefused : {D : Type 0} (g : Ghosts D) (command : Command) (source : Option (List ℕ)) (disk : D) (status : Status) → IsUnrefused status → Accepts g command source disk status
accept_unrefused g command None disk status h = tt
accept_unrefused g command (Some told) disk status h = λ good fits room. h

-- ---- the answer of `generate`, whatever bytes there are, since none are read

module _ {D : Type 0} (g : Ghosts D) (seed count : ℕ) (bytes : List ℕ) (old new : D) where
  generated_answers : (answer : Result Written Refusal) → IfOk answer (λ output. AnswersBytes g (Generate seed count) [] old new output.text.items output.is_settled)
      → IfOk answer (λ output. AnswersBytes g (Generate seed count) bytes old new output.text.items output.is_settled)
  generated_answers (Ok output) h = record { answers = h.answers; shows = h.shows }
  generated_answers (Err r) h = tt

  generated_accepts : (answer : Result Written Refusal) → IfErr answer (AcceptsBytes g (Generate seed count) bytes old)
  generated_accepts (Ok output) = tt
  generated_accepts (Err r) = λ good room. absurd good

module _ {D : Type 0} {g : Ghosts D}
    {command : Command} {bytes : List ℕ} {old new : D} {answer : Result Written Refusal} where
  pub generated_answer : {seed count : ℕ} → command ≡ Generate seed count → LeavesDisk g (Generate seed count) (Some []) old new
      → IfOk answer (λ output. AnswersBytes g (Generate seed count) [] old new output.text.items output.is_settled)
      → IfOk answer (λ output. SaysTrue output.text.items)
      → IfErr answer (RefusesBytes g (Generate seed count) [] old new)
      → IfErr answer (λ r. ComesBeforeDisk r → new ≡ old)
      → IsAnswer g command bytes old new answer
  generated_answer {seed = seed} {count = count} is leaves answers says refused unused =
      subst (λ (c : Command). IsAnswer g c bytes old new answer) (sym is) (record {
        leaves = leaves;
        answers = generated_answers g seed count bytes old new answer answers;
        says = says;
        refused = refused;
        accepted = generated_accepts g seed count bytes old new answer;
        asked = search_accepts g (Generate seed count) [] old new answer tt refused;
        looked = search_answers g (Generate seed count) old answer tt;
        taught = λ honest cause stands. absurd stands;
        unused = unused;
      })

-- ---- a run that is refused

module _ {D : Type 0} (g : Ghosts D) where
  -- a source that is not too long, and of which the reading is cut short, is not refused for what it says
  cut_unrefused : (command : Command) (source rest : Option (List ℕ)) (before after : ℕ) (disk : D) (r : Refusal) → IsCutShort (source_limit command) source rest before after r → Accepts g command source disk (status_of r)
  cut_unrefused command None rest before after disk r cut = tt
  cut_unrefused command (Some told) rest before after disk r (inl memory) = λ good fits room. silent_unrefused r (ap says_nothing_of_bytes memory)
  cut_unrefused command (Some told) rest before after disk r (inr (inl read)) = λ good fits room. subst (λ q. IsUnrefused (status_of q)) (sym read.0) ((λ e. absurd cc), (λ e. absurd cc))
  cut_unrefused command (Some told) rest before after disk r (inr (inr long)) = λ good fits room.
      let most : length told ≤ long.1.most = subst (λ (o : Option ℕ). IfSome o (λ limit. length told ≤ limit)) long.1.is_limit fits in
      let more : long.1.most < length told = long.1.long in
      absurd (omega (arith, most, more))

module _ {D : Type 0} (g : Ghosts D) where
  left_alone : (command : Command) (source : Option (List ℕ)) (disk : D) → LeavesDisk g command source disk disk
  left_alone (Solve options) source disk = inl refl
  left_alone Learn source disk = inl refl
  left_alone Report source disk = λ honest. record { same = refl; none_added = λ image there. there; none_lost = λ image there. there }
  left_alone (Certify root) source disk = λ honest. record { same = refl; none_added = λ image there. there; none_lost = λ image there. there }
  left_alone (Generate seed count) source disk = inl refl
  left_alone command source disk = refl

  -- what is left where the bytes are those that the source tells
  left_learnt : (source : Option (List ℕ)) (bytes : List ℕ) (old new : D) → IfSome source (λ told. bytes ≡ told) → LeavesDisk g Learn (Some bytes) old new → LeavesDisk g Learn source old new
  left_learnt source bytes old new same (inl still) = inl still
  left_learnt None bytes old new same (inr (c, (good, (spelled, keeps)))) = inr (c, (good, (tt, keeps)))
  left_learnt (Some told) bytes old new same (inr keeps) = subst (λ (t : List ℕ). LeavesDisk g Learn (Some t) old new) same (inr keeps)

  left_told : (command : Command) (source : Option (List ℕ)) (bytes : List ℕ) (old new : D) → IsInput (source_limit command) source bytes → LeavesDisk g command (Some bytes) old new → LeavesDisk g command source old new
  left_told Learn source bytes old new input h = left_learnt source bytes old new (input.same refl) h
  left_told command source bytes old new input h = h

-- a refusal behind the source leaves none of it
refused_end : {D : Type 0} (g : Ghosts D)
    (command : Command) (source rest : Option (List ℕ)) (before after : ℕ) (old new : D) (r : Refusal)
    → IsCommandRefusal g command source rest before after old new r → ComesToDisk (status_of r) → ReadsSource command → IsAtEnd rest
refused_end g command source rest before after old new r (inl (inl memory)) comes = absurd (subst (λ q. ComesToDisk (status_of q)) memory comes)
refused_end g command source rest before after old new r (inl (inr (inl read))) comes = absurd (subst (λ q. ComesToDisk (status_of q)) read.0 comes)
refused_end g command source rest before after old new r (inl (inr (inr long))) comes = absurd (subst (λ q. ComesToDisk (status_of q)) long.0 comes)
refused_end g command source rest before after old new r (inr (inl wrong)) comes = λ reads_it. wrong.end
refused_end g command source rest before after old new r (inr (inr disk)) comes = disk.end

module _ {D : Type 0} {g : Ghosts D}
    {command : Command} {source rest : Option (List ℕ)} {read_before read_after : ℕ} {before after : Option (List ℕ)} {written_before written_after : ℕ} {old new : D}
    {status : Status} {handed : Option Refusal} where
  refused_run : (r : Refusal) → LeavesDisk g command source old new
      → IsCommandRefusal g command source rest read_before read_after old new r → Accepts g command source old (status_of r)
      → (HasAsked g command old → says_nothing_of_bytes r ≡ true) → AnswersLook {T = Written} g command old (Err r)
      → (IsHonest g.TELLS → Teaches command source (g.reads old) (λ cause. (status ≡ Read) ⊎ IsRefusedFor (of_lesson cause) before after written_before written_after status))
      → (ComesBeforeDisk r → new ≡ old) → TakesAtMost command source rest
      → status ≡ status_of r → TakesLine (refusal_text r) before after written_before written_after → IsLineOf r → handed ≡ Some r
      → RunsCommand g command source rest read_before read_after before after written_before written_after old new status
      × HandsOut (IsCommandRefusal g command source rest read_before read_after old new) old new before after written_before written_after status handed
  refused_run r leaves cause accepted asked looked taught unused front is line said handed =
      let refuses : Refuses status = subst Refuses (sym is) (refusal_refuses r) in
      let blames : Blames (Rose read_before read_after) (Rose (g.faults old) (g.faults new)) status = subst (Blames (Rose read_before read_after) (Rose (g.faults old) (g.faults new))) (sym is)
      (command_blames g command source rest read_before read_after old new r cause) in (
        record {
          values = line_values r before after written_before written_after said line;
          openings = λ finished. absurd (not_both status (finished_reports status finished) refuses);
          does = λ reports. absurd (not_both status reports refuses);
          refused = λ refuses. record { refusal = r; cause = cause; status_is = sym is; line = line; unused = unused };
          leaves = leaves;
          words = blames.0;
          accepted = subst (Accepts g command source old) (sym is) accepted;
          asked = λ has. subst IsUnrefused (sym is) (silent_unrefused r (asked has));
          looked = λ honest look stands. refused_for before after written_before written_after Written r (of_look look) status is line (looked honest look stands);
          taught = taught;
          read = blames.1.0;
          write = λ e. absurd (subst Refuses e refuses);
          fault = blames.1.1;
          all_read = λ comes. refused_end g command source rest read_before read_after old new r cause (subst ComesToDisk is comes);
          front = front;
        },
        record {
          refused = λ refuses. (record { refusal = r; cause = cause; status_is = sym is; line = line; unused = unused }, handed);
          reported = λ reports. absurd (not_both status reports refuses);
        },
      )

module _ {D : Type 0} {g : Ghosts D}
    {command : Command} {limit : Option ℕ} {source rest : Option (List ℕ)} {read_before read_after : ℕ} {before after : Option (List ℕ)} {written_before written_after : ℕ} {disk : D}
    {status : Status} {handed : Option Refusal} {r : Refusal} where
  -- .. since its source is cut short
  pub cut_run : limit ≡ source_limit command → IsCutShort limit source rest read_before read_after r → IfSome limit (λ most. ConsumesAtMost (most + 1) source rest)
      → status ≡ status_of r → TakesLine (refusal_text r) before after written_before written_after → IsLineOf r → handed ≡ Some r
      → RunsCommand g command source rest read_before read_after before after written_before written_after disk disk status
      × HandsOut (IsCommandRefusal g command source rest read_before read_after disk disk) disk disk before after written_before written_after status handed
  cut_run same cut_by_limit taken is line said handed =
      let cut : IsCutShort (source_limit command) source rest read_before read_after r = subst (λ (l : Option ℕ). IsCutShort l source rest read_before read_after r) same cut_by_limit in
      let front : TakesAtMost command source rest = subst (λ (l : Option ℕ). IfSome l (λ most. ConsumesAtMost (most + 1) source rest)) same taken in
      refused_run r (left_alone g command source disk) (inl cut) (cut_unrefused g command source rest read_before read_after disk r cut)
      (λ has. cut_accepts g command source rest read_before read_after disk r cut has) (λ honest look stands. cut_answers command (g.reads disk) look source rest read_before read_after r _ cut stands)
      (λ honest. cut_teach (g.reads disk) (λ cause. (status ≡ Read) ⊎ IsRefusedFor (of_lesson cause) before after written_before written_after status) command source rest read_before read_after r cut
      (λ memory cause. inr (subst (IsRefusedFor (of_lesson cause) before after written_before written_after) (sym (is ∙ ap status_of memory)) tt)) (λ read cause. inl (is ∙ ap status_of read)))
      (λ unused. refl) front is line said handed

-- ---- a run of which the source was read to its end, as `middle` was left of it, and to which the bytes were handed back

-- the bytes of the source by the command
input_seen : (command : Command) (limit : Option ℕ) (source : Option (List ℕ)) (bytes seen : List ℕ) → limit ≡ source_limit command → seen ≡ bytes → IsInput limit source bytes
    → IsInput (source_limit command) source seen
input_seen command limit source bytes seen same is input = subst (IsInput (source_limit command) source) (sym is) (subst (λ (l : Option ℕ). IsInput l source bytes) same input)

-- its end, and how much was taken of it
at_end : (command : Command) (limit : Option ℕ) (middle rest : Option (List ℕ)) → limit ≡ source_limit command → rest ≡ middle → (IsSome limit → IsAtEnd middle) → ReadsSource command → IsAtEnd rest
at_end command limit middle rest same left end = subst (λ (o : Option (List ℕ)). ReadsSource command → IsAtEnd o) (sym left) (subst (λ (l : Option ℕ). IsSome l → IsAtEnd middle) same end)

in_front : (command : Command) (limit : Option ℕ) (source middle rest : Option (List ℕ)) → limit ≡ source_limit command → rest ≡ middle
    → IfSome limit (λ most. ConsumesAtMost (most + 1) source middle) → TakesAtMost command source rest
in_front command limit source middle rest same left taken =
    subst (TakesAtMost command source) (sym left) (subst (λ (l : Option ℕ). IfSome l (λ most. ConsumesAtMost (most + 1) source middle)) same taken)

module _ {D : Type 0} {g : Ghosts D}
    {command : Command} {limit : Option ℕ} {source middle rest : Option (List ℕ)} {read_before read_after : ℕ} {before after : Option (List ℕ)} {written_before written_after : ℕ} {old new : D}
    {status : Status} {handed : Option Refusal} {bytes seen : List ℕ} where
  pub answered_run : {answer : Result Written Refusal} → limit ≡ source_limit command → seen ≡ bytes → IsInput limit source bytes → (IsSome limit → IsAtEnd middle)
      → IfSome limit (λ most. ConsumesAtMost (most + 1) source middle)
      → rest ≡ middle → read_after ≡ read_before → IsAnswer g command seen old new answer
      → IfOk answer (λ output. TakesOutput status output.text.items output.is_settled before after)
      → IfErr answer (λ r. status ≡ status_of r) → IfErr answer (λ r. TakesLine (refusal_text r) before after written_before written_after) → IfErr answer IsLineOf
      → OnOk answer (status ≡ Write → Rose written_before written_after) → OnOk answer (handed ≡ None) → IfErr answer (λ r. handed ≡ Some r)
      → RunsCommand g command source rest read_before read_after before after written_before written_after old new status
      × HandsOut (IsCommandRefusal g command source rest read_before read_after old new) old new before after written_before written_after status handed
  answered_run {answer = Ok output} same is_seen input end front left counted a taken is line said write none some =
      let there : IsInput (source_limit command) source seen = input_seen command limit source bytes seen same is_seen input in
      let reports : Reports status = output_reports output.text.items output.is_settled before after status taken in
      let unrefused : IsUnrefused status = ((λ e. subst Reports e reports), (λ e. subst Reports e reports)) in (
        record {
          values = output_has ValuesAreTrue output.text.items output.is_settled before after a.says status taken;
          openings = λ finished. output_holds command source seen output.text.items output.is_settled before after status finished there a.answers.answers taken;
          does = λ reports. record { input = seen; is_input = there; text = output.text.items; settled = output.is_settled; answers = a.answers.answers; shows = a.answers.shows; taken = taken };
          refused = λ refuses. absurd (not_both status reports refuses);
          leaves = left_told g command source seen old new there a.leaves;
          words = λ e. subst Reports e reports;
          accepted = accept_unrefused g command source old status unrefused;
          asked = λ has. unrefused;
          looked = λ honest look stands. absurd (no_error output (of_look look) (a.looked honest look stands));
          taught = λ honest. bytes_teach (g.reads old) (λ cause. (status ≡ Read) ⊎ IsRefusedFor (of_lesson cause) before after written_before written_after status) command source seen there
              (λ cause stands. absurd (no_error output (of_lesson cause) (a.taught honest cause stands)));
          read = λ e. absurd (subst Reports e reports);
          write = write;
          fault = λ e. absurd (subst Reports e reports);
          all_read = λ comes. at_end command limit middle rest same left end;
          front = in_front command limit source middle rest same left front;
        },
        record { refused = λ refuses. absurd (not_both status reports refuses); reported = λ reports. none },
      )
  answered_run {answer = Err r} same is_seen input end front left counted a taken is line said write none some =
      let there : IsInput (source_limit command) source seen = input_seen command limit source bytes seen same is_seen input in
      refused_run r (left_told g command source seen old new there a.leaves)
      (bytes_refuse g command source rest read_before read_after seen old new r there (at_end command limit middle rest same left end) counted a.refused)
      (bytes_accept g command source seen old r there a.accepted) a.asked a.looked
      (λ honest. bytes_teach (g.reads old) (λ cause. (status ≡ Read) ⊎ IsRefusedFor (of_lesson cause) before after written_before written_after status) command source seen there
      (λ cause stands. inr (refused_for before after written_before written_after Written r (of_lesson cause) status is line (a.taught honest cause stands)))) a.unused (in_front command limit source middle rest same left front) is line said some
