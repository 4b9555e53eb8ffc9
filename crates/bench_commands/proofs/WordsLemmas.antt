-- A run by its words: that of the command which they say, or one that is refused by them.
use Rattle.std.proofs.Common.{◌≡◌, ◌≢◌, ◌⊎◌, ℕ, inl, inr, List, Option, None, Some, refl, sym, ◌∙◌, ap, subst}
use Rattle.std.specs.Prelude.{Result, Ok, Err, IfOk, IfErr}
use Rattle.bench_disk.specs.declared.disk.Disk.{Ghosts}
use Rattle.bench_edges.specs.Words.{Says, IsRefusedAt}
use Rattle.bench_edges.specs.declared.sink.Sink.{Ghosts as SinkGhosts}
use Rattle.bench_edges.specs.declared.source.Source.{Ghosts as SourceGhosts}
use Rattle.bench_edges.specs.declared.status.Status.{Status}
use Rattle.bench_edges.specs.declared.status.Status.TheVariants.{Unsolved, Words, Read}
use Rattle.bench_edges.specs.declared.words.Command.{Command}
use Rattle.bench_edges.specs.declared.words.Command.TheVariants.{Solve, Report, Certify, Verify, Learn, MakeTable, TableCheck, Generate}
use Rattle.bench_edges.specs.declared.words.WordsRefusal.{WordsRefusal}
use Rattle.capture_positions.specs.Walk.{openings_from}
use Rattle.journal_lessons.specs.Conversions.{of_lesson}
use Rattle.opening_report.specs.Refusals.{refusal_text}
use Rattle.opening_report.specs.declared.refusals.Refusal.{Refusal}
use Rattle.opening_report.specs.declared.refusals.Refusal.TheVariants as refusal
use Rattle.program_edges.specs.Answers.{TakesLine}
use Rattle.program_edges.specs.Statuses.{status_of}
use Rattle.bench_commands.specs.Accepted.{Accepts, HasAmpleBudget, HasAsked, HasLookCause, IsRefusedFor, IsUnrefused, Teaches}
use Rattle.bench_commands.specs.Bench.{Does, HoldsOpenings, IsCommandRefusal, IsRefusalByWords, IsRefused, ReadsSource, TakesAtMost, WritesOnly}
use Rattle.bench_commands.specs.Commands.{source_limit}
use Rattle.bench_commands.specs.Disks.{LeavesDisk}
use Rattle.bench_commands.specs.Runs.{HandsOut, IsReadingOf, RunsCommand, RunsWords}
use Rattle.bench_commands.specs.Steps.{IsLineOf}
use Rattle.bench_commands.specs.declared.commands.generate.TheConstants.{GENERATE_DEPTH, GENERATE_PIECES}
use Rattle.bench_commands.proofs.NewJournalLemmas.{new_has_ample_budget, new_has_room}
use Rattle.bench_commands.proofs.RefusalLemmas.{certificates_accepted, lessons_accepted, tables_accepted}
use Rattle.bench_commands.proofs.ReachedLemmas.{reached_solves}
use Rattle.bench_commands.proofs.SolvingLemmas.{ample_generates, ample_solves, openings_accepted}
use Rattle.bench_commands.proofs.WritingLemmas.{line_values}

-- ---- what was read of the words

module _ (words : List (List ℕ)) (said : Result Command WordsRefusal) where
  pub says_read : (command : Command) → said ≡ Ok command → IsReadingOf words said → Says words command
  says_read command is reading = subst (λ (r : Result Command WordsRefusal). IfOk r (Says words)) is reading.says

  pub once_read : (command : Command) → said ≡ Ok command → IsReadingOf words said → (other : Command) → Says words other → command ≡ other
  once_read command is reading other says =
      let e = reading.each_command other says in
      cc

  pub refused_read : (refused : WordsRefusal) → said ≡ Err refused → IsReadingOf words said → IsRefusedAt words refused.at
  refused_read refused is reading = subst (λ (r : Result Command WordsRefusal). IfErr r (λ w. IsRefusedAt words w.at)) is reading.refused

-- ---- the words say a command

module _ {D : Type 0} (g : Ghosts D) (words : List (List ℕ)) (command : Command) (source rest : Option (List ℕ)) (read_before read_after : ℕ) (old new : D)
    (before after : Option (List ℕ)) (written_before written_after : ℕ) (status : Status) where
  -- a refusal of the command is one by the words
  pub refused_by : Says words command
      → IsRefused (IsCommandRefusal g command source rest read_before read_after old new) old new before after written_before written_after status
      → IsRefused (IsRefusalByWords g words source rest read_before read_after old new) old new before after written_before written_after status
  refused_by says why = record { refusal = why.refusal; cause = inr (command, (says, why.cause)); status_is = why.status_is; line = why.line; unused = why.unused }

  pub hands_by : (handed : Option Refusal) → Says words command
      → HandsOut (IsCommandRefusal g command source rest read_before read_after old new) old new before after written_before written_after status handed
      → HandsOut (IsRefusalByWords g words source rest read_before read_after old new) old new before after written_before written_after status handed
  unfolding refused_by
  hands_by handed says h = record {
    refused = λ refuses. (let why = h.refused refuses in (refused_by says why.0, why.1));
    reported = h.reported;
  }

module _ {S K D : Type 0} (s : SourceGhosts S) (k : SinkGhosts K) (g : Ghosts D) (words : List (List ℕ)) (command : Command) (source rest : S) (before after : K) (old new : D) (status : Status)
    (says : Says words command) (once : (other : Command) → Says words other → command ≡ other)
    (runs : RunsCommand g command (s.left source) (s.left rest) (s.faults source) (s.faults rest) (k.taken before) (k.taken after) (k.faults before) (k.faults after) old new status)
    (unread : source_limit command ≡ None → rest ≡ source) where
  accepts_of : (other : Command) → Says words other → Accepts g other (s.left source) old status
  accepts_of other said = subst (λ (c : Command). Accepts g c (s.left source) old status) (once other said) runs.accepted

  unrefused_of : (other : Command) → Says words other → HasAsked g other old → IsUnrefused status
  unrefused_of other said has = runs.asked (subst (λ (c : Command). HasAsked g c old) (sym (once other said)) has)

  ample_of : (seed count : ℕ) → Says words (Generate seed count) → HasAmpleBudget g GENERATE_PIECES GENERATE_DEPTH count (openings_from seed count) old → status ≢ Unsolved
  ample_of seed count said = ample_generates g seed count (s.left source) (k.taken before) (k.taken after) old new status
      (λ reports. subst (λ (c : Command). Does g c (s.left source) (k.taken before) (k.taken after) old new status) (once (Generate seed count) said) (runs.does reports))

  pub runs_by : RunsWords s k g words source rest before after old new status
  runs_by = record {
    values = runs.values;
    openings = λ other said finished. subst (λ (c : Command). WritesOnly (k.taken before) (k.taken after) (HoldsOpenings c (s.left source))) (once other said) (runs.openings finished);
    does = λ reports. (command, (says, runs.does reports));
    refused = λ refuses. refused_by g words command (s.left source) (s.left rest) (s.faults source) (s.faults rest) old new (k.taken before) (k.taken after) (k.faults before) (k.faults after) status
        says (runs.refused refuses);
    leaves = λ other said. subst (λ (c : Command). LeavesDisk g c (s.left source) old new) (once other said) runs.leaves;
    unused = λ is. absurd (runs.words is);
    words = ((λ is. absurd (runs.words is)), (λ none. absurd (none command says)));
    accepted = λ options said. openings_accepted g options (s.left source) old status (accepts_of (Solve options) said);
    ample = λ options said. ample_solves g options (s.left source) (k.taken before) (k.taken after) old new status
        (λ reports. subst (λ (c : Command). Does g c (s.left source) (k.taken before) (k.taken after) old new status) (once (Solve options) said) (runs.does reports));
    reached = λ options said. reached_solves g options (s.left source) (k.taken before) (k.taken after) old new status
        (λ reports. subst (λ (c : Command). Does g c (s.left source) (k.taken before) (k.taken after) old new status) (once (Solve options) said) (runs.does reports));
    accepted_generated = λ seed count said room. unrefused_of (Generate seed count) said room;
    ample_generated = ample_of;
    settled_generated = λ seed count said honest read. (
      unrefused_of (Generate seed count) said (new_has_room g seed count old said.1.1.1 honest read),
      ample_of seed count said (new_has_ample_budget g seed count old said.1.1.1 honest read),
    );
    accepted_certificates = λ said. certificates_accepted g (s.left source) old status (accepts_of Verify said);
    accepted_tables = λ said. tables_accepted g (s.left source) old status (accepts_of TableCheck said);
    accepted_reports = λ said honest pieces records read. unrefused_of Report said (honest, (pieces, (records, read)));
    accepted_roots = λ root said honest there. unrefused_of (Certify root) said (honest, there);
    accepted_pieces = λ pieces said. unrefused_of (MakeTable pieces) said tt;
    looked = λ honest other said cause stands. runs.looked honest cause (subst (λ (c : Command). HasLookCause c (g.reads old) cause) (sym (once other said)) stands);
    accepted_lessons = λ said. lessons_accepted g (s.left source) old status (accepts_of Learn said);
    taught = λ honest said. subst (λ (c : Command). Teaches c (s.left source) (g.reads old) (λ cause. (status ≡ Read) ⊎ IsRefusedFor (of_lesson cause) (k.taken before) (k.taken after) (k.faults before) (k.faults after) status)) (once Learn said) (runs.taught honest);
    read = runs.read;
    write = runs.write;
    fault = runs.fault;
    all_read = λ comes other said reads. runs.all_read comes (subst ReadsSource (sym (once other said)) reads);
    front = λ other said. subst (λ (c : Command). TakesAtMost c (s.left source) (s.left rest)) (once other said) runs.front;
    unread = λ other said none. unread (subst (λ (c : Command). source_limit c ≡ None) (sym (once other said)) none);
    unread_by_words = λ is. absurd (runs.words is);
  }

-- ---- the words say no command

module _ {D : Type 0} (g : Ghosts D) (words : List (List ℕ)) (at : ℕ) (source : Option (List ℕ)) (read : ℕ) (disk : D)
    (before after : Option (List ℕ)) (written_before written_after : ℕ) (wrong : IsRefusedAt words at) where
  words_refused : TakesLine (refusal_text (refusal.Words at)) before after written_before written_after
      → IsRefused (IsRefusalByWords g words source source read read disk disk) disk disk before after written_before written_after Words
  words_refused line = record { refusal = refusal.Words at; cause = inl (at, (refl, wrong)); status_is = refl; line = line; unused = λ unused. refl }

  words_handed : TakesLine (refusal_text (refusal.Words at)) before after written_before written_after
      → HandsOut (IsRefusalByWords g words source source read read disk disk) disk disk before after written_before written_after Words (Some (refusal.Words at))
  unfolding words_refused
  words_handed line = record { refused = λ refuses. (words_refused line, refl); reported = λ reports. absurd reports }

  -- the refusal that is handed out is that of the words
  pub hands_words : (r : Refusal) (status : Status) → r ≡ refusal.Words at → status ≡ status_of r → TakesLine (refusal_text r) before after written_before written_after
      → HandsOut (IsRefusalByWords g words source source read read disk disk) disk disk before after written_before written_after status (Some r)
  hands_words r status is status_is line =
      let line_is = subst (λ (x : Refusal). TakesLine (refusal_text x) before after written_before written_after) is line in
      let whole : status ≡ Words = status_is ∙ ap status_of is in
      subst (λ (x : Refusal). HandsOut (IsRefusalByWords g words source source read read disk disk) disk disk before after written_before written_after status (Some x)) (sym is)
      (subst (λ (s : Status). HandsOut (IsRefusalByWords g words source source read read disk disk) disk disk before after written_before written_after s (Some (refusal.Words at))) (sym whole)
      (words_handed line_is))

module _ {S K D : Type 0} (s : SourceGhosts S) (k : SinkGhosts K) (g : Ghosts D) (words : List (List ℕ)) (at : ℕ) (source : S) (before after : K) (disk : D)
    (wrong : IsRefusedAt words at) where
  runs_nothing : TakesLine (refusal_text (refusal.Words at)) (k.taken before) (k.taken after) (k.faults before) (k.faults after) → IsLineOf (refusal.Words at)
      → RunsWords s k g words source source before after disk disk Words
  runs_nothing line said = record {
    values = line_values (refusal.Words at) (k.taken before) (k.taken after) (k.faults before) (k.faults after) said line;
    openings = λ command says finished. absurd finished;
    does = λ reports. absurd reports;
    refused = λ refuses. words_refused g words at (s.left source) (s.faults source) disk (k.taken before) (k.taken after) (k.faults before) (k.faults after) wrong line;
    leaves = λ command says. absurd (wrong.no_command command says);
    unused = λ is. refl;
    words = ((λ is. wrong.no_command), (λ none. refl));
    accepted = λ options says. absurd (wrong.no_command (Solve options) says);
    ample = λ options says. absurd (wrong.no_command (Solve options) says);
    reached = λ options says. absurd (wrong.no_command (Solve options) says);
    accepted_generated = λ seed count says room. absurd (wrong.no_command (Generate seed count) says);
    ample_generated = λ seed count says ample. absurd (wrong.no_command (Generate seed count) says);
    settled_generated = λ seed count says honest read. absurd (wrong.no_command (Generate seed count) says);
    accepted_certificates = λ says. absurd (wrong.no_command Verify says);
    accepted_tables = λ says. absurd (wrong.no_command TableCheck says);
    accepted_reports = λ says honest pieces records read. absurd (wrong.no_command Report says);
    accepted_roots = λ root says honest there. absurd (wrong.no_command (Certify root) says);
    accepted_pieces = λ pieces says. absurd (wrong.no_command (MakeTable pieces) says);
    looked = λ honest command says cause stands. absurd (wrong.no_command command says);
    accepted_lessons = λ says. absurd (wrong.no_command Learn says);
    taught = λ honest says. absurd (wrong.no_command Learn says);
    read = λ e. absurd cc;
    write = λ e. absurd cc;
    fault = λ e. absurd cc;
    all_read = λ comes. absurd comes;
    front = λ command says. absurd (wrong.no_command command says);
    unread = λ command says. absurd (wrong.no_command command says);
    unread_by_words = λ is. refl;
  }

  pub runs_no_command : (r : Refusal) (status : Status) → r ≡ refusal.Words at → status ≡ status_of r
      → TakesLine (refusal_text r) (k.taken before) (k.taken after) (k.faults before) (k.faults after) → IsLineOf r → RunsWords s k g words source source before after disk disk status
  runs_no_command r status is status_is line said =
      let whole : status ≡ Words = status_is ∙ ap status_of is in
      subst (λ (x : Status). RunsWords s k g words source source before after disk disk x) (sym whole)
      (runs_nothing (subst (λ (x : Refusal). TakesLine (refusal_text x) (k.taken before) (k.taken after) (k.faults before) (k.faults after)) is line) (subst IsLineOf is said))
