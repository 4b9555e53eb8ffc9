-- A run, by where it ends: at its words, at its source, or behind its play.
use Rattle.std.proofs.Common.{◌≡◌, ◌≢◌, ◌<◌, ◌≤◌, ◌+◌, inl, inr, ◌⊎◌, ℕ, Bool, true, false, List, Option, Some, None, refl, sym, ◌∙◌, ap, subst, length, arith}
use Rattle.std.specs.Prelude.{◌↔◌, IfErr, IfOk, IfSome, IsSome, OnOk, Result, Ok, Err}
use Rattle.std.specs.Bool.{OnFalse}
use Rattle.std.specs.Io.KnownBytes.{IsAtEnd}
use Rattle.shared_words.specs.Counts.{Rose}
use Rattle.bench_disk.specs.declared.disk.Disk.{Ghosts}
use Rattle.bench_disk.specs.Disk.{IsHonest, Stays}
use Rattle.bench_edges.specs.KnownBytes.{ConsumesAtMost}
use Rattle.bench_edges.specs.declared.sink.Sink.{Ghosts as SinkGhosts}
use Rattle.bench_edges.specs.declared.source.Source.{Ghosts as SourceGhosts}
use Rattle.bench_edges.specs.declared.status.Status.{Status}
use Rattle.bench_edges.specs.declared.status.Status.TheVariants.{Done, Unsolved, Words, Input, Disk, Journal, Memory, Read, Write}
use Rattle.certificate_plays.specs.declared.refusals.LinesRefusal.{LinesRefusal}
use Rattle.certificate_plays.specs.declared.refusals.LinesRefusal.TheVariants as lines
use Rattle.disk_journal.specs.declared.refusal.JournalRefusal.TheVariants as journal
use Rattle.draughts_board.specs.declared.pieces.Side.{Side}
use Rattle.draughts_board.specs.Board.{other}
use Rattle.journal_looks.specs.Looks.{HasNoCertificate, HasSettledRoot}
use Rattle.journal_looks.specs.declared.refusals.LookRefusal.{LookRefusal}
use Rattle.journal_looks.specs.declared.refusals.LookRefusal.TheVariants as look
use Rattle.opening_report.specs.declared.refusals.Refusal.{Refusal}
use Rattle.opening_report.specs.declared.refusals.Refusal.TheVariants as refusal
use Rattle.opening_report.specs.Refusals.{refusal_text}
use Rattle.opening_report.specs.declared.written.Written.{Written}
use Rattle.program_edges.specs.Answers.{TakesLine, TakesOutput}
use Rattle.program_edges.specs.Sources.{IsCutShort, IsInput}
use Rattle.program_edges.specs.Statuses.{status_of}
use Rattle.strategy_player.specs.Refusals.{of_journal_look, of_play, play_status, play_text}
use Rattle.strategy_player.specs.Runs.{AcceptsRoot, AnswersCauses, HandsOut, HasRootWorth, IsRefusal, IsRefusedFor, IsRefusedPlay, IsRefusedRequest, IsRefusedRoot, IsRefusedRun, IsRefusedSource, IsRefusedWords, RefusesNoLine, Refuses, Reports, RunsPlay, Shows, WritesPlay, is_excused, says_nothing, won_by}
use Rattle.strategy_player.specs.Words.{IsRefusedAt, Says}
use Rattle.strategy_player.specs.declared.refusals.PlayRefusal.{PlayRefusal}
use Rattle.strategy_player.specs.declared.refusals.PlayRefusal.TheVariants.{Run, NotHeld, Line}
use Rattle.strategy_player.specs.declared.running.TheConstants.{MOST_SOURCE_BYTES}

-- ---- statuses

not_both : (status : Status) → Reports status → Refuses status → ⊥
not_both Done reports refuses = refuses
not_both Write reports refuses = refuses
not_both status reports refuses = reports

run_refuses : (r : Refusal) → Refuses (status_of r)
run_refuses (refusal.Words at) = tt
run_refuses refusal.Disk = tt
run_refuses refusal.NotAJournal = tt
run_refuses (refusal.OtherTable found asked) = tt
run_refuses (refusal.Damaged at) = tt
run_refuses refusal.Memory = tt
run_refuses refusal.Read = tt
run_refuses r = tt

refuses : (r : PlayRefusal) → Refuses (play_status r)
refuses (Run r) = run_refuses r
refuses (NotHeld side) = tt
refuses (Line n p fault) = tt

-- an output without an unsolved root ends so
reported : (status : Status) (text : List ℕ) (settled : Bool) (before after : Option (List ℕ)) → settled ≡ true → TakesOutput status text settled before after → Reports status
reported Done text settled before after is taken = tt
reported Write text settled before after is taken = tt
reported Unsolved text settled before after is taken = (let e = taken.0 in cc)
reported status text settled before after is taken = absurd taken

-- a run that reports ends with none of these
record Ends (status : Status) : Type 0 where
  words : status ≢ Words
  input : status ≢ Input
  journal : status ≢ Journal
  read : status ≢ Read
  fault : status ≢ Disk

report_ends : (status : Status) → Reports status → Ends status
report_ends Done reports = record { words = λ e. cc; input = λ e. cc; journal = λ e. cc; read = λ e. cc; fault = λ e. cc }
report_ends Write reports = record { words = λ e. cc; input = λ e. cc; journal = λ e. cc; read = λ e. cc; fault = λ e. cc }
report_ends status reports = absurd reports

not_write : (status : Status) → Refuses status → status ≢ Write
not_write status refuses is = subst Refuses is refuses

not_unsolved : (status : Status) → Refuses status → status ≢ Unsolved
not_unsolved status refuses is = subst Refuses is refuses

reports_solved : (status : Status) → Reports status → status ≢ Unsolved
reports_solved status reports is = subst Reports is reports

-- an excused status is neither bad input nor no journal
excused_unrefused : (status : Status) → is_excused status ≡ true → (status ≢ Input) × (status ≢ Journal)
excused_unrefused Disk is = (λ e. cc, λ e. cc)
excused_unrefused Memory is = (λ e. cc, λ e. cc)
excused_unrefused Read is = (λ e. cc, λ e. cc)
excused_unrefused status is = cc

-- ---- what a refusal is

run_silent : (r : Refusal) → says_nothing (Run r) ≡ true → (status_of r ≢ Input) × (status_of r ≢ Journal)
run_silent refusal.Disk silent = (λ e. cc, λ e. cc)
run_silent refusal.Memory silent = (λ e. cc, λ e. cc)
run_silent r silent = cc

silent_status : (r : PlayRefusal) → says_nothing r ≡ true → (play_status r ≢ Input) × (play_status r ≢ Journal)
silent_status (Run r) silent = run_silent r silent
silent_status (NotHeld side) silent = cc
silent_status (Line n p fault) silent = cc

-- a run that is refused for this is refused so, if this is its cause
module _ (T : Type 0) (before after : Option (List ℕ)) (faults_before faults_after : ℕ) where
  run_named : (r : Refusal) (x : PlayRefusal) → TakesLine (refusal_text r) before after faults_before faults_after
      → OnFalse (says_nothing (Run r)) (◌≡◌ {A = Result T PlayRefusal} (Err (Run r)) (Err x)) → IsRefusedFor x before after faults_before faults_after (status_of r)
  run_named refusal.Disk x line same = tt
  run_named refusal.Memory x line same = tt
  run_named refusal.Read x line same = tt
  run_named r x line same =
      let is : Run r ≡ x = cc in
      subst (λ (y : PlayRefusal). (play_status y ≡ status_of r) × TakesLine (play_text y) before after faults_before faults_after) is (refl, line)

  named : (r x : PlayRefusal) → TakesLine (play_text r) before after faults_before faults_after
      → OnFalse (says_nothing r) (◌≡◌ {A = Result T PlayRefusal} (Err r) (Err x)) → IsRefusedFor x before after faults_before faults_after (play_status r)
  named (Run r) x line same = run_named r x line same
  named (NotHeld side) x line same =
      let is : NotHeld side ≡ x = cc in
      subst (λ (y : PlayRefusal). (play_status y ≡ Input) × TakesLine (play_text y) before after faults_before faults_after) is (refl, line)
  named (Line n p fault) x line same =
      let is : Line n p fault ≡ x = cc in
      subst (λ (y : PlayRefusal). (play_status y ≡ Input) × TakesLine (play_text y) before after faults_before faults_after) is (refl, line)

excuse : (r : PlayRefusal) (before after : Option (List ℕ)) (faults_before faults_after : ℕ) (status : Status) → is_excused status ≡ true
    → IsRefusedFor r before after faults_before faults_after status
excuse r before after faults_before faults_after status is =
    subst (λ (b : Bool). OnFalse b ((play_status r ≡ status) × TakesLine (play_text r) before after faults_before faults_after)) (sym is) tt

-- the refusal of a look at the journal
look_status : (fault : LookRefusal) → (play_status (of_journal_look fault) ≢ Words) × ((play_status (of_journal_look fault) ≢ Read) × (play_status (of_journal_look fault) ≡ Disk → fault ≡ look.Journal journal.DiskFault))
look_status (look.Journal journal.DiskFault) = (λ e. cc, (λ e. cc, λ e. refl))
look_status (look.Journal journal.NotAJournal) = (λ e. cc, (λ e. cc, λ e. cc))
look_status (look.Journal (journal.OtherTable found asked)) = (λ e. cc, (λ e. cc, λ e. cc))
look_status (look.Journal (journal.Damaged at)) = (λ e. cc, (λ e. cc, λ e. cc))
look_status (look.Journal (journal.Memory error)) = (λ e. cc, (λ e. cc, λ e. cc))
look_status (look.NoRoot n) = (λ e. cc, (λ e. cc, λ e. cc))
look_status (look.UnsettledRoot n) = (λ e. cc, (λ e. cc, λ e. cc))

module _ {D : Type 0} (g : Ghosts D) where
  record OfRoot (old new : D) (status : Status) : Type 0 where
    words : status ≢ Words
    read : status ≢ Read
    fault : status ≡ Disk → Rose (g.faults old) (g.faults new)

  of_lines : (old new : D) (cause : LinesRefusal) → OfRoot old new (play_status (of_play cause))
  of_lines old new (lines.Memory error) = record { words = λ e. cc; read = λ e. cc; fault = λ e. cc }
  of_lines old new (lines.NotHeld side) = record { words = λ e. cc; read = λ e. cc; fault = λ e. cc }
  of_lines old new (lines.Line n p fault) = record { words = λ e. cc; read = λ e. cc; fault = λ e. cc }

  root_status : (root : ℕ) (side : Side) (source : List ℕ) (old new : D) (r : PlayRefusal) → IsRefusedRoot g root side source old new r → OfRoot old new (play_status r)
  root_status root side source old new r (inl why) =
      let is = look_status why.fault in
      subst (λ (x : PlayRefusal). OfRoot old new (play_status x)) (sym why.is)
      (record { words = is.0; read = is.1.0; fault = λ disk. why.disk (is.1.1 disk) })
  root_status root side source old new r (inr why) = subst (λ (x : PlayRefusal). OfRoot old new (play_status x)) (sym why.why.is) (of_lines old new why.why.cause)

  stays_itself : (disk : D) → Stays g.reads g.images disk disk
  stays_itself disk = record { same = refl; none_added = λ image h. h; none_lost = λ image h. h }

-- ---- the source

-- of each text within the limit that the source tells
map_source : (o : Option (List ℕ)) (P : Type 0) (Q : List ℕ → Type 0) → ((text : List ℕ) → P → Q text)
    → IfSome o (λ text. length text ≤ MOST_SOURCE_BYTES → P) → IfSome o (λ text. length text ≤ MOST_SOURCE_BYTES → Q text)
map_source None P Q f h = tt
map_source (Some text) P Q f h = λ fits. f text (h fits)

any_source : (o : Option (List ℕ)) (Q : List ℕ → Type 0) → ((text : List ℕ) → Q text) → IfSome o (λ text. length text ≤ MOST_SOURCE_BYTES → Q text)
any_source None Q h = tt
any_source (Some text) Q h = λ fits. h text

long_source : (o : Option (List ℕ)) (most : ℕ) → Some MOST_SOURCE_BYTES ≡ Some most → IfSome o (λ told. most < length told)
    → (P : Type 0) → IfSome o (λ text. length text ≤ MOST_SOURCE_BYTES → P)
long_source None most is long P = tt
long_source (Some text) most is long P = λ fits. (let e : MOST_SOURCE_BYTES ≡ most = cc in absurd (omega (arith, e, long, fits)))

-- A source that was cut short: what the status says of it.
record OfCut (source : Option (List ℕ)) (before after : ℕ) (status : Status) : Type 0 where
  words : status ≢ Words
  fault : status ≢ Disk
  read : status ≡ Read → Rose before after
  excused : IfSome source (λ text. length text ≤ MOST_SOURCE_BYTES → is_excused status ≡ true)

cut_status : (source rest : Option (List ℕ)) (before after : ℕ) (r : Refusal) → IsCutShort (Some MOST_SOURCE_BYTES) source rest before after r → OfCut source before after (status_of r)
cut_status source rest before after r (inl memory) =
    subst (λ (x : Refusal). OfCut source before after (status_of x)) (sym memory)
    (record { words = λ e. cc; fault = λ e. cc; read = λ e. cc; excused = any_source source (λ text. is_excused Memory ≡ true) (λ text. refl) })
cut_status source rest before after r (inr (inl (failed, rose))) =
    subst (λ (x : Refusal). OfCut source before after (status_of x)) (sym failed)
    (record { words = λ e. cc; fault = λ e. cc; read = λ e. rose.1; excused = any_source source (λ text. is_excused Read ≡ true) (λ text. refl) })
cut_status source rest before after r (inr (inr (long, how))) =
    subst (λ (x : Refusal). OfCut source before after (status_of x)) (sym long)
    (record { words = λ e. cc; fault = λ e. cc; read = λ e. cc; excused = long_source source how.most how.is_limit how.long (is_excused Input ≡ true) })

-- ---- whole runs

no_error : {T : Type 0} (value : T) (e : PlayRefusal) → ◌≡◌ {A = Result T PlayRefusal} (Ok value) (Err e) → ⊥
no_error value e same = cc

module _ {S K D : Type 0} (s : SourceGhosts S) (k : SinkGhosts K) (g : Ghosts D) (words : List (List ℕ)) where
  -- what is handed out of a run that is refused, and of one that is not
  pub hands_why : (source rest : S) (before after : K) (old new : D) (status : Status) (handed : Option PlayRefusal)
      → (why : IsRefusedRun s k g words source rest before after old new status) → handed ≡ Some why.refusal
      → HandsOut s k g words source rest before after old new status handed
  hands_why source rest before after old new status handed why same = record {
    refused = λ _. (why, same);
    reported = λ reports. absurd (not_both status reports (subst Refuses why.status_is (refuses why.refusal)));
  }

  pub hands_none : (source rest : S) (before after : K) (old new : D) (status : Status) (handed : Option PlayRefusal) → Reports status → handed ≡ None
      → HandsOut s k g words source rest before after old new status handed
  hands_none source rest before after old new status handed reports same = record {
    refused = λ refuses. absurd (not_both status reports refuses);
    reported = λ _. same;
  }

  -- the words ask for no play
  pub why_no_words : (at : ℕ) (source : S) (before after : K) (old : D) (status : Status) → IsRefusedAt words at → status ≡ Words
      → TakesLine (refusal_text (refusal.Words at)) (k.taken before) (k.taken after) (k.faults before) (k.faults after)
      → IsRefusedRun s k g words source source before after old old status
  why_no_words at source before after old status none is line = record {
    refusal = Run (refusal.Words at);
    cause = inl (record { at = at; is = refl; refused_at = none; unused = refl });
    status_is = sym is;
    line = line;
  }

  pub runs_no_words : (at : ℕ) (source : S) (before after : K) (old : D) (status : Status) → IsRefusedAt words at → status ≡ Words
      → TakesLine (refusal_text (refusal.Words at)) (k.taken before) (k.taken after) (k.faults before) (k.faults after)
      → RunsPlay s k g words source source before after old old status
  runs_no_words at source before after old status none is line =
      subst (RunsPlay s k g words source source before after old old) (sym is) (record {
        plays = λ reports. absurd reports;
        refused = λ _. why_no_words at source before after old Words none refl line;
        leaves = λ honest. stays_itself g old;
        solved = λ e. cc;
        asked = (λ _. none.no_request, λ _. refl);
        looked = λ root side says. absurd (none.no_request root side says);
        lost = λ root side says. absurd (none.no_request root side says);
        accepted = λ root side says honest settled held. absurd (none.no_request root side says);
        read = λ e. cc;
        write = λ e. cc;
        fault = λ e. cc;
        all_read = λ reports. absurd reports;
        front = λ root side says. absurd (none.no_request root side says);
        unread = λ _. (refl, refl);
      })

  pub hands_no_words : (at : ℕ) (source : S) (before after : K) (old : D) (status : Status) (handed : Option PlayRefusal) → IsRefusedAt words at → status ≡ Words
      → TakesLine (refusal_text (refusal.Words at)) (k.taken before) (k.taken after) (k.faults before) (k.faults after) → handed ≡ Some (Run (refusal.Words at))
      → HandsOut s k g words source source before after old old status handed
  unfolding why_no_words
  hands_no_words at source before after old status handed none is line same =
      hands_why source source before after old old status handed (why_no_words at source before after old status none is line) same

  module _ (root : ℕ) (side : Side) (says : Says words root side) (once : (m : ℕ) (t : Side) → Says words m t → (root ≡ m) × (side ≡ t)) where
    -- the source was cut short
    pub why_no_source : (cause : Refusal) (source rest : S) (before after : K) (old : D) (status : Status)
        → IsCutShort (Some MOST_SOURCE_BYTES) (s.left source) (s.left rest) (s.faults source) (s.faults rest) cause → status ≡ status_of cause
        → TakesLine (refusal_text cause) (k.taken before) (k.taken after) (k.faults before) (k.faults after)
        → IsRefusedRun s k g words source rest before after old old status
    why_no_source cause source rest before after old status cut is line = record {
      refusal = Run cause;
      cause = inr (root, (side, (says, inl (record { cause = cause; is = refl; cut = cut; unused = refl }))));
      status_is = sym is;
      line = line;
    }

    pub hands_no_source : (cause : Refusal) (source rest : S) (before after : K) (old : D) (status : Status) (handed : Option PlayRefusal)
        → IsCutShort (Some MOST_SOURCE_BYTES) (s.left source) (s.left rest) (s.faults source) (s.faults rest) cause → status ≡ status_of cause
        → TakesLine (refusal_text cause) (k.taken before) (k.taken after) (k.faults before) (k.faults after) → handed ≡ Some (Run cause)
        → HandsOut s k g words source rest before after old old status handed
    unfolding why_no_source
    hands_no_source cause source rest before after old status handed cut is line same =
        hands_why source rest before after old old status handed (why_no_source cause source rest before after old status cut is line) same

    pub runs_no_source : (cause : Refusal) (source rest : S) (before after : K) (old : D) (status : Status)
        → IsCutShort (Some MOST_SOURCE_BYTES) (s.left source) (s.left rest) (s.faults source) (s.faults rest) cause
        → ConsumesAtMost (MOST_SOURCE_BYTES + 1) (s.left source) (s.left rest) → status ≡ status_of cause
        → TakesLine (refusal_text cause) (k.taken before) (k.taken after) (k.faults before) (k.faults after)
        → RunsPlay s k g words source rest before after old old status
    runs_no_source cause source rest before after old status cut front is line =
        let of = cut_status (s.left source) (s.left rest) (s.faults source) (s.faults rest) cause cut in
        let refuses = run_refuses cause in
        subst (RunsPlay s k g words source rest before after old old) (sym is) (record {
          plays = λ reports. absurd (not_both (status_of cause) reports refuses);
          refused = λ _. why_no_source cause source rest before after old (status_of cause) cut refl line;
          leaves = λ honest. stays_itself g old;
          solved = not_unsolved (status_of cause) refuses;
          asked = (λ e. absurd (of.words e), λ none. absurd (none root side says));
          looked = λ m t said honest why has. excused (of_journal_look why) of.excused;
          lost = λ m t said honest worth. excused (NotHeld t) of.excused;
          accepted = λ m t said honest settled held. map_source (s.left source) (is_excused (status_of cause) ≡ true)
              (λ text. RefusesNoLine (g.reads old) m t text → (status_of cause ≢ Input) × (status_of cause ≢ Journal)) (λ text e none. excused_unrefused (status_of cause) e) of.excused;
          read = of.read;
          write = λ e. absurd (not_write (status_of cause) refuses e);
          fault = λ e. absurd (of.fault e);
          all_read = λ reports. absurd (not_both (status_of cause) reports refuses);
          front = λ m t said. front;
          unread = λ e. absurd (of.words e);
        })
      where
        excused : (r : PlayRefusal) → IfSome (s.left source) (λ text. length text ≤ MOST_SOURCE_BYTES → is_excused (status_of cause) ≡ true)
            → IfSome (s.left source) (λ text. length text ≤ MOST_SOURCE_BYTES → IsRefusedFor r (k.taken before) (k.taken after) (k.faults before) (k.faults after) (status_of cause))
        excused r = map_source (s.left source) (is_excused (status_of cause) ≡ true)
            (λ text. IsRefusedFor r (k.taken before) (k.taken after) (k.faults before) (k.faults after) (status_of cause))
            (λ text. excuse r (k.taken before) (k.taken after) (k.faults before) (k.faults after) (status_of cause))

    -- what holds of the root and the side of the words holds of those that are asked
    looked_root : (m : ℕ) (t : Side) → Says words m t → (old : D) (cause : LookRefusal) → HasNoCertificate (g.reads old) m cause → HasNoCertificate (g.reads old) root cause
    looked_root m t said old cause has = subst (λ n. HasNoCertificate (g.reads old) n cause) (sym (once m t said).0) has

    lost_root : (m : ℕ) (t : Side) → Says words m t → (old : D) → HasRootWorth (g.reads old) m (won_by (other t)) → HasRootWorth (g.reads old) root (won_by (other side))
    lost_root m t said old worth =
        subst (λ n. HasRootWorth (g.reads old) n (won_by (other side))) (sym (once m t said).0)
        (subst (λ u. HasRootWorth (g.reads old) m (won_by (other u))) (sym (once m t said).1) worth)

    -- the play is written
    pub runs_play : {T : Type 0} (value : T) (input text : List ℕ) (settled : Bool) (source rest : S) (before after : K) (old new : D) (status : Status)
        → IsInput (Some MOST_SOURCE_BYTES) (s.left source) input → IsAtEnd (s.left rest) → ConsumesAtMost (MOST_SOURCE_BYTES + 1) (s.left source) (s.left rest)
        → Shows g root side input old text → settled ≡ true → AnswersCauses g root side old (Ok value) → (IsHonest g.TELLS → Stays g.reads g.images old new)
        → TakesOutput status text settled (k.taken before) (k.taken after) → (status ≡ Write → Rose (k.faults before) (k.faults after))
        → RunsPlay s k g words source rest before after old new status
    runs_play value input text settled source rest before after old new status is_input end front shows is causes leaves taken write =
        let reports = reported status text settled (k.taken before) (k.taken after) is taken in
        let ends = report_ends status reports in
        record {
          plays = λ _. record {
            root = root;
            side = side;
            says = says;
            input = input;
            is_input = is_input;
            text = text;
            shows = shows;
            taken = subst (λ (b : Bool). TakesOutput status text b (k.taken before) (k.taken after)) is taken;
          };
          refused = λ refuses. absurd (not_both status reports refuses);
          leaves = leaves;
          solved = reports_solved status reports;
          asked = (λ e. absurd (ends.words e), λ none. absurd (none root side says));
          looked = λ m t said honest why has. absurd (no_error value (of_journal_look why) (causes.looked honest why (looked_root m t said old why has)));
          lost = λ m t said honest worth. absurd (no_error value (NotHeld side) (causes.lost honest (lost_root m t said old worth)));
          accepted = λ m t said honest settled held. any_source (s.left source)
              (λ told. RefusesNoLine (g.reads old) m t told → (status ≢ Input) × (status ≢ Journal)) (λ told none. (ends.input, ends.journal));
          read = λ e. absurd (ends.read e);
          write = write;
          fault = λ e. absurd (ends.fault e);
          all_read = λ _. end;
          front = λ m t said. front;
          unread = λ e. absurd (ends.words e);
        }

    pub hands_play : (text : List ℕ) (settled : Bool) (source rest : S) (before after : K) (old new : D) (status : Status) (handed : Option PlayRefusal) → settled ≡ true
        → TakesOutput status text settled (k.taken before) (k.taken after) → handed ≡ None → HandsOut s k g words source rest before after old new status handed
    hands_play text settled source rest before after old new status handed is taken =
        hands_none source rest before after old new status handed (reported status text settled (k.taken before) (k.taken after) is taken)

    -- the root, or a line, is refused
    pub why_refused : (r : PlayRefusal) (input : List ℕ) (source rest : S) (before after : K) (old new : D) (status : Status)
        → IsInput (Some MOST_SOURCE_BYTES) (s.left source) input → IsAtEnd (s.left rest) → s.faults rest ≡ s.faults source
        → IsRefusedRoot g root side input old new r
        → status ≡ play_status r → TakesLine (play_text r) (k.taken before) (k.taken after) (k.faults before) (k.faults after)
        → IsRefusedRun s k g words source rest before after old new status
    why_refused r input source rest before after old new status is_input end counted why is line = record {
      refusal = r;
      cause = inr (root, (side, (says, inr (record { input = input; is_input = is_input; end = end; counted = counted; why = why }))));
      status_is = sym is;
      line = line;
    }

    pub runs_refused : {T : Type 0} (r : PlayRefusal) (input : List ℕ) (source rest : S) (before after : K) (old new : D) (status : Status)
        → IsInput (Some MOST_SOURCE_BYTES) (s.left source) input → IsAtEnd (s.left rest) → s.faults rest ≡ s.faults source → ConsumesAtMost (MOST_SOURCE_BYTES + 1) (s.left source) (s.left rest)
        → IsRefusedRoot g root side input old new r → AnswersCauses g {T = T} root side old (Err r) → AcceptsRoot g {T = T} root side input old (Err r)
        → (IsHonest g.TELLS → Stays g.reads g.images old new)
        → status ≡ play_status r → TakesLine (play_text r) (k.taken before) (k.taken after) (k.faults before) (k.faults after)
        → RunsPlay s k g words source rest before after old new status
    runs_refused {T} r input source rest before after old new status is_input end counted front why causes accepts leaves is line =
        let of = root_status g root side input old new r why in
        subst (RunsPlay s k g words source rest before after old new) (sym is) (record {
          plays = λ reports. absurd (not_both (play_status r) reports (refuses r));
          refused = λ _. why_refused r input source rest before after old new (play_status r) is_input end counted why refl line;
          leaves = leaves;
          solved = not_unsolved (play_status r) (refuses r);
          asked = (λ e. absurd (of.words e), λ none. absurd (none root side says));
          looked = λ m t said honest cause has. for_cause (of_journal_look cause) (causes.looked honest cause (looked_root m t said old cause has));
          lost = λ m t said honest worth. subst (λ u. IfSome (s.left source) (λ text. length text ≤ MOST_SOURCE_BYTES → IsRefusedFor (NotHeld u) (k.taken before) (k.taken after) (k.faults before) (k.faults after) (play_status r))) (once m t said).1
              (for_cause (NotHeld side) (causes.lost honest (lost_root m t said old worth)));
          accepted = λ m t said honest settled held. by (s.left source) is_input m t said honest settled held;
          read = λ e. absurd (of.read e);
          write = λ e. absurd (not_write (play_status r) (refuses r) e);
          fault = of.fault;
          all_read = λ reports. absurd (not_both (play_status r) reports (refuses r));
          front = λ m t said. front;
          unread = λ e. absurd (of.words e);
        })
      where
        for_cause : (x : PlayRefusal) → OnFalse (says_nothing r) (◌≡◌ {A = Result T PlayRefusal} (Err r) (Err x))
            → IfSome (s.left source) (λ text. length text ≤ MOST_SOURCE_BYTES → IsRefusedFor x (k.taken before) (k.taken after) (k.faults before) (k.faults after) (play_status r))
        for_cause x same = any_source (s.left source) (λ text. IsRefusedFor x (k.taken before) (k.taken after) (k.faults before) (k.faults after) (play_status r))
            (λ text. named T (k.taken before) (k.taken after) (k.faults before) (k.faults after) r x line same)

        as_asked : (m : ℕ) (t : Side) → root ≡ m → side ≡ t → IsHonest g.TELLS → (settled : HasSettledRoot (g.reads old) m) → (settled.value ≡ won_by (other t) → ⊥)
            → RefusesNoLine (g.reads old) m t input → says_nothing r ≡ true
        as_asked m t same alike =
            subst (λ n. IsHonest g.TELLS → (settled : HasSettledRoot (g.reads old) n) → (settled.value ≡ won_by (other t) → ⊥) → RefusesNoLine (g.reads old) n t input → says_nothing r ≡ true) same
            (subst (λ u. IsHonest g.TELLS → (settled : HasSettledRoot (g.reads old) root) → (settled.value ≡ won_by (other u) → ⊥) → RefusesNoLine (g.reads old) root u input → says_nothing r ≡ true) alike
            accepts)

        by : (o : Option (List ℕ)) → IsInput (Some MOST_SOURCE_BYTES) o input → (m : ℕ) (t : Side) → Says words m t → IsHonest g.TELLS
            → (settled : HasSettledRoot (g.reads old) m) → (settled.value ≡ won_by (other t) → ⊥)
            → IfSome o (λ text. length text ≤ MOST_SOURCE_BYTES → RefusesNoLine (g.reads old) m t text → (play_status r ≢ Input) × (play_status r ≢ Journal))
        by None input_is m t said honest settled held = tt
        by (Some text) input_is m t said honest settled held = λ fits none.
            (let same = once m t said in
            silent_status r (as_asked m t same.0 same.1 honest settled held (subst (RefusesNoLine (g.reads old) m t) (sym (input_is.same refl)) none)))

    -- the play is written, or refused
    pub answered : {answer : Result Written PlayRefusal} {seen bytes : List ℕ} {source middle rest : S} {before after : K} {old new : D} {status : Status} {handed : Option PlayRefusal}
        → seen ≡ bytes → IsInput (Some MOST_SOURCE_BYTES) (s.left source) bytes → (IsSome (Some MOST_SOURCE_BYTES) → IsAtEnd (s.left middle)) → s.faults middle ≡ s.faults source
        → ConsumesAtMost (MOST_SOURCE_BYTES + 1) (s.left source) (s.left middle) → s.left rest ≡ s.left middle → s.faults rest ≡ s.faults middle
        → IfOk answer (λ w. Shows g root side seen old w.text.items) → IfOk answer (λ w. w.is_settled ≡ true) → IfErr answer (IsRefusedRoot g root side seen old new)
        → AnswersCauses g root side old answer → AcceptsRoot g root side seen old answer → (IsHonest g.TELLS → Stays g.reads g.images old new)
        → IfOk answer (λ w. TakesOutput status w.text.items w.is_settled (k.taken before) (k.taken after)) → OnOk answer (status ≡ Write → Rose (k.faults before) (k.faults after))
        → IfErr answer (λ r. status ≡ play_status r) → IfErr answer (λ r. TakesLine (play_text r) (k.taken before) (k.taken after) (k.faults before) (k.faults after))
        → OnOk answer (handed ≡ None) → IfErr answer (λ r. handed ≡ Some r)
        → RunsPlay s k g words source rest before after old new status × HandsOut s k g words source rest before after old new status handed
    unfolding why_refused
    answered {answer = Ok w} {seen} {bytes} {source} {middle} {rest} {before} {after} {old} {new} {status} {handed} same input end counted front left faults shows settled refused causes accepts leaves taken write is line none some =
        let is_input : IsInput (Some MOST_SOURCE_BYTES) (s.left source) seen = subst (IsInput (Some MOST_SOURCE_BYTES) (s.left source)) (sym same) input in
        let at_end : IsAtEnd (s.left rest) = subst IsAtEnd (sym left) (end refl) in
        let in_front : ConsumesAtMost (MOST_SOURCE_BYTES + 1) (s.left source) (s.left rest) = subst (ConsumesAtMost (MOST_SOURCE_BYTES + 1) (s.left source)) (sym left) front in (
          runs_play w seen w.text.items w.is_settled source rest before after old new status is_input at_end in_front shows settled causes leaves taken write,
          hands_play w.text.items w.is_settled source rest before after old new status handed settled taken none,
        )
    answered {answer = Err r} {seen} {bytes} {source} {middle} {rest} {before} {after} {old} {new} {status} {handed} same input end counted front left faults shows settled refused causes accepts leaves taken write is line none some =
        let is_input : IsInput (Some MOST_SOURCE_BYTES) (s.left source) seen = subst (IsInput (Some MOST_SOURCE_BYTES) (s.left source)) (sym same) input in
        let at_end : IsAtEnd (s.left rest) = subst IsAtEnd (sym left) (end refl) in
        let in_front : ConsumesAtMost (MOST_SOURCE_BYTES + 1) (s.left source) (s.left rest) = subst (ConsumesAtMost (MOST_SOURCE_BYTES + 1) (s.left source)) (sym left) front in (
          runs_refused {T = Written} r seen source rest before after old new status is_input at_end (faults ∙ counted) in_front refused causes accepts leaves is line,
          hands_why source rest before after old new status handed (why_refused r seen source rest before after old new status is_input at_end (faults ∙ counted) refused is line) some,
        )
