-- A run, by where it ends: at its words, or behind the journal.
use Rattle.std.proofs.Common.{◌≡◌, ◌≢◌, ◌⊎◌, inl, inr, ℕ, Bool, true, false, List, Option, Some, None, refl, sym, ◌∙◌, ap, subst}
use Rattle.std.specs.Prelude.{IfErr, IfOk, IsSomeAnd, OnOk, Result, Ok, Err}
use Rattle.std.specs.Bool.{OnFalse}
use Rattle.shared_words.specs.Counts.{Rose}
use Rattle.bench_disk.specs.declared.disk.Disk.{Ghosts}
use Rattle.bench_disk.specs.Disk.{IsHonest, Stays}
use Rattle.bench_edges.specs.declared.sink.Sink.{Ghosts as SinkGhosts}
use Rattle.bench_edges.specs.declared.source.Source.{Ghosts as SourceGhosts}
use Rattle.bench_edges.specs.declared.status.Status.{Status}
use Rattle.bench_edges.specs.declared.status.Status.TheVariants.{Done, Unsolved, Words, Input, Disk, Journal, Memory, Read, Write}
use Rattle.disk_journal.specs.declared.refusal.JournalRefusal.TheVariants as journal
use Rattle.journal_looks.specs.Conversions.{of_look}
use Rattle.journal_looks.specs.declared.refusals.LookRefusal.{LookRefusal}
use Rattle.journal_looks.specs.declared.refusals.LookRefusal.TheVariants as look
use Rattle.opened_games.specs.Opened.{Opened}
use Rattle.opening_report.specs.Refusals.{refusal_text}
use Rattle.opening_report.specs.declared.refusals.Refusal.{Refusal}
use Rattle.opening_report.specs.declared.refusals.Refusal.TheVariants as refusal
use Rattle.opening_report.specs.declared.written.Written.{Written}
use Rattle.program_edges.specs.Answers.{TakesLine, TakesOutput}
use Rattle.program_edges.specs.Statuses.{status_of}
use Rattle.journal_view.specs.Games.{HasGames, HasNoGames, IsRefusedSource, played}
use Rattle.journal_view.specs.Runs.{Accepts, AnswersCauses, HandsOut, HandsRefusal, IsLookFault, IsRefusedFor, IsRefusedGames, IsRefusedRun, Refuses, Reports, RunsView, RunsWith, WritesView, is_excused}
use Rattle.journal_view.specs.Shown.{HasCause, IsGoodFor, Shows, says_nothing}
use Rattle.view_words.specs.Words.{IsRefusedAt, Says}
use Rattle.view_words.specs.declared.requests.Request.{Request}

-- ---- statuses

not_both : (status : Status) → Reports status → Refuses status → ⊥
not_both Done reports refuses = refuses
not_both Unsolved reports refuses = refuses
not_both Write reports refuses = refuses
not_both status reports refuses = reports

reported : (status : Status) (text : List ℕ) (settled : Bool) (before after : Option (List ℕ)) → TakesOutput status text settled before after → Reports status
reported Done text settled before after taken = tt
reported Unsolved text settled before after taken = tt
reported Write text settled before after taken = tt
reported status text settled before after taken = absurd taken

-- a run that reports ends with none of these
record Ends (status : Status) : Type 0 where
  words : status ≢ Words
  input : status ≢ Input
  journal : status ≢ Journal
  fault : status ≢ Disk

report_ends : (status : Status) → Reports status → Ends status
report_ends Done reports = record { words = λ e. cc; input = λ e. cc; journal = λ e. cc; fault = λ e. cc }
report_ends Unsolved reports = record { words = λ e. cc; input = λ e. cc; journal = λ e. cc; fault = λ e. cc }
report_ends Write reports = record { words = λ e. cc; input = λ e. cc; journal = λ e. cc; fault = λ e. cc }
report_ends status reports = absurd reports

not_write : (status : Status) → Refuses status → status ≢ Write
not_write status refuses is = subst Refuses is refuses

-- ---- the refusal of a look at the journal

record OfLook (fault : LookRefusal) : Type 0 where
  refuses : Refuses (status_of (of_look fault))
  words : status_of (of_look fault) ≢ Words
  disk : status_of (of_look fault) ≡ Disk → fault ≡ look.Journal journal.DiskFault
  silent : says_nothing (of_look fault) ≡ true → (status_of (of_look fault) ≢ Input) × (status_of (of_look fault) ≢ Journal)
  excused : is_excused (status_of (of_look fault)) ≡ says_nothing (of_look fault)

of_fault : (fault : LookRefusal) → OfLook fault
of_fault (look.Journal journal.DiskFault) = record { refuses = tt; words = λ e. cc; disk = λ e. refl; silent = λ e. (λ e. cc, λ e. cc); excused = refl }
of_fault (look.Journal journal.NotAJournal) = record { refuses = tt; words = λ e. cc; disk = λ e. cc; silent = λ e. cc; excused = refl }
of_fault (look.Journal (journal.OtherTable found asked)) = record { refuses = tt; words = λ e. cc; disk = λ e. cc; silent = λ e. cc; excused = refl }
of_fault (look.Journal (journal.Damaged at)) = record { refuses = tt; words = λ e. cc; disk = λ e. cc; silent = λ e. cc; excused = refl }
of_fault (look.Journal (journal.Memory error)) = record { refuses = tt; words = λ e. cc; disk = λ e. cc; silent = λ e. (λ e. cc, λ e. cc); excused = refl }
of_fault (look.NoRoot n) = record { refuses = tt; words = λ e. cc; disk = λ e. cc; silent = λ e. cc; excused = refl }
of_fault (look.UnsettledRoot n) = record { refuses = tt; words = λ e. cc; disk = λ e. cc; silent = λ e. cc; excused = refl }

no_error : {T : Type 0} (value : T) (e : Refusal) → ◌≡◌ {A = Result T Refusal} (Ok value) (Err e) → ⊥
no_error value e same = cc

-- a run that is refused for this is refused so, if this is its cause
named_by : (fault : LookRefusal) (x : Refusal) (b : Bool) (before after : Option (List ℕ)) (faults_before faults_after : ℕ) → is_excused (status_of (of_look fault)) ≡ b
    → TakesLine (refusal_text (of_look fault)) before after faults_before faults_after
    → OnFalse b (◌≡◌ {A = Result Written Refusal} (Err (of_look fault)) (Err x))
    → OnFalse b ((status_of x ≡ status_of (of_look fault)) × TakesLine (refusal_text x) before after faults_before faults_after)
named_by fault x true before after faults_before faults_after is line same = tt
named_by fault x false before after faults_before faults_after is line same =
    let same_x : of_look fault ≡ x = cc in
    subst (λ (y : Refusal). (status_of y ≡ status_of (of_look fault)) × TakesLine (refusal_text y) before after faults_before faults_after) same_x (refl, line)

named : (fault : LookRefusal) (x : Refusal) (before after : Option (List ℕ)) (faults_before faults_after : ℕ)
    → TakesLine (refusal_text (of_look fault)) before after faults_before faults_after
    → OnFalse (says_nothing (of_look fault)) (◌≡◌ {A = Result Written Refusal} (Err (of_look fault)) (Err x))
    → IsRefusedFor x before after faults_before faults_after (status_of (of_look fault))
named fault x before after faults_before faults_after line same =
    named_by fault x (is_excused (status_of (of_look fault))) before after faults_before faults_after refl line
    (subst (λ (b : Bool). OnFalse b (◌≡◌ {A = Result Written Refusal} (Err (of_look fault)) (Err x))) (sym (of_fault fault).excused) same)

-- ---- whole runs

module _ {K D : Type 0} (k : SinkGhosts K) (g : Ghosts D) (opened : Opened) (words : List (List ℕ)) where
  stays_itself : (disk : D) → Stays g.reads g.images disk disk
  stays_itself disk = record { same = refl; none_added = λ image h. h; none_lost = λ image h. h }

  -- the words ask for nothing
  why_no_words : (at : ℕ) (before after : K) (old : D) (status : Status) → IsRefusedAt words at → status ≡ Words
      → TakesLine (refusal_text (refusal.Words at)) (k.taken before) (k.taken after) (k.faults before) (k.faults after)
      → IsRefusedRun k g words before after old old status
  why_no_words at before after old status none is line = record {
    refusal = refusal.Words at;
    cause = inl (record { at = at; is = refl; refused_at = none; unused = refl });
    status_is = sym is;
    line = line;
  }

  pub runs_no_words : (at : ℕ) (before after : K) (old : D) (status : Status) → IsRefusedAt words at → status ≡ Words
      → TakesLine (refusal_text (refusal.Words at)) (k.taken before) (k.taken after) (k.faults before) (k.faults after)
      → RunsWith k g opened words before after old old status
  runs_no_words at before after old status none is line =
      subst (RunsWith k g opened words before after old old) (sym is) (record {
        views = λ reports. absurd reports;
        refused = λ _. why_no_words at before after old Words none refl line;
        ends = inr tt;
        leaves = λ honest. stays_itself old;
        asked = (λ _. none.no_request, λ _. refl);
        unread = λ _. refl;
        looked = λ request says. absurd (none.no_request request says);
        accepted = λ request says. absurd (none.no_request request says);
        write = λ e. cc;
        fault = λ e. cc;
      })

  pub hands_no_words : (at : ℕ) (before after : K) (old : D) (status : Status) (handed : Option Refusal) → IsRefusedAt words at → status ≡ Words
      → TakesLine (refusal_text (refusal.Words at)) (k.taken before) (k.taken after) (k.faults before) (k.faults after)
      → handed ≡ Some (refusal.Words at) → HandsOut k g words before after old old status handed
  unfolding why_no_words
  hands_no_words at before after old status handed none is line same = record {
    refused = λ _. (why_no_words at before after old status none is line, same);
    reported = λ reports. absurd (subst Reports is reports);
  }

  -- they ask for this
  module _ (request : Request) (says : Says words request) (once : (other : Request) → Says words other → request ≡ other) (before after : K) (old new : D) (status : Status)
      (leaves : IsHonest g.TELLS → Stays g.reads g.images old new) where
    -- it is shown
    pub runs_shown : (w : Written) → Shows g opened request old w.text.items w.is_settled → AnswersCauses g {T = Written} request old (Ok w)
        → TakesOutput status w.text.items w.is_settled (k.taken before) (k.taken after) → (status ≡ Write → Rose (k.faults before) (k.faults after))
        → RunsWith k g opened words before after old new status
    runs_shown w shows causes taken write =
        let reports = reported status w.text.items w.is_settled (k.taken before) (k.taken after) taken in
        let ends = report_ends status reports in
        record {
          views = λ _. record { request = request; says = says; text = w.text.items; settled = w.is_settled; shows = shows; taken = taken };
          refused = λ refuses. absurd (not_both status reports refuses);
          ends = inl reports;
          leaves = leaves;
          asked = (λ e. absurd (ends.words e), λ none. absurd (none request says));
          unread = λ e. absurd (ends.words e);
          looked = λ other said honest cause has.
              absurd (no_error w (of_look cause) (causes honest cause (subst (λ (q : Request). HasCause q (g.reads old) cause) (sym (once other said)) has)));
          accepted = λ other said honest good. (ends.input, ends.journal);
          write = write;
          fault = λ e. absurd (ends.fault e);
        }

    -- it is not
    why_refused : (r : Refusal) → IsLookFault g request old new r → status ≡ status_of r
        → TakesLine (refusal_text r) (k.taken before) (k.taken after) (k.faults before) (k.faults after) → IsRefusedRun k g words before after old new status
    why_refused r why is line = record { refusal = r; cause = inr (request, (says, why)); status_is = sym is; line = line }

    pub runs_refused : (r : Refusal) → IsLookFault g request old new r → AnswersCauses g {T = Written} request old (Err r) → Accepts g {T = Written} request old (Err r)
        → status ≡ status_of r → TakesLine (refusal_text r) (k.taken before) (k.taken after) (k.faults before) (k.faults after)
        → RunsWith k g opened words before after old new status
    runs_refused r why causes accepts is line =
        let of = of_fault why.fault in
        let same : status ≡ status_of (of_look why.fault) = is ∙ ap status_of why.is in
        let refuses : Refuses status = subst Refuses (sym same) of.refuses in
        let told = subst (λ (x : Refusal). TakesLine (refusal_text x) (k.taken before) (k.taken after) (k.faults before) (k.faults after)) why.is line in
        record {
          views = λ reports. absurd (not_both status reports refuses);
          refused = λ _. why_refused r why is line;
          ends = inr refuses;
          leaves = leaves;
          asked = (λ e. absurd (of.words (sym same ∙ e)), λ none. absurd (none request says));
          unread = λ e. absurd (of.words (sym same ∙ e));
          looked = λ other said honest cause has.
              subst (λ (s : Status). IsRefusedFor (of_look cause) (k.taken before) (k.taken after) (k.faults before) (k.faults after) s) (sym same)
              (named why.fault (of_look cause) (k.taken before) (k.taken after) (k.faults before) (k.faults after) told
              (subst (λ (x : Refusal). OnFalse (says_nothing x) (◌≡◌ {A = Result Written Refusal} (Err x) (Err (of_look cause)))) why.is
              (causes honest cause (subst (λ (q : Request). HasCause q (g.reads old) cause) (sym (once other said)) has))));
          accepted = λ other said honest good.
              subst (λ (s : Status). (s ≢ Input) × (s ≢ Journal)) (sym same)
              (of.silent (ap says_nothing (sym why.is) ∙ accepts honest (subst (λ (q : Request). IsGoodFor q (g.reads old)) (sym (once other said)) good)));
          write = λ e. absurd (not_write status refuses e);
          fault = λ e. why.disk (of.disk (sym same ∙ e));
        }

    -- it is shown, or refused
    pub answered : (answer : Result Written Refusal) (handed : Option Refusal)
        → IfOk answer (λ w. Shows g opened request old w.text.items w.is_settled) → IfErr answer (IsLookFault g request old new)
        → AnswersCauses g request old answer → Accepts g request old answer
        → IfOk answer (λ w. TakesOutput status w.text.items w.is_settled (k.taken before) (k.taken after)) → OnOk answer (status ≡ Write → Rose (k.faults before) (k.faults after))
        → IfErr answer (λ r. status ≡ status_of r) → IfErr answer (λ r. TakesLine (refusal_text r) (k.taken before) (k.taken after) (k.faults before) (k.faults after))
        → OnOk answer (handed ≡ None) → IfErr answer (λ r. handed ≡ Some r)
        → RunsWith k g opened words before after old new status × HandsOut k g words before after old new status handed
    unfolding why_refused
    answered (Ok w) handed shows refused causes accepts taken write is line none some =
        let reports = reported status w.text.items w.is_settled (k.taken before) (k.taken after) taken in (
          runs_shown w shows causes taken write,
          record { refused = λ refuses. absurd (not_both status reports refuses); reported = λ _. none },
        )
    answered (Err r) handed shows refused causes accepts taken write is line none some =
        let refuses : Refuses status = subst Refuses (sym (is ∙ ap status_of refused.is)) (of_fault refused.fault).refuses in (
          runs_refused r refused causes accepts is line,
          record { refused = λ _. (why_refused r refused is line, some); reported = λ reports. absurd (not_both status reports refuses) },
        )

-- ---- and its games

nothing_played : (o : Option ℕ) (P : ℕ → Type 0) → o ≡ None → IsSomeAnd o P → ⊥
nothing_played o P is there = absurd (subst (λ (x : Option ℕ). IsSomeAnd x P) is there)

module _ {S K D : Type 0} (s : SourceGhosts S) (k : SinkGhosts K) (g : Ghosts D) (words : List (List ℕ)) (source rest : S) (before after : K) (old new : D) (status : Status) where
  -- the words ask for nothing
  pub view_no_words : (opened : Opened) (at : ℕ) → IsRefusedAt words at → rest ≡ source → RunsWith k g opened words before after old new status
      → RunsView s k g words source rest before after old new status
  view_no_words opened at none same runs = record {
    runs = inr (opened, (λ request says. absurd (none.no_request request says), runs));
    unasked = λ _. same;
  }

  -- they ask for this
  module _ (request : Request) (says : Says words request) where
    why_games : (r : Refusal) → HasNoGames request (s.left source) (s.left rest) (s.faults source) (s.faults rest) r → new ≡ old → status ≡ status_of r
        → TakesLine (refusal_text r) (k.taken before) (k.taken after) (k.faults before) (k.faults after) → IsRefusedGames s k g words source rest before after old new status r
    why_games r why unused is line = record { request = request; says = says; why = why; unused = unused; status_is = sym is; line = line }

    -- its games are refused
    pub view_no_games : (r : Refusal) (handed : Option Refusal) → HasNoGames request (s.left source) (s.left rest) (s.faults source) (s.faults rest) r → new ≡ old → status ≡ status_of r
        → TakesLine (refusal_text r) (k.taken before) (k.taken after) (k.faults before) (k.faults after) → handed ≡ Some r
        → RunsView s k g words source rest before after old new status × HandsRefusal s k g words source rest before after old new status handed
    view_no_games r handed why unused is line same =
        let refused = why_games r why unused is line in (
          record {
            runs = inl (r, refused);
            unasked = λ none.
                absurd (nothing_played (played request) (λ plies. IsRefusedSource plies (s.left source) (s.left rest) (s.faults source) (s.faults rest) r) (none request says) why);
          },
          inl (r, (refused, same)),
        )

    -- it has its games
    pub view_with : (opened : Opened) → ((other : Request) → Says words other → request ≡ other) → HasGames request (s.left source) opened → (played request ≡ None → rest ≡ source)
        → RunsWith k g opened words before after old new status → RunsView s k g words source rest before after old new status
    view_with opened once games same runs = record {
      runs = inr (opened, (λ other said. subst (λ (q : Request). HasGames q (s.left source) opened) (once other said) games, runs));
      unasked = λ none. same (none request says);
    }
