-- What a run does by its words, why it is refused, and what it leaves.
use Rattle.std.specs.Prelude.{◌≡◌, ◌≢◌, ◌↔◌, ◌⊎◌, ℕ, List, Bool, true, false, Option, Some, None, IfErr, Result, Err}
use Rattle.std.specs.Bool.{OnFalse}
use Rattle.shared_words.specs.Answers.{Unless}
use Rattle.shared_words.specs.Counts.{Rose}
use Rattle.bench_disk.specs.declared.disk.Disk.{Ghosts}
use Rattle.bench_disk.specs.Disk.{IsHonest, Stays}
use Rattle.bench_edges.specs.declared.sink.Sink.{Ghosts as SinkGhosts}
use Rattle.bench_edges.specs.declared.source.Source.{Ghosts as SourceGhosts}
use Rattle.bench_edges.specs.declared.status.Status.{Status}
use Rattle.bench_edges.specs.declared.status.Status.TheVariants.{Done, Unsolved, Words, Input, Disk, Journal, Memory, Read, Write}
use Rattle.disk_journal.specs.declared.refusal.JournalRefusal.TheVariants as journal
use Rattle.journal_looks.specs.Conversions.{of_look}
use Rattle.journal_looks.specs.declared.refusals.LookRefusal.{LookRefusal}
use Rattle.journal_looks.specs.declared.refusals.LookRefusal.TheVariants as look
use Rattle.opened_games.specs.Opened.{Opened}
use Rattle.opening_report.specs.Refusals.{refusal_text}
use Rattle.opening_report.specs.declared.refusals.Refusal.{Refusal}
use Rattle.opening_report.specs.declared.refusals.Refusal.TheVariants as refusal
use Rattle.program_edges.specs.Answers.{TakesLine, TakesOutput}
use Rattle.program_edges.specs.Statuses.{status_of}
use Rattle.journal_view.specs.Games.{HasGames, HasNoGames, played}
use Rattle.journal_view.specs.Shown.{Explains, HasCause, IsGoodFor, Shows, says_nothing}
use Rattle.view_words.specs.Words.{IsRefusedAt, Says}
use Rattle.view_words.specs.declared.requests.Request.{Request}

-- ---- statuses

-- the run came to what it has to write: it was written, or the sink failed at it
abbrev pub Reports : Status → Type 0
Reports Done = Unit {0}
Reports Unsolved = Unit {0}
Reports Write = Unit {0}
Reports status = ⊥

-- the run was refused
abbrev pub Refuses : Status → Type 0
Refuses Words = Unit {0}
Refuses Input = Unit {0}
Refuses Disk = Unit {0}
Refuses Journal = Unit {0}
Refuses Memory = Unit {0}
Refuses status = ⊥

-- a status for which no cause in what was given has to stand: the disk failed, or memory ran out
abbrev pub is_excused : Status → Bool
is_excused Disk = true
is_excused Memory = true
is_excused status = false

-- The run is refused so, unless its status is excused: its status is that of the refusal, and the sink
-- took its line.
abbrev pub IsRefusedFor : Refusal → Option (List ℕ) → Option (List ℕ) → ℕ → ℕ → Status → Type 0
IsRefusedFor r before after faults_before faults_after status =
    OnFalse (is_excused status) ((status_of r ≡ status)
    × TakesLine (refusal_text r) before after faults_before faults_after)

-- ---- of the disk at entry, and of the disk that is handed back

module _ {D : Type 0} (g : Ghosts D) where
  -- the look at the journal is refused: the disk's faults rose, or what it reads as explains it
  pub record IsLookFault (request : Request) (old new : D) (r : Refusal) : Type 0 where
    pub fault : LookRefusal
    pub is : r ≡ of_look fault
    pub disk : fault ≡ look.Journal journal.DiskFault → Rose (g.faults old) (g.faults new)
    pub explained : IsHonest g.TELLS → Explains request (g.reads old) fault

  -- each cause that the file has is the answer, unless the disk failed or memory ran out
  abbrev pub AnswersCauses : {T : Type 0} → Request → D → Result T Refusal → Type 0
  AnswersCauses request old answer =
      IsHonest g.TELLS → (cause : LookRefusal) → HasCause request (g.reads old) cause
      → Unless says_nothing answer (answer ≡ Err (of_look cause))

  -- a file that shows what is asked is not refused
  abbrev pub Accepts : {T : Type 0} → Request → D → Result T Refusal → Type 0
  Accepts request old answer =
      IsHonest g.TELLS → IsGoodFor request (g.reads old)
      → IfErr answer (λ r. says_nothing r ≡ true)

  -- the words ask for nothing
  pub record IsRefusedWords (words : List (List ℕ)) (old new : D) (r : Refusal) : Type 0 where
    pub at : ℕ
    pub is : r ≡ refusal.Words at
    pub refused_at : IsRefusedAt words at
    pub unused : new ≡ old

  abbrev pub IsRefusal : List (List ℕ) → D → D → Refusal → Type 0
  IsRefusal words old new r =
      IsRefusedWords words old new r
      ⊎ ((request : Request) × (Says words request × IsLookFault request old new r))

-- ---- a run with these games, where games are asked

module _ {K D : Type 0} (k : SinkGhosts K) (g : Ghosts D) where
  -- the run writes what the words ask for
  pub record WritesView (opened : Opened) (words : List (List ℕ)) (before after : K) (old : D)
      (status : Status) : Type 0 where
    pub request : Request
    pub says : Says words request
    pub text : List ℕ
    pub settled : Bool
    pub shows : Shows g opened request old text settled
    pub taken : TakesOutput status text settled (k.taken before) (k.taken after)

  -- The run is refused: there is a cause, the status is that of its refusal, and the sink took the line
  -- that says so.
  pub record IsRefusedRun (words : List (List ℕ)) (before after : K) (old new : D) (status : Status)
      : Type 0 where
    pub refusal : Refusal
    pub cause : IsRefusal g words old new refusal
    pub status_is : status_of refusal ≡ status
    pub line : TakesLine (refusal_text refusal) (k.taken before) (k.taken after) (k.faults before)
        (k.faults after)

  -- A run by the words, with this status. `before` and `after` are its sink before and behind it, `old`
  -- and `new` its disk.
  pub record RunsWith (opened : Opened) (words : List (List ℕ)) (before after : K) (old new : D)
      (status : Status) : Type 0 where
    -- it writes what is asked, or is refused for a cause
    pub views : Reports status → WritesView opened words before after old status
    pub refused : Refuses status → IsRefusedRun words before after old new status
    pub ends : Reports status ⊎ Refuses status
    -- the journal is left as it was
    pub leaves : IsHonest g.TELLS → Stays g.reads g.images old new
    -- words that ask for something are not refused, and others are
    pub asked : (status ≡ Words) ↔ ((request : Request) → ¬ Says words request)
    pub unread : status ≡ Words → new ≡ old
    -- a cause for which the file does not show what is asked is what the run is refused for
    pub looked : (request : Request) → Says words request → IsHonest g.TELLS
        → (cause : LookRefusal) → HasCause request (g.reads old) cause
        → IsRefusedFor (of_look cause) (k.taken before) (k.taken after) (k.faults before)
        (k.faults after) status
    -- a file that shows what is asked is not refused
    pub accepted : (request : Request) → Says words request → IsHonest g.TELLS
        → IsGoodFor request (g.reads old) → (status ≢ Input) × (status ≢ Journal)
    -- each failure shows in a count of faults
    pub write : status ≡ Write → Rose (k.faults before) (k.faults after)
    pub fault : status ≡ Disk → Rose (g.faults old) (g.faults new)

  -- What a run hands out beside its status: the refusal for which it is refused, and none where it came to
  -- what it has to write.
  pub record HandsOut (words : List (List ℕ)) (before after : K) (old new : D) (status : Status)
      (handed : Option Refusal) : Type 0 where
    pub refused : Refuses status → (why : IsRefusedRun words before after old new status)
        × (handed ≡ Some why.refusal)
    pub reported : Reports status → handed ≡ None

-- ---- a run

module _ {S K D : Type 0} (s : SourceGhosts S) (k : SinkGhosts K) (g : Ghosts D) where
  -- Games are asked, and those of the source are refused: the status is that of their refusal, the sink
  -- took the line that says so, and the disk was not used.
  pub record IsRefusedGames (words : List (List ℕ)) (source rest : S) (before after : K) (old new : D)
      (status : Status) (r : Refusal) : Type 0 where
    pub request : Request
    pub says : Says words request
    pub why : HasNoGames request (s.left source) (s.left rest) (s.faults source) (s.faults rest) r
    pub unused : new ≡ old
    pub status_is : status_of r ≡ status
    pub line : TakesLine (refusal_text r) (k.taken before) (k.taken after) (k.faults before)
        (k.faults after)

  -- the games are those of the source, if the words ask for games
  abbrev pub AreAsked : List (List ℕ) → S → Opened → Type 0
  AreAsked words source opened =
      (request : Request) → Says words request → HasGames request (s.left source) opened

  -- The run by the words: its games are refused, or it runs with them. `source` and `rest` are its source
  -- before and behind it, which is not used where no games are asked.
  pub record RunsView (words : List (List ℕ)) (source rest : S) (before after : K) (old new : D)
      (status : Status) : Type 0 where
    pub runs : ((r : Refusal) × IsRefusedGames words source rest before after old new status r)
        ⊎ ((opened : Opened) × (AreAsked words source opened
        × RunsWith k g opened words before after old new status))
    pub unasked : ((request : Request) → Says words request → played request ≡ None) → rest ≡ source

  -- What the run hands out beside its status: why it was refused, if it was.
  abbrev pub HandsRefusal : List (List ℕ) → S → S → K → K → D → D → Status → Option Refusal → Type 0
  HandsRefusal words source rest before after old new status handed =
      ((r : Refusal) × (IsRefusedGames words source rest before after old new status r
      × (handed ≡ Some r)))
      ⊎ HandsOut k g words before after old new status handed
