-- What a run does by its words, why it is refused, and what it leaves.
use Rattle.std.specs.Prelude.{◌≡◌, ◌≢◌, ◌↔◌, ◌⊎◌, ℕ, ◌+◌, ◌≤◌, List, length, All, Bool, true, false, Option, Some, None, IfErr, IfSome, Result, Err}
use Rattle.std.specs.Bool.{OnFalse}
use Rattle.std.specs.Io.KnownBytes.{IsAtEnd}
use Rattle.shared_words.specs.Answers.{Unless}
use Rattle.shared_words.specs.Counts.{Rose}
use Rattle.bench_disk.specs.declared.disk.Disk.{Ghosts}
use Rattle.bench_disk.specs.Disk.{IsHonest, Stays}
use Rattle.bench_edges.specs.KnownBytes.{ConsumesAtMost}
use Rattle.bench_edges.specs.declared.sink.Sink.{Ghosts as SinkGhosts}
use Rattle.bench_edges.specs.declared.source.Source.{Ghosts as SourceGhosts}
use Rattle.bench_edges.specs.declared.status.Status.{Status}
use Rattle.bench_edges.specs.declared.status.Status.TheVariants.{Done, Unsolved, Words, Input, Disk, Journal, Memory, Read, Write}
use Rattle.disk_journal.specs.declared.refusal.JournalRefusal.TheVariants as journal
use Rattle.draughts_board.specs.declared.pieces.Side.{Side}
use Rattle.draughts_board.specs.declared.pieces.Side.TheVariants.{Black, White}
use Rattle.draughts_board.specs.declared.pieces.Value.{Value}
use Rattle.draughts_board.specs.declared.pieces.Value.TheVariants.{BlackWins, WhiteWins}
use Rattle.draughts_board.specs.Board.{Board, other}
use Rattle.draughts_board.specs.Game.{Wins}
use Rattle.draughts_board.specs.Draughts.{draughts}
use Rattle.journal_looks.specs.Looks.{Certifies, ExplainsNoCertificate, HasNoCertificate, HasSettledRoot}
use Rattle.journal_looks.specs.declared.refusals.LookRefusal.{LookRefusal}
use Rattle.journal_looks.specs.declared.refusals.LookRefusal.TheVariants as look
use Rattle.opening_report.specs.declared.refusals.Refusal.{Refusal}
use Rattle.opening_report.specs.declared.refusals.Refusal.TheVariants as refusal
use Rattle.program_edges.specs.Answers.{TakesLine, TakesOutput}
use Rattle.program_edges.specs.Sources.{IsCutShort, IsInput}
use Rattle.strategy_certificate.specs.declared.certificates.Certificate.{Certificate}
use Rattle.strategy_player.specs.Texts.{WritesOut}
use Rattle.certificate_player.specs.Plays.{positions}
use Rattle.certificate_plays.specs.Plays.{StopsAt}
use Rattle.certificate_plays.specs.Refusals.{IsPlayFault}
use Rattle.certificate_plays.specs.declared.refusals.LineFault.{LineFault}
use Rattle.certificate_plays.specs.declared.refusals.LinesRefusal.{LinesRefusal}
use Rattle.strategy_player.specs.Refusals.{of_journal_look, of_play, play_status, play_text}
use Rattle.strategy_player.specs.Words.{IsRefusedAt, Says}
use Rattle.strategy_player.specs.declared.refusals.PlayRefusal.{PlayRefusal}
use Rattle.strategy_player.specs.declared.refusals.PlayRefusal.TheVariants.{Run, NotHeld}
use Rattle.strategy_player.specs.declared.running.TheConstants.{MOST_SOURCE_BYTES}

-- ---- statuses

-- the run came to what it has to write: it was written, or the sink failed at it
abbrev pub Reports : Status → Type 0
Reports Done = Unit {0}
Reports Write = Unit {0}
Reports status = ⊥

-- the run was refused
abbrev pub Refuses : Status → Type 0
Refuses Words = Unit {0}
Refuses Input = Unit {0}
Refuses Disk = Unit {0}
Refuses Journal = Unit {0}
Refuses Memory = Unit {0}
Refuses Read = Unit {0}
Refuses status = ⊥

-- A status for which no cause in what was given has to stand: the source or the disk failed, or
-- memory ran out.
abbrev pub is_excused : Status → Bool
is_excused Disk = true
is_excused Memory = true
is_excused Read = true
is_excused status = false

-- The run is refused so, unless its status is excused: its status is that of the refusal, and the sink
-- took its line.
abbrev pub IsRefusedFor : PlayRefusal → Option (List ℕ) → Option (List ℕ) → ℕ → ℕ → Status → Type 0
IsRefusedFor r before after faults_before faults_after status =
    OnFalse (is_excused status) ((play_status r ≡ status)
    × TakesLine (play_text r) before after faults_before faults_after)

-- the refusal says nothing of what was given: the disk failed, or memory ran out
abbrev pub says_nothing : PlayRefusal → Bool
says_nothing (Run refusal.Disk) = true
says_nothing (Run refusal.Memory) = true
says_nothing other = false

-- ---- roots

-- the value of a position that the side wins
abbrev pub won_by : Side → Value
won_by Black = BlackWins
won_by White = WhiteWins

-- the file's nth root has this value
abbrev pub HasRootWorth : List ℕ → ℕ → Value → Type 0
HasRootWorth file n v = (root : HasSettledRoot file n) × (root.value ≡ v)

-- the play of the side by a certificate is refused
pub record IsRefusedBy (c : Certificate) (side : Side) (source : List ℕ) (r : PlayRefusal) : Type 0 where
  pub cause : LinesRefusal
  pub fault : IsPlayFault c side source cause
  pub is : r ≡ of_play cause

-- No line is refused of a play of the side by any certificate of the file's nth root.
abbrev pub RefusesNoLine : List ℕ → ℕ → Side → List ℕ → Type 0
RefusesNoLine file n side source =
    (c : Certificate) → Certifies file n c
    → (line : ℕ) (p : Board) (fault : LineFault) → StopsAt c side source line p fault → ⊥

-- ---- of the disk at entry, and of the disk that is handed back

module _ {D : Type 0} (g : Ghosts D) where
  -- The text is that of a play of the side from the root that is asked, by a certificate of its value.
  pub record Shows (root : ℕ) (side : Side) (source : List ℕ) (old : D) (text : List ℕ) : Type 0 where
    pub certificate : Certificate
    pub certifies : IsHonest g.TELLS → Certifies (g.reads old) root certificate
    pub plays : WritesOut certificate side source text
    -- It goes from the root's position. Where the root's value is the side's win, the side wins each
    -- position of it.
    pub begins : IsHonest g.TELLS → (settled : HasSettledRoot (g.reads old) root)
        → plays.start ≡ settled.root.own.position
    pub wins : IsHonest g.TELLS → HasRootWorth (g.reads old) root (won_by side)
        → All (Wins draughts side) (positions plays.plays.end)

  -- the look at the journal is refused: the disk's faults rose, or what it reads as explains it
  pub record IsLookFault (root : ℕ) (old new : D) (r : PlayRefusal) : Type 0 where
    pub fault : LookRefusal
    pub is : r ≡ of_journal_look fault
    pub disk : fault ≡ look.Journal journal.DiskFault → Rose (g.faults old) (g.faults new)
    pub explained : IsHonest g.TELLS → ExplainsNoCertificate (g.reads old) root fault

  -- the play by a certificate of the root is refused
  pub record IsRootFault (root : ℕ) (side : Side) (source : List ℕ) (old : D) (r : PlayRefusal) : Type 0 where
    pub certificate : Certificate
    pub certifies : IsHonest g.TELLS → Certifies (g.reads old) root certificate
    pub why : IsRefusedBy certificate side source r

  abbrev pub IsRefusedRoot : ℕ → Side → List ℕ → D → D → PlayRefusal → Type 0
  IsRefusedRoot root side source old new r =
      IsLookFault root old new r ⊎ IsRootFault root side source old r

  -- Each cause is the answer where it stands, unless the disk failed or memory ran out: a file without
  -- a certificate of the root, and a root that the other side wins.
  pub record AnswersCauses {T : Type 0} (root : ℕ) (side : Side) (old : D)
      (answer : Result T PlayRefusal) : Type 0 where
    pub looked : IsHonest g.TELLS → (cause : LookRefusal) → HasNoCertificate (g.reads old) root cause
        → Unless says_nothing answer (answer ≡ Err (of_journal_look cause))
    pub lost : IsHonest g.TELLS → HasRootWorth (g.reads old) root (won_by (other side))
        → Unless says_nothing answer (answer ≡ Err (NotHeld side))

  -- A root with a value that is not the other side's win, and a source of which no line is refused,
  -- are not refused.
  abbrev pub AcceptsRoot : {T : Type 0} → ℕ → Side → List ℕ → D → Result T PlayRefusal → Type 0
  AcceptsRoot root side source old answer =
      IsHonest g.TELLS → (settled : HasSettledRoot (g.reads old) root)
      → (settled.value ≡ won_by (other side) → ⊥) → RefusesNoLine (g.reads old) root side source
      → IfErr answer (λ r. says_nothing r ≡ true)

  -- ---- why a run is refused

  -- the words ask for no play
  pub record IsRefusedWords (words : List (List ℕ)) (old new : D) (r : PlayRefusal) : Type 0 where
    pub at : ℕ
    pub is : r ≡ Run (refusal.Words at)
    pub refused_at : IsRefusedAt words at
    pub unused : new ≡ old

  -- the source failed, is too long, or memory ran out before it was read
  pub record IsRefusedSource (source rest : Option (List ℕ)) (read_before read_after : ℕ)
      (old new : D) (r : PlayRefusal) : Type 0 where
    pub cause : Refusal
    pub is : r ≡ Run cause
    pub cut : IsCutShort (Some MOST_SOURCE_BYTES) source rest read_before read_after cause
    pub unused : new ≡ old

  -- behind the source, which was read to its end, the root or the play is refused
  pub record IsRefusedPlay (root : ℕ) (side : Side) (source rest : Option (List ℕ))
      (read_before read_after : ℕ) (old new : D) (r : PlayRefusal) : Type 0 where
    pub input : List ℕ
    pub is_input : IsInput (Some MOST_SOURCE_BYTES) source input
    pub end : IsAtEnd rest
    pub counted : read_after ≡ read_before
    pub why : IsRefusedRoot root side input old new r

  abbrev pub IsRefusedRequest : List (List ℕ) → Option (List ℕ) → Option (List ℕ) → ℕ → ℕ → D → D
      → PlayRefusal → Type 0
  IsRefusedRequest words source rest before after old new r =
      (root : ℕ) × ((side : Side) × (Says words root side
      × (IsRefusedSource source rest before after old new r
      ⊎ IsRefusedPlay root side source rest before after old new r)))

  abbrev pub IsRefusal : List (List ℕ) → Option (List ℕ) → Option (List ℕ) → ℕ → ℕ → D → D
      → PlayRefusal → Type 0
  IsRefusal words source rest before after old new r =
      IsRefusedWords words old new r ⊎ IsRefusedRequest words source rest before after old new r

-- ---- a run

module _ {S K D : Type 0} (s : SourceGhosts S) (k : SinkGhosts K) (g : Ghosts D) where
  -- The run writes a play that the words ask for, against the whole source.
  pub record WritesPlay (words : List (List ℕ)) (source : S) (before after : K) (old : D)
      (status : Status) : Type 0 where
    pub root : ℕ
    pub side : Side
    pub says : Says words root side
    pub input : List ℕ
    pub is_input : IsInput (Some MOST_SOURCE_BYTES) (s.left source) input
    pub text : List ℕ
    pub shows : Shows g root side input old text
    pub taken : TakesOutput status text true (k.taken before) (k.taken after)

  -- The run is refused: there is a cause, the status is that of its refusal, and the sink took the
  -- line that says so.
  pub record IsRefusedRun (words : List (List ℕ)) (source rest : S) (before after : K) (old new : D)
      (status : Status) : Type 0 where
    pub refusal : PlayRefusal
    pub cause : IsRefusal g words (s.left source) (s.left rest) (s.faults source) (s.faults rest)
        old new refusal
    pub status_is : play_status refusal ≡ status
    pub line : TakesLine (play_text refusal) (k.taken before) (k.taken after) (k.faults before)
        (k.faults after)

  -- A run by the words, with this status. `source` and `rest` are its source before and behind it,
  -- `before` and `after` its sink, `old` and `new` its disk.
  pub record RunsPlay (words : List (List ℕ)) (source rest : S) (before after : K) (old new : D)
      (status : Status) : Type 0 where
    -- it writes the play, or is refused for a cause
    pub plays : Reports status → WritesPlay words source before after old status
    pub refused : Refuses status → IsRefusedRun words source rest before after old new status
    -- the journal is left as it was
    pub leaves : IsHonest g.TELLS → Stays g.reads g.images old new
    -- no play leaves anything unsolved
    pub solved : status ≢ Unsolved
    -- words that ask for a play are not refused, and others are
    pub asked : (status ≡ Words) ↔ ((root : ℕ) (side : Side) → ¬ Says words root side)
    -- A disk that gives no certificate of the root, and a root that the other side wins, are refused
    -- for that, where the source is within its limit.
    pub looked : (root : ℕ) (side : Side) → Says words root side → IsHonest g.TELLS
        → (cause : LookRefusal) → HasNoCertificate (g.reads old) root cause
        → IfSome (s.left source) (λ text. length text ≤ MOST_SOURCE_BYTES
        → IsRefusedFor (of_journal_look cause) (k.taken before) (k.taken after) (k.faults before)
        (k.faults after) status)
    pub lost : (root : ℕ) (side : Side) → Says words root side → IsHonest g.TELLS
        → HasRootWorth (g.reads old) root (won_by (other side))
        → IfSome (s.left source) (λ text. length text ≤ MOST_SOURCE_BYTES
        → IsRefusedFor (NotHeld side) (k.taken before) (k.taken after) (k.faults before)
        (k.faults after) status)
    -- A root with a value that is not the other side's win, and a source within its limit of which no
    -- line is refused, are not refused.
    pub accepted : (root : ℕ) (side : Side) → Says words root side → IsHonest g.TELLS
        → (settled : HasSettledRoot (g.reads old) root) → (settled.value ≡ won_by (other side) → ⊥)
        → IfSome (s.left source) (λ text. length text ≤ MOST_SOURCE_BYTES
        → RefusesNoLine (g.reads old) root side text → (status ≢ Input) × (status ≢ Journal))
    -- each failure shows in a count of faults
    pub read : status ≡ Read → Rose (s.faults source) (s.faults rest)
    pub write : status ≡ Write → Rose (k.faults before) (k.faults after)
    pub fault : status ≡ Disk → Rose (g.faults old) (g.faults new)
    -- what is left of the source: nothing behind a play, and all where the words ask for none
    pub all_read : Reports status → IsAtEnd (s.left rest)
    pub front : (root : ℕ) (side : Side) → Says words root side
        → ConsumesAtMost (MOST_SOURCE_BYTES + 1) (s.left source) (s.left rest)
    pub unread : status ≡ Words → (rest ≡ source) × (new ≡ old)

  -- What a run hands out beside its status: the refusal for which it is refused, and none where it
  -- came to what it has to write.
  pub record HandsOut (words : List (List ℕ)) (source rest : S) (before after : K) (old new : D)
      (status : Status) (handed : Option PlayRefusal) : Type 0 where
    pub refused : Refuses status → (why : IsRefusedRun words source rest before after old new status)
        × (handed ≡ Some why.refusal)
    pub reported : Reports status → handed ≡ None
