-- How a run ends, for which cause, and what it leaves.
use Rattle.std.specs.Prelude.{◌≡◌, ◌<◌, ℕ, ◌+◌, ◌^◌, ◌⊎◌, Bool, List, Option, None, IfSome, IsSome, Contains}
use Rattle.std.specs.Io.KnownBytes.{Appends, IsAtEnd}
use Rattle.bench_disk.specs.declared.disk.Disk.{Ghosts}
use Rattle.draughts_board.specs.Board.{Board, IsLawful}
use Rattle.bench_edges.specs.KnownBytes.{ConsumesAtMost}
use Rattle.bench_edges.specs.Words.{Says, IsRefusedAt}
use Rattle.bench_edges.specs.declared.status.Status.{Status}
use Rattle.bench_edges.specs.declared.status.Status.TheVariants.{Done, Unsolved, Words, Input, Disk, Journal, Memory, Read, Write}
use Rattle.bench_edges.specs.declared.words.Command.{Command}
use Rattle.bench_edges.specs.declared.words.Command.TheVariants.{Solve}
use Rattle.bench_edges.specs.declared.words.Options.{Options}
use Rattle.pdn_openings.specs.declared.opening.Opening.{Opening}
use Rattle.opening_report.specs.declared.refusals.Refusal.{Refusal}
use Rattle.opening_report.specs.declared.refusals.Refusal.TheVariants as refusal
use Rattle.journal_runs.specs.Ample.{ShowsValue}
use Rattle.opening_report.specs.Lines.{HasLine}
use Rattle.opening_report.specs.Report.{root_line}
use Rattle.opening_report.specs.Refusals.{refusal_text}
use Rattle.program_edges.specs.Answers.{TakesLine, TakesOutput}
use Rattle.program_edges.specs.Sources.{IsCutShort, IsInput}
use Rattle.program_edges.specs.Statuses.{status_of}
use Rattle.bench_commands.specs.Commands.{source_limit, Answers, HasFault}
use Rattle.bench_commands.specs.Disks.{ShowsDisk, HasDiskFault}
use Rattle.bench_commands.specs.Lines.{StandsInOneLine}
use Rattle.bench_commands.specs.Solving.{OpeningsOf}

-- ---- statuses

-- the run came to what it has to write: it was written, or the sink failed at it
abbrev pub Reports : Status → Type 0
Reports Done = Unit {0}
Reports Unsolved = Unit {0}
Reports Words = ⊥
Reports Input = ⊥
Reports Disk = ⊥
Reports Journal = ⊥
Reports Memory = ⊥
Reports Read = ⊥
Reports Write = Unit {0}

-- the whole of it was written
abbrev pub Finishes : Status → Type 0
Finishes Done = Unit {0}
Finishes Unsolved = Unit {0}
Finishes Words = ⊥
Finishes Input = ⊥
Finishes Disk = ⊥
Finishes Journal = ⊥
Finishes Memory = ⊥
Finishes Read = ⊥
Finishes Write = ⊥

-- the run was refused
abbrev pub Refuses : Status → Type 0
Refuses Done = ⊥
Refuses Unsolved = ⊥
Refuses Words = Unit {0}
Refuses Input = Unit {0}
Refuses Disk = Unit {0}
Refuses Journal = Unit {0}
Refuses Memory = Unit {0}
Refuses Read = Unit {0}
Refuses Write = ⊥

-- the run came behind its source: to what it has to write, or to a refusal by the disk
abbrev pub ComesToDisk : Status → Type 0
ComesToDisk Done = Unit {0}
ComesToDisk Unsolved = Unit {0}
ComesToDisk Words = ⊥
ComesToDisk Input = ⊥
ComesToDisk Disk = Unit {0}
ComesToDisk Journal = Unit {0}
ComesToDisk Memory = ⊥
ComesToDisk Read = ⊥
ComesToDisk Write = Unit {0}

-- a refusal that comes before the disk is used: of the words, or of the source
abbrev pub ComesBeforeDisk : Refusal → Type 0
ComesBeforeDisk (refusal.Words at) = Unit {0}
ComesBeforeDisk refusal.TooLong = Unit {0}
ComesBeforeDisk (refusal.PdnBadByte at) = Unit {0}
ComesBeforeDisk (refusal.PdnOpenTag at) = Unit {0}
ComesBeforeDisk (refusal.PdnOpenComment at) = Unit {0}
ComesBeforeDisk (refusal.PdnOpenVariation at) = Unit {0}
ComesBeforeDisk (refusal.PdnBadMove at) = Unit {0}
ComesBeforeDisk refusal.PdnTooManyGames = Unit {0}
ComesBeforeDisk (refusal.OtherGame game) = Unit {0}
ComesBeforeDisk (refusal.Fen game fault) = Unit {0}
ComesBeforeDisk (refusal.Illegal game ply at) = Unit {0}
ComesBeforeDisk (refusal.Ambiguous game ply at) = Unit {0}
ComesBeforeDisk (refusal.TextBadLine n) = Unit {0}
ComesBeforeDisk (refusal.TextBadFen n) = Unit {0}
ComesBeforeDisk (refusal.TextDoubled n) = Unit {0}
ComesBeforeDisk (refusal.TextAfterEnd n) = Unit {0}
ComesBeforeDisk refusal.TextTruncated = Unit {0}
ComesBeforeDisk refusal.ClaimNotMet = Unit {0}
ComesBeforeDisk (refusal.BadRank part entry) = Unit {0}
ComesBeforeDisk (refusal.BadMove part entry) = Unit {0}
ComesBeforeDisk (refusal.Missing part entry) = Unit {0}
ComesBeforeDisk (refusal.StuckHolder part entry) = Unit {0}
ComesBeforeDisk (refusal.CheckNoRoot part) = Unit {0}
ComesBeforeDisk refusal.TableBadHead = Unit {0}
ComesBeforeDisk (refusal.TableWrongLength found due) = Unit {0}
ComesBeforeDisk (refusal.TableBadEntry index kept) = Unit {0}
ComesBeforeDisk refusal.TooManyRoots = ⊥
ComesBeforeDisk (refusal.NoRoot n) = ⊥
ComesBeforeDisk (refusal.UnsettledRoot n) = ⊥
ComesBeforeDisk (refusal.RootExpanded n) = ⊥
ComesBeforeDisk refusal.Disk = ⊥
ComesBeforeDisk refusal.NotAJournal = ⊥
ComesBeforeDisk (refusal.OtherTable found asked) = ⊥
ComesBeforeDisk (refusal.Damaged at) = ⊥
ComesBeforeDisk refusal.Memory = ⊥
ComesBeforeDisk refusal.Read = Unit {0}

-- ---- what a sink takes

-- what the sink took in this run: what it has besides what it had
abbrev pub WritesOnly : Option (List ℕ) → Option (List ℕ) → (List ℕ → Type 0) → Type 0
WritesOnly before after P = (written : List ℕ) × (Appends before after written × P written)

-- ---- what a run does

-- the command reads a source
abbrev pub ReadsSource : Command → Type 0
ReadsSource command = IsSome (source_limit command)

-- Each position of the openings of the source of `solve` stands in exactly one `root` line.
abbrev pub HoldsOpenings : Command → Option (List ℕ) → List ℕ → Type 0
HoldsOpenings command source written =
    (options : Options) → command ≡ Solve options
    → IfSome source (λ text. (openings : List Opening) → OpeningsOf options.plies text openings
    → (opening : Opening) → Contains openings opening → StandsInOneLine written opening.position)

-- Where looking so far ahead with tables of k pieces shows a value of a position, no whole line of the
-- text says `root N F unsolved` of it.
abbrev pub SettlesAllShown : ℕ → ℕ → List ℕ → Type 0
SettlesAllShown k depth text =
    (n : ℕ) (p : Board) → n < 2 ^ 64 → IsLawful p → HasLine text (root_line n p None)
    → ¬ ShowsValue k depth p

-- ---- why a run is refused

-- A fault of the source stands, which is no longer than may be and was read to its end. No fault of
-- reading was counted.
pub record IsWrong (command : Command) (source rest : Option (List ℕ)) (before after : ℕ)
    (r : Refusal) : Type 0 where
  pub input : List ℕ
  pub is_input : IsInput (source_limit command) source input
  pub fault : HasFault command input r
  pub end : IsAtEnd rest
  pub counted : after ≡ before

-- Of its source the command took no more than may be, and one byte.
abbrev pub TakesAtMost : Command → Option (List ℕ) → Option (List ℕ) → Type 0
TakesAtMost command source rest =
    IfSome (source_limit command) (λ limit. ConsumesAtMost (limit + 1) source rest)

-- Why a run is refused, by its cause: there is one, the status is that of the refusal, the one line
-- that it writes says so, and where the disk was not used it is handed back as it was.
pub record IsRefused {D : Type 0} (IsCause : Refusal → Type 0) (old new : D)
    (before after : Option (List ℕ)) (written_before written_after : ℕ) (status : Status)
    : Type 0 where
  pub refusal : Refusal
  pub cause : IsCause refusal
  pub status_is : status_of refusal ≡ status
  pub line : TakesLine (refusal_text refusal) before after written_before written_after
  pub unused : ComesBeforeDisk refusal → new ≡ old

-- ---- of the disk at entry, and of the disk that is handed back

module _ {D : Type 0} (g : Ghosts D) where
  -- What a run does that comes to what it has to write: it writes a text that answers its source
  -- and shows what is on its disk.
  pub record Does (command : Command) (source before after : Option (List ℕ)) (old new : D)
      (status : Status) : Type 0 where
    pub input : List ℕ
    pub is_input : IsInput (source_limit command) source input
    pub text : List ℕ
    pub settled : Bool
    pub answers : Answers command input text settled
    pub shows : ShowsDisk g
        command input old new text settled
    pub taken : TakesOutput status text settled before after

  -- The disk refuses a command whose source, if it reads one, was read to its end. No fault of
  -- reading was counted.
  pub record IsRefusedByDisk (command : Command) (source rest : Option (List ℕ))
      (before after : ℕ) (old new : D) (r : Refusal) : Type 0 where
    pub input : List ℕ
    pub is_input : IsInput (source_limit command) source input
    pub fault : HasDiskFault g command input old new r
    pub end : ReadsSource command → IsAtEnd rest
    pub counted : after ≡ before

  -- Why a command is refused: its run was cut short, its source is wrong, or its disk refuses it.
  abbrev pub IsCommandRefusal : Command → Option (List ℕ) → Option (List ℕ) → ℕ → ℕ → D → D
      → Refusal → Type 0
  IsCommandRefusal command source rest before after old new r =
      IsCutShort (source_limit command) source rest before after r
      ⊎ (IsWrong command source rest before after r
      ⊎ IsRefusedByDisk command source rest before after old new r)

  -- .. by the words: they are not in the grammar, or their command is refused
  abbrev pub IsRefusalByWords : List (List ℕ) → Option (List ℕ) → Option (List ℕ) → ℕ → ℕ → D → D
      → Refusal → Type 0
  IsRefusalByWords words source rest before after old new r =
      ((at : ℕ) × ((r ≡ refusal.Words at) × IsRefusedAt words at))
      ⊎ ((command : Command) × (Says words command
      × IsCommandRefusal command source rest before after old new r))
