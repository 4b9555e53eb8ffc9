-- The clauses of a run, each said once: of a run by its command, of one by its words, which are those
-- of `bench`, and of how it ended.
use Rattle.std.specs.Prelude.{◌≡◌, ◌≢◌, ◌⊎◌, ◌↔◌, ℕ, ◌≤◌, List, [], length, Option, None, Some, IfSome, Result, Ok, IfOk, IfErr}
use Rattle.std.specs.Io.KnownBytes.{IsAtEnd}
use Rattle.bench_disk.specs.declared.disk.Disk.{Ghosts}
use Rattle.shared_words.specs.Counts.{Rose}
use Rattle.bench_disk.specs.Disk.{IsHonest}
use Rattle.bench_edges.specs.Words.{IsRefusedAt, Says}
use Rattle.bench_edges.specs.declared.sink.Sink.{Ghosts as SinkGhosts}
use Rattle.bench_edges.specs.declared.source.Source.{Ghosts as SourceGhosts}
use Rattle.bench_edges.specs.declared.status.Status.{Status}
use Rattle.bench_edges.specs.declared.status.Status.TheVariants.{Unsolved, Words, Disk, Read, Write}
use Rattle.bench_edges.specs.declared.words.Command.{Command}
use Rattle.bench_edges.specs.declared.words.Command.TheVariants.{Solve, Report, Certify, Verify, Learn, MakeTable, TableCheck, Generate}
use Rattle.bench_edges.specs.declared.words.Options.{Options}
use Rattle.bench_edges.specs.declared.words.WordsRefusal.{WordsRefusal}
use Rattle.bench_records.specs.declared.records.BenchRecord.{BenchRecord}
use Rattle.capture_positions.specs.Walk.{openings_from}
use Rattle.certificate_text.specs.Text.{ReadsAs}
use Rattle.endgame_table.specs.Bytes.{bytes_of}
use Rattle.endgame_table.specs.Entries.{IsTable}
use Rattle.journal_lessons.specs.Conversions.{of_lesson}
use Rattle.journal_looks.specs.Conversions.{of_look}
use Rattle.journal_looks.specs.Looks.{HasSettledRoot}
use Rattle.journal_looks.specs.declared.refusals.LookRefusal.{LookRefusal}
use Rattle.pdn_openings.specs.declared.opening.Opening.{Opening}
use Rattle.strategy_certificate.specs.Certificates.{IsGood}
use Rattle.strategy_certificate.specs.declared.certificates.Certificate.{Certificate}
use Rattle.tree_manager.specs.Receipts.{ReadsRecords}
use Rattle.opening_report.specs.Report.{ValuesAreTrue}
use Rattle.opening_report.specs.declared.refusals.Refusal.{Refusal}
use Rattle.bench_commands.specs.Accepted.{Accepts, HasAmpleBudget, HasAsked, HasLookCause, HasRoom, HasRoomToSearch, IsRefusedFor, IsUnrefused, MayLearn, Teaches}
use Rattle.bench_commands.specs.Bench.{ComesToDisk, Does, Finishes, HoldsOpenings, IsCommandRefusal, IsRefusalByWords, IsRefused, ReadsSource, Refuses, Reports, SettlesAllShown, TakesAtMost, WritesOnly}
use Rattle.bench_commands.specs.Commands.{source_limit}
use Rattle.bench_commands.specs.Disks.{LeavesDisk}
use Rattle.bench_commands.specs.Solving.{OpeningsOf, roots_of_openings}
use Rattle.bench_commands.specs.declared.commands.generate.TheConstants.{GENERATE_DEPTH, GENERATE_PIECES}
use Rattle.program_edges.specs.declared.sources.TheConstants.{MOST_GAMES_BYTES}
use Rattle.bench_commands.specs.declared.commands.verify.TheConstants.{MOST_CERTIFICATE_BYTES}

-- ---- by the command

-- of the disk at entry, and of the disk that is handed back
module _ {D : Type 0} (g : Ghosts D) where
  -- A run of a command, with this status. `source` and `rest` are what its source held and holds,
  -- `before` and `after` what its sink had taken and has, each with the faults that it had counted
  -- and has; `old` and `new` are the disk.
  pub record RunsCommand (command : Command) (source rest : Option (List ℕ))
      (read_before read_after : ℕ) (before after : Option (List ℕ))
      (written_before written_after : ℕ) (old new : D) (status : Status) : Type 0 where
    -- every value that is written is true, whatever the disk tells
    pub values : WritesOnly before after ValuesAreTrue
    -- written whole, it has each position of the source's openings in exactly one root line
    pub openings : Finishes status → WritesOnly before after (HoldsOpenings command source)
    -- what the run does and shows of the journal, or why it was refused
    pub does : Reports status → Does g
        command source before after old new status
    pub refused : Refuses status → IsRefused
        (IsCommandRefusal g
        command source rest read_before read_after old new)
        old new before after written_before written_after status
    -- what is left of the disk, however the run ends
    pub leaves : LeavesDisk g command source old new
    -- words that say a command are not refused
    pub words : status ≢ Words
    -- a good source, for which the disk has room, is not refused as bad input or as no journal;
    -- nor is a command that reads none, where the disk has what it asks
    pub accepted : Accepts g command source old status
    pub asked : HasAsked g command old → IsUnrefused status
    -- a look at a disk that has a cause to refuse it is refused for that
    pub looked : IsHonest g.TELLS → (cause : LookRefusal) → HasLookCause command (g.reads old) cause
        → IsRefusedFor (of_look cause) before after written_before written_after status
    -- a good certificate that a disk has a cause not to learn is refused for that, if it was read
    pub taught : IsHonest g.TELLS → Teaches command source (g.reads old) (λ cause. (status ≡ Read)
        ⊎ IsRefusedFor (of_lesson cause) before after written_before written_after status)
    -- each failure shows in a count of faults
    pub read : status ≡ Read → Rose read_before read_after
    pub write : status ≡ Write → Rose written_before written_after
    pub fault : status ≡ Disk → Rose (g.faults old) (g.faults new)
    -- what is left of the source, and how much is taken of it at most
    pub all_read : ComesToDisk status → ReadsSource command → IsAtEnd rest
    pub front : TakesAtMost command source rest

-- ---- by the words

-- What `read_words` makes of a command line: the one command that it says, or the place at which it
-- is refused.
pub record IsReadingOf (command_line : List (List ℕ)) (said : Result Command WordsRefusal)
    : Type 0 where
  pub says : IfOk said (Says command_line)
  pub each_command : (command : Command) → Says command_line command → said ≡ Ok command
  pub refused : IfErr said (λ refusal. IsRefusedAt command_line refusal.at)

module _ {S K D : Type 0} (s : SourceGhosts S) (k : SinkGhosts K) (g : Ghosts D) where
  -- A run by the words of this command line, with this status: the clauses of `bench`, in its order.
  -- `source` and `rest` are its source before and behind it, `before` and `after` its sink, `old` and
  -- `new` its disk.
  pub record RunsWords (command_line : List (List ℕ)) (source rest : S) (before after : K)
      (old new : D) (status : Status) : Type 0 where
    pub values : WritesOnly (k.taken before) (k.taken after) ValuesAreTrue
    pub openings : (command : Command) → Says command_line command → Finishes status
        → WritesOnly (k.taken before) (k.taken after) (HoldsOpenings command (s.left source))
    pub does : Reports status → (command : Command) × (Says command_line command
        × Does g command (s.left source) (k.taken before) (k.taken after) old new status)
    pub refused : Refuses status → IsRefused
        (IsRefusalByWords g command_line (s.left source) (s.left rest) (s.faults source)
        (s.faults rest) old new)
        old new (k.taken before) (k.taken after) (k.faults before) (k.faults after) status
    pub leaves : (command : Command) → Says command_line command
        → LeavesDisk g command (s.left source) old new
    pub unused : status ≡ Words → new ≡ old
    pub words : (status ≡ Words) ↔ ((command : Command) → ¬ Says command_line command)
    pub accepted : (options : Options) → Says command_line (Solve options)
        → IfSome (s.left source) (λ text. length text ≤ MOST_GAMES_BYTES
        → (all : List Opening) → OpeningsOf options.plies text all
        → HasRoom g options.pieces (roots_of_openings all) old → IsUnrefused status)
    pub ample : (options : Options) → Says command_line (Solve options)
        → IfSome (s.left source) (λ text. (all : List Opening) → OpeningsOf options.plies text all
        → HasAmpleBudget g options.pieces options.depth options.budget
        (roots_of_openings all) old → status ≢ Unsolved)
    pub reached : (options : Options) → Says command_line (Solve options)
        → IfSome (s.left source) (λ text. (all : List Opening) → OpeningsOf options.plies text all
        → HasRoomToSearch g options.pieces options.budget options.lease (roots_of_openings all) old
        → Finishes status → WritesOnly (k.taken before) (k.taken after)
        (SettlesAllShown options.pieces options.depth))
    pub accepted_generated : (seed count : ℕ) → Says command_line (Generate seed count)
        → HasRoom g GENERATE_PIECES (openings_from seed count) old → IsUnrefused status
    pub ample_generated : (seed count : ℕ) → Says command_line (Generate seed count)
        → HasAmpleBudget g GENERATE_PIECES GENERATE_DEPTH count (openings_from seed count) old
        → status ≢ Unsolved
    pub settled_generated : (seed count : ℕ) → Says command_line (Generate seed count)
        → IsHonest g.TELLS → ReadsRecords GENERATE_PIECES (g.reads old) []
        → IsUnrefused status × (status ≢ Unsolved)
    pub accepted_certificates : Says command_line Verify
        → IfSome (s.left source) (λ bytes. length bytes ≤ MOST_CERTIFICATE_BYTES
        → (c : Certificate) → IsGood c → ReadsAs bytes c → IsUnrefused status)
    pub accepted_tables : Says command_line TableCheck
        → IfSome (s.left source) (λ bytes. (pieces : ℕ) (numbers : List ℕ)
        → IsTable pieces numbers → bytes ≡ bytes_of pieces numbers → IsUnrefused status)
    pub accepted_reports : Says command_line Report → IsHonest g.TELLS
        → (pieces : ℕ) (records : List BenchRecord) → ReadsRecords pieces (g.reads old) records
        → IsUnrefused status
    pub accepted_roots : (root : ℕ) → Says command_line (Certify root) → IsHonest g.TELLS
        → HasSettledRoot (g.reads old) root → IsUnrefused status
    pub accepted_pieces : (pieces : ℕ) → Says command_line (MakeTable pieces) → IsUnrefused status
    pub looked : IsHonest g.TELLS → (command : Command) → Says command_line command
        → (cause : LookRefusal) → HasLookCause command (g.reads old) cause
        → IsRefusedFor (of_look cause) (k.taken before) (k.taken after) (k.faults before)
        (k.faults after) status
    pub accepted_lessons : Says command_line Learn
        → IfSome (s.left source) (λ bytes. length bytes ≤ MOST_CERTIFICATE_BYTES
        → (c : Certificate) → IsGood c → ReadsAs bytes c → MayLearn g c old → IsUnrefused status)
    pub taught : IsHonest g.TELLS → Says command_line Learn
        → Teaches Learn (s.left source) (g.reads old) (λ cause. (status ≡ Read)
        ⊎ IsRefusedFor (of_lesson cause) (k.taken before) (k.taken after) (k.faults before)
        (k.faults after) status)
    pub read : status ≡ Read → Rose (s.faults source) (s.faults rest)
    pub write : status ≡ Write → Rose (k.faults before) (k.faults after)
    pub fault : status ≡ Disk → Rose (g.faults old) (g.faults new)
    pub all_read : ComesToDisk status → (command : Command) → Says command_line command
        → ReadsSource command → IsAtEnd (s.left rest)
    pub front : (command : Command) → Says command_line command
        → TakesAtMost command (s.left source) (s.left rest)
    pub unread : (command : Command) → Says command_line command → source_limit command ≡ None
        → rest ≡ source
    pub unread_by_words : status ≡ Words → rest ≡ source

-- ---- how it ended

-- What a run hands out beside its status: the refusal for which it is refused, and none where it
-- came to what it has to write.
pub record HandsOut {D : Type 0} (IsCause : Refusal → Type 0) (old new : D)
    (before after : Option (List ℕ)) (written_before written_after : ℕ) (status : Status)
    (handed : Option Refusal) : Type 0 where
  pub refused : Refuses status
      → (why : IsRefused IsCause old new before after written_before written_after status)
      × (handed ≡ Some why.refusal)
  pub reported : Reports status → handed ≡ None
