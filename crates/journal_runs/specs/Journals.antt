-- What a run leaves of the journal on its disk, and what it writes of it. Tables are of a given
-- number of pieces.
use Rattle.std.specs.Prelude.{◌≡◌, ◌≤◌, ◌<◌, ◌⊎◌, ◌+◌, ℕ, Bool, true, false, List, ◌++◌, count_by, is_some, length, Contains}
use Rattle.std.specs.Bool.{OnFalse}
use Rattle.std.specs.List.{list_all, AllByRecursion as Each}
use Rattle.bench_disk.specs.declared.disk.Disk.{Ghosts}
use Rattle.bench_disk.specs.Disk.{IsHonest, NothingPending, Stays}
use Rattle.shared_words.specs.Counts.{Rose}
use Rattle.disk_journal.specs.Refusals.{Explains, says_nothing_of_file}
use Rattle.disk_journal.specs.declared.refusal.JournalRefusal.{JournalRefusal}
use Rattle.draughts_board.specs.Board.{Board}
use Rattle.proof_tree.specs.Forest.{Forest, nodes}
use Rattle.proof_tree.specs.Sound.{root_positions}
use Rattle.bench_records.specs.declared.records.BenchRecord.{BenchRecord}
use Rattle.bench_core.specs.Records.{is_work, begun}
use Rattle.bench_core.specs.Growing.{IsForestOf}
use Rattle.bench_core.specs.States.{are_settled}
use Rattle.opening_report.specs.declared.roots.Root.{Root}
use Rattle.opening_report.specs.Lines.{IsLine}
use Rattle.opening_report.specs.Report.{report_of, summary_line, forest_roots, AreTrueRoots, AreApart}
use Rattle.tree_manager.specs.Receipts.{ReadsRecords, ReadsBetween}
use Rattle.tree_manager.specs.Replaying.{ExplainsReplay}
use Rattle.tree_manager.specs.Sessions.{session_budget, with_roots}
use Rattle.journal_runs.specs.declared.refusals.RunRefusal.{RunRefusal}
use Rattle.journal_runs.specs.declared.refusals.RunRefusal.TheVariants as refusal
use Rattle.journal_runs.specs.declared.runs.Account.{Account}
use Rattle.journal_runs.specs.declared.runs.Account.TheVariants.{Report, Summary}
use Rattle.journal_runs.specs.Ample.{IsAmple, IsReached, IsRoomForEach}
use Rattle.proof_tree.specs.declared.tree.TheConstants.{MOST_ROOTS}

-- ---- what is left of the disk

-- of the disk at entry, and of the disk that is handed back
module _ {D : Type 0} (g : Ghosts D) where
  -- A crash since the opening sync, or one straight behind the run, may leave this image.
  abbrev pub MayLeave : D → D → List ℕ → Type 0
  MayLeave old new image = g.images_since new (g.moment old + 1) image ⊎ g.images new image

  -- Each such image reads as the records of before and the first few of those beyond them.
  abbrev pub Recovers : ℕ → List BenchRecord → List BenchRecord → D → D → Type 0
  Recovers pieces before most old new =
      (image : List ℕ) → MayLeave old new image → ReadsBetween pieces before most image

  -- However a run ends: what the disk read as is recovered, a disk that read as no such journal
  -- stays, and nothing is pending, unless faults rose.
  pub record KeepsJournal (pieces : ℕ) (old new : D) : Type 0 where
    pub recovers : (before : List BenchRecord) → ReadsRecords pieces (g.reads old) before
        → (most : List BenchRecord) × Recovers pieces before most old new
    pub unread : ((before : List BenchRecord) → ¬ ReadsRecords pieces (g.reads old) before)
        → Stays g.reads g.images old new
    pub settled : NothingPending (g.reads new) (g.images new) ⊎ Rose (g.faults old) (g.faults new)

  -- A run that makes no call of the disk leaves it as it was, and one that begins with nothing
  -- pending keeps the journal.
  abbrev pub LeavesJournal : ℕ → D → D → Type 0
  LeavesJournal pieces old new =
      (new ≡ old)
      ⊎ (IsHonest g.TELLS → NothingPending (g.reads old) (g.images old)
      → KeepsJournal pieces old new)

  -- ---- a run that comes to its output

  -- Each root is settled, or the budget is spent: the run has added that many work records.
  abbrev pub SettlesOrSpends : ℕ → List BenchRecord → List BenchRecord → Forest → Bool → Type 0
  SettlesOrSpends budget before added roots true = are_settled roots ≡ true
  SettlesOrSpends budget before added roots false =
      (are_settled roots ≡ false) × (session_budget budget before ≤ count_by is_work added)

  -- The run went on from the records of before, and the journal reads as these and those that it
  -- added. The text is that of their forest, whose roots are the old ones and then the positions
  -- that were none. An ample budget settles every root. With room for a search of each root, each that
  -- looking ahead shows has its value, whatever the others are.
  pub record Resumes (text_of : Forest → List ℕ) (pieces depth budget lease : ℕ)
      (positions : List Board) (old new : D) (text : List ℕ) (is_settled : Bool) : Type 0 where
    pub before : List BenchRecord
    pub added : List BenchRecord
    pub read_then : ReadsRecords pieces (g.reads old) before
    pub reads_now : ReadsRecords pieces (g.reads new) (before ++ added)
    pub roots : Forest
    pub grown : IsForestOf pieces (before ++ added) roots
    pub text_is : text ≡ text_of roots
    pub roots_are : root_positions roots ≡ with_roots (begun before) positions
    pub crash : Recovers pieces before (before ++ added) old new
    pub ends : SettlesOrSpends budget before added roots is_settled
    pub ample : IsAmple pieces depth budget positions before → is_settled ≡ true
    pub reached : IsRoomForEach pieces budget lease positions before
        → Each (IsReached pieces depth) (nodes roots)

-- The text is the report of roots, each with no value but the true one; and every root has one, or
-- (false) some root has none. Each of the positions is one of them, and no position is two of them.
pub record ReportsTruth (positions : List Board) (text : List ℕ) (is_settled : Bool) : Type 0 where
  pub roots : List Root
  pub few : length roots ≤ MOST_ROOTS
  pub true_values : AreTrueRoots roots
  pub text_is : text ≡ report_of roots
  pub settled_is : is_settled ≡ list_all (λ r. is_some r.value) roots
  pub each : (p : Board) → Contains positions p
      → (r : Root) × (Contains roots r × (r.position ≡ p))
  pub apart : AreApart roots

-- .. the one line that counts such roots.
pub record CountsRoots (positions : List Board) (text : List ℕ) (is_settled : Bool) : Type 0 where
  pub roots : List Root
  pub true_values : AreTrueRoots roots
  pub text_is : text ≡ summary_line roots
  pub settled_is : is_settled ≡ list_all (λ r. is_some r.value) roots
  pub line : IsLine text
  pub each : (p : Board) → Contains positions p
      → (r : Root) × (Contains roots r × (r.position ≡ p))
  pub apart : AreApart roots

-- the text of a forest's roots, by the account that is asked for
abbrev pub account_of : Account → Forest → List ℕ
account_of Report roots = report_of (forest_roots roots)
account_of Summary roots = summary_line (forest_roots roots)

-- what such a text shows of the positions, whatever the disk tells
abbrev pub IsTrueAccount : Account → List Board → List ℕ → Bool → Type 0
IsTrueAccount Report positions text is_settled = ReportsTruth positions text is_settled
IsTrueAccount Summary positions text is_settled = CountsRoots positions text is_settled

-- ---- why a run is refused

-- The file reads as no records for tables of this number of pieces, and this is a cause: of the journal, or
-- of a payload.
pub record IsUnreadFor (pieces : ℕ) (file : List ℕ) (cause : JournalRefusal) : Type 0 where
  pub stands : Explains file pieces cause ⊎ ExplainsReplay file pieces cause
  pub unread : (before : List BenchRecord) → ¬ ReadsRecords pieces file before

-- Of what the disk read as: it was no journal for the table, unless the refusal says nothing of the
-- file; or it was one, and there would be too many roots.
abbrev pub IsCaused : ℕ → List Board → List ℕ → RunRefusal → Type 0
IsCaused pieces positions file (refusal.Journal cause) =
    OnFalse (says_nothing_of_file cause) (IsUnreadFor pieces file cause)
IsCaused pieces positions file refusal.TooManyRoots =
    (before : List BenchRecord) × (ReadsRecords pieces file before
    × (MOST_ROOTS < length (with_roots (begun before) positions)))
