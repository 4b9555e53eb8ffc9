-- What is shown of a journal, and why it is not.
use Rattle.std.specs.Prelude.{◌≡◌, ◌++◌, ℕ, List, map, Bool, true, false, Option, unwrap_or}
use Rattle.std.specs.Bool.{OnFalse}
use Rattle.std.specs.declared.alloc.AllocError.{AllocError}
use Rattle.bench_core.specs.Growing.{IsForestOf}
use Rattle.bench_core.specs.States.{are_settled}
use Rattle.bench_disk.specs.declared.disk.Disk.{Ghosts}
use Rattle.bench_disk.specs.Disk.{IsHonest}
use Rattle.bench_records.specs.declared.records.BenchRecord.{BenchRecord}
use Rattle.certificate_joiner.specs.Certified.{claim_for}
use Rattle.certificate_lines.specs.Lines.{IsLineOf}
use Rattle.certificate_lines.specs.Variations.{Varies}
use Rattle.certificate_lines.specs.declared.variations.Variation.{Variation}
use Rattle.disk_journal.specs.declared.refusal.JournalRefusal.TheVariants as journal
use Rattle.draughts_board.specs.Board.{Board}
use Rattle.journal_looks.specs.Looks.{Certifies, HasForest, HasNoCertificate, HasNoReport, HasSettledRoot}
use Rattle.journal_looks.specs.Looks as looks
use Rattle.journal_looks.specs.declared.refusals.LookRefusal.{LookRefusal}
use Rattle.journal_looks.specs.declared.refusals.LookRefusal.TheVariants as look
use Rattle.journal_pages.specs.Json.{json_roots}
use Rattle.journal_pages.specs.LineTexts.{line_text}
use Rattle.journal_pages.specs.Roots.{row_lines, row_of}
use Rattle.opened_games.specs.Opened.{Opened}
use Rattle.opening_report.specs.Report.{AreTrueRoots, forest_roots, summary_line}
use Rattle.opening_report.specs.declared.refusals.Refusal.{Refusal}
use Rattle.opening_report.specs.declared.refusals.Refusal.TheVariants as refusal
use Rattle.proof_tree.specs.Forest.{Forest, nodes}
use Rattle.record_texts.specs.Lists.{records_text}
use Rattle.strategy_certificate.specs.Certificates.{IsGood}
use Rattle.strategy_certificate.specs.declared.certificates.Certificate.{Certificate}
use Rattle.tree_manager.specs.Receipts.{ReadsRecords}
use Rattle.journal_view.specs.declared.lines.TheConstants.{DRAWN_PLIES}
use Rattle.journal_view.specs.Pages.{HasNoPage, HasPage, IsTruePage, ShowsPageOf}
use Rattle.journal_view.specs.Trees.{HasNoTree, HasRoot, IsTrueTree, ShowsTreeOf}
use Rattle.view_words.specs.declared.requests.Request.{Request}
use Rattle.view_words.specs.declared.requests.Request.TheVariants.{Roots, Line, Tree, Page, Records}

-- ---- roots

-- the roots of a forest, with the games that lead to each: as JSON, or as lines behind which the last line
-- of its report stands
abbrev pub roots_text : Opened → Bool → Forest → List ℕ
roots_text opened true roots = json_roots opened (map row_of (nodes roots))
roots_text opened false roots =
    row_lines opened 1 (map row_of (nodes roots)) ++ summary_line (forest_roots roots)

-- The text shows the roots of what the file reads as, with these games; and every root is settled, or
-- (false) some is not.
pub record ShowsRoots (opened : Opened) (file : List ℕ) (json : Bool) (text : List ℕ) (settled : Bool)
    : Type 0 where
  pub pieces : ℕ
  pub roots : Forest
  pub has : HasForest pieces file roots
  pub text_is : text ≡ roots_text opened json roots
  pub settled_is : settled ≡ are_settled roots

-- whatever the disk tells, the values in the text are true
pub record IsTrueView (opened : Opened) (json : Bool) (text : List ℕ) : Type 0 where
  pub roots : Forest
  pub text_is : text ≡ roots_text opened json roots
  pub values : AreTrueRoots (forest_roots roots)

-- ---- records

-- The text shows the records that the file reads as.
pub record ShowsRecords (file : List ℕ) (json : Bool) (text : List ℕ) : Type 0 where
  pub pieces : ℕ
  pub roots : Forest
  pub has : HasForest pieces file roots
  pub text_is : text ≡ records_text json roots has.records

-- whatever the disk tells, the text shows records that are lawful in turn, so what they show is true
pub record IsTrueList (json : Bool) (text : List ℕ) : Type 0 where
  pub pieces : ℕ
  pub records : List BenchRecord
  pub roots : Forest
  pub lawful : IsForestOf pieces records roots
  pub text_is : text ≡ records_text json roots records

-- ---- a line of play

-- The text is that of a line of play by the certificate, which is good, so its claim is true; with its
-- variations down to this ply.
pub record WritesLine (root varied : ℕ) (c : Certificate) (text : List ℕ) : Type 0 where
  pub good : IsGood c
  pub moves : List (List ℕ)
  pub end : Board
  pub rank : Option ℕ
  pub line : IsLineOf c DRAWN_PLIES moves end rank
  pub variations : List Variation
  pub varies : Varies c varied moves variations
  pub text_is : text ≡ line_text root c.position c.claim moves variations

-- memory ran out
abbrev pub WantsMemory : LookRefusal → Type 0
WantsMemory fault = (error : AllocError) × (fault ≡ look.Journal (journal.Memory error))

-- ---- by what is asked

module _ {D : Type 0} (g : Ghosts D) where
  -- The text is that of a line of play by a certificate of the root's value. It goes from the root's
  -- position, and claims the root's value.
  pub record ShowsLine (root varied : ℕ) (old : D) (text : List ℕ) : Type 0 where
    pub certificate : Certificate
    pub certifies : IsHonest g.TELLS → Certifies (g.reads old) root certificate
    pub writes : WritesLine root varied certificate text
    pub begins : IsHonest g.TELLS → (settled : HasSettledRoot (g.reads old) root)
        → certificate.position ≡ settled.root.own.position
    pub claims : IsHonest g.TELLS → (settled : HasSettledRoot (g.reads old) root)
        → certificate.claim ≡ claim_for settled.value

  -- what is asked is shown of the disk, of roots with these games
  abbrev pub Shows : Opened → Request → D → List ℕ → Bool → Type 0
  Shows opened (Roots asked) old text settled =
      (IsHonest g.TELLS → ShowsRoots opened (g.reads old) asked.json text settled)
      × IsTrueView opened asked.json text
  Shows opened (Line asked) old text settled =
      ShowsLine asked.root (unwrap_or asked.plies 0) old text × (settled ≡ true)
  Shows opened (Tree asked) old text settled =
      (IsHonest g.TELLS → ShowsTreeOf (g.reads old) asked text)
      × (IsTrueTree asked text × (settled ≡ true))
  Shows opened (Page asked) old text settled =
      (IsHonest g.TELLS → ShowsPageOf (g.reads old) asked text settled)
      × IsTruePage asked text settled
  Shows opened (Records asked) old text settled =
      (IsHonest g.TELLS → ShowsRecords (g.reads old) asked.json text)
      × (IsTrueList asked.json text × (settled ≡ true))

-- a cause for which a file does not show what is asked
abbrev pub HasCause : Request → List ℕ → LookRefusal → Type 0
HasCause (Roots asked) file cause = HasNoReport file cause
HasCause (Line asked) file cause = HasNoCertificate file asked.root cause
HasCause (Tree asked) file cause = HasNoTree file asked.root cause
HasCause (Page asked) file cause = HasNoPage file asked.root cause
HasCause (Records asked) file cause = HasNoReport file cause

-- why a file does not, unless the refusal says nothing of it
abbrev pub Explains : Request → List ℕ → LookRefusal → Type 0
Explains request file fault = OnFalse (looks.says_nothing fault) (HasCause request file fault)

-- a file that shows what is asked
abbrev pub IsGoodFor : Request → List ℕ → Type 0
IsGoodFor (Roots asked) file =
    (pieces : ℕ) × ((records : List BenchRecord) × ReadsRecords pieces file records)
IsGoodFor (Line asked) file = HasSettledRoot file asked.root
IsGoodFor (Tree asked) file = HasRoot file asked.root
IsGoodFor (Page asked) file = HasPage file asked.root
IsGoodFor (Records asked) file =
    (pieces : ℕ) × ((records : List BenchRecord) × ReadsRecords pieces file records)

-- the refusal says nothing of the file: the disk failed, or memory ran out
abbrev pub says_nothing : Refusal → Bool
says_nothing refusal.Disk = true
says_nothing refusal.Memory = true
says_nothing other = false
