-- The page of a journal as it is shown, and why it is not.
use Rattle.std.specs.Prelude.{◌≡◌, ℕ, List, [], map, Bool, Option, Some, None, unwrap_or}
use Rattle.std.specs.Bool.{OnFalse}
use Rattle.std.specs.declared.alloc.AllocError.{AllocError}
use Rattle.bench_core.specs.Growing.{IsForestOf}
use Rattle.bench_core.specs.States.{are_settled}
use Rattle.bench_records.specs.declared.records.BenchRecord.{BenchRecord}
use Rattle.certificate_joiner.specs.Certified.{IsJoined, claim_for}
use Rattle.certificate_lines.specs.Lines.{IsLineOf}
use Rattle.disk_journal.specs.declared.refusal.JournalRefusal.TheVariants as journal
use Rattle.draughts_board.specs.Board.{Board}
use Rattle.draughts_board.specs.declared.pieces.Value.{Value}
use Rattle.journal_looks.specs.Looks.{HasNoReport, IsNthRoot, says_nothing}
use Rattle.journal_looks.specs.declared.refusals.LookRefusal.{LookRefusal}
use Rattle.journal_looks.specs.declared.refusals.LookRefusal.TheVariants.{Journal}
use Rattle.journal_pages.specs.Roots.{row_of}
use Rattle.opening_report.specs.Report.{AreTrueRoots, forest_roots}
use Rattle.page_text.specs.Markup.{nothing}
use Rattle.page_text.specs.Pages.{page_text}
use Rattle.page_text.specs.Plays.{StepWords}
use Rattle.page_text.specs.declared.roots.RootCells.{RootCells}
use Rattle.proof_tree.specs.Forest.{Forest, Node, nodes, value_of}
use Rattle.proof_tree.specs.Sound.{EachNode}
use Rattle.root_pages.specs.Cells.{all_cells}
use Rattle.root_pages.specs.Sights.{WritesSight}
use Rattle.root_pages.specs.Steps.{line_steps}
use Rattle.root_work.specs.Work.{work_in}
use Rattle.strategy_certificate.specs.Certificates.{IsGood}
use Rattle.strategy_certificate.specs.declared.certificates.Certificate.{Certificate}
use Rattle.tree_manager.specs.Receipts.{ReadsRecords}
use Rattle.view_words.specs.declared.requests.PageRequest.{PageRequest}
use Rattle.view_words.specs.declared.requests.TheConstants.{MOST_PLIES}
use Rattle.journal_view.specs.Trees.{HasNoTree, HasRoot, HasTrueFacts, RefusesTree}
use Rattle.journal_view.specs.declared.lines.TheConstants.{DRAWN_PLIES}
use Rattle.journal_view.specs.declared.trees.TheConstants.{DEFAULT_NODES}

-- ---- what is shown

-- the cells of the table of a forest's roots, which these records made
abbrev pub table_cells : List BenchRecord → Forest → List RootCells
table_cells records roots =
    all_cells (map row_of (nodes roots)) (map (work_in records) (nodes roots))

-- the steps are those of a line of play by the certificate
pub record PlaysBy (c : Certificate) (steps : List StepWords) : Type 0 where
  pub moves : List (List ℕ)
  pub end : Board
  pub rank : Option ℕ
  pub line : IsLineOf c DRAWN_PLIES moves end rank
  pub steps_are : steps ≡ line_steps c.position moves

-- .. by a good certificate of the position's value, for tables of k pieces; no step where it has none
abbrev pub IsPlayFor : ℕ → Board → Option Value → List StepWords → Type 0
IsPlayFor k p None steps = steps ≡ []
IsPlayFor k p (Some v) steps =
    (c : Certificate) × (IsJoined k p (claim_for v) c × (IsGood c × PlaysBy c steps))

-- The text is the page with the roots' table, and with the play and the tree of the nth of them behind
-- it. What is known of each node is true.
pub record ShowsRootPage (k : ℕ) (records : List BenchRecord) (roots : Forest) (n most : ℕ)
    (text : List ℕ) : Type 0 where
  pub truths : EachNode (λ path. HasTrueFacts) [] roots
  pub root : Node
  pub there : IsNthRoot n roots root
  pub steps : List StepWords
  pub play : IsPlayFor k root.own.position (value_of root) steps
  pub writes : WritesSight roots root (table_cells records roots) n steps MOST_PLIES most text

-- the page with the table, and with what is shown of a root where one is asked for
abbrev pub WritesPage : ℕ → List BenchRecord → Forest → ℕ → Option ℕ → List ℕ → Type 0
WritesPage k records roots most None text = text ≡ page_text (table_cells records roots) nothing
WritesPage k records roots most (Some n) text = ShowsRootPage k records roots n most text

-- The text is the page of a forest that these records made. The values of its roots are true; and every
-- root is settled, or (false) some is not.
pub record ShowsPage (k : ℕ) (records : List BenchRecord) (roots : Forest) (asked : PageRequest)
    (text : List ℕ) (settled : Bool) : Type 0 where
  pub values : AreTrueRoots (forest_roots roots)
  pub writes : WritesPage k records roots (unwrap_or asked.nodes DEFAULT_NODES) asked.root text
  pub settled_is : settled ≡ are_settled roots

-- .. whatever the disk tells
abbrev pub IsTruePage : PageRequest → List ℕ → Bool → Type 0
IsTruePage asked text settled =
    (k : ℕ) × ((records : List BenchRecord) × ((roots : Forest) × ShowsPage k records roots asked text settled))

-- .. of the records that the file reads as
pub record ShowsPageOf (file : List ℕ) (asked : PageRequest) (text : List ℕ) (settled : Bool)
    : Type 0 where
  pub pieces : ℕ
  pub records : List BenchRecord
  pub roots : Forest
  pub reads : ReadsRecords pieces file records
  pub forest : IsForestOf pieces records roots
  pub shows : ShowsPage pieces records roots asked text settled

-- ---- why it is not

-- the file reads as records, and has the root that is asked for
abbrev pub HasPage : List ℕ → Option ℕ → Type 0
HasPage file None = (pieces : ℕ) × ((records : List BenchRecord) × ReadsRecords pieces file records)
HasPage file (Some n) = HasRoot file n

-- a cause for which a file shows no page
abbrev pub HasNoPage : List ℕ → Option ℕ → LookRefusal → Type 0
HasNoPage file None cause = HasNoReport file cause
HasNoPage file (Some n) cause = HasNoTree file n cause

-- .. unless the refusal says nothing of the file
abbrev pub ExplainsNoPage : List ℕ → Option ℕ → LookRefusal → Type 0
ExplainsNoPage file asked refusal = OnFalse (says_nothing refusal) (HasNoPage file asked refusal)

-- why the page of a forest is not shown: there is no root that is asked for, or memory ran out
abbrev pub RefusesPage : Forest → Option ℕ → LookRefusal → Type 0
RefusesPage roots None refusal = (error : AllocError) × (refusal ≡ Journal (journal.Memory error))
RefusesPage roots (Some n) refusal = RefusesTree roots n refusal
