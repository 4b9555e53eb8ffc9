-- What is shown of a journal that is only looked at, and what is left of it.
use Rattle.std.specs.Prelude.{◌≡◌, ◌≤◌, ◌<◌, ◌-◌, ◌⊎◌, ℕ, Bool, true, false, List, length, slice_get, is_some, Some, None, IfSome, Result, Err, IfErr}
use Rattle.std.specs.declared.alloc.AllocError.{AllocError}
use Rattle.std.specs.Bool.{OnFalse}
use Rattle.std.specs.List.{list_all}
use Rattle.shared_words.specs.Answers.{Unless}
use Rattle.disk_journal.specs.Refusals.{ExplainsAny, says_nothing_of_file}
use Rattle.disk_journal.specs.declared.refusal.JournalRefusal.{JournalRefusal}
use Rattle.disk_journal.specs.declared.refusal.JournalRefusal.TheVariants as journal
use Rattle.draughts_board.specs.declared.pieces.Value.{Value}
use Rattle.strategy_certificate.specs.declared.certificates.Certificate.{Certificate}
use Rattle.proof_tree.specs.Forest.{Forest, Node, nodes, value_of}
use Rattle.certificate_joiner.specs.Certified.{IsJoined, claim_for}
use Rattle.bench_records.specs.declared.records.BenchRecord.{BenchRecord}
use Rattle.bench_core.specs.Growing.{IsForestOf}
use Rattle.bench_core.specs.States.{are_settled}
use Rattle.tree_manager.specs.Receipts.{ReadsRecords}
use Rattle.tree_manager.specs.Replaying.{ExplainsReplay}
use Rattle.opening_report.specs.declared.roots.Root.{Root}
use Rattle.opening_report.specs.Report.{forest_roots, report_of, AreTrueRoots}
use Rattle.journal_looks.specs.declared.refusals.LookRefusal.{LookRefusal}
use Rattle.journal_looks.specs.declared.refusals.LookRefusal.TheVariants.{Journal, NoRoot, UnsettledRoot}
use Rattle.proof_tree.specs.declared.tree.TheConstants.{MOST_ROOTS}

-- ---- what a file shows

-- For tables of this number of pieces the file reads as records, and these are the roots of their forest.
pub record HasForest (pieces : ℕ) (file : List ℕ) (roots : Forest) : Type 0 where
  pub records : List BenchRecord
  pub read : ReadsRecords pieces file records
  pub forest : IsForestOf pieces records roots

-- The text is the report on the roots of the records that the file reads as; and every root is
-- settled, or (false) some root is not.
pub record Shows (file text : List ℕ) (settled : Bool) : Type 0 where
  pub pieces : ℕ
  pub roots : Forest
  pub has : HasForest pieces file roots
  pub text_is : text ≡ report_of (forest_roots roots)
  pub settled_is : settled ≡ are_settled roots

-- the nth root, counted from 1
abbrev pub IsNthRoot : ℕ → Forest → Node → Type 0
IsNthRoot n roots root = (1 ≤ n) × (slice_get (nodes roots) (n - 1) ≡ Some root)

-- The nth root has a value, and the certificate claims it: it is a good one of the root's position,
-- for tables of this number of pieces.
pub record ClaimsRoot (pieces : ℕ) (roots : Forest) (n : ℕ) (c : Certificate) : Type 0 where
  pub root : Node
  pub there : IsNthRoot n roots root
  pub value : Value
  pub settled : value_of root ≡ Some value
  pub joined : IsJoined pieces root.own.position (claim_for value) c

-- The certificate claims the value of the file's nth root.
pub record Certifies (file : List ℕ) (n : ℕ) (c : Certificate) : Type 0 where
  pub pieces : ℕ
  pub roots : Forest
  pub has : HasForest pieces file roots
  pub claims : ClaimsRoot pieces roots n c

-- ---- whatever the disk tells

-- The text is the report on roots whose values are true; and every root has one, or (false) some root
-- has none.
pub record IsTrueReport (text : List ℕ) (settled : Bool) : Type 0 where
  pub roots : List Root
  pub few : length roots ≤ MOST_ROOTS
  pub text_is : text ≡ report_of roots
  pub values : AreTrueRoots roots
  pub settled_is : settled ≡ list_all (λ r. is_some r.value) roots

-- ---- refusals

-- A cause for which a file is not read as records: it is no journal or a damaged one, or a payload
-- is the text of no record that is lawful behind those before it.
abbrev pub IsUnread : List ℕ → JournalRefusal → Type 0
IsUnread file cause =
    ExplainsAny file cause ⊎ ((pieces : ℕ) × ExplainsReplay file pieces cause)

-- .. unless the refusal says nothing of the file
abbrev pub ExplainsUnread : List ℕ → JournalRefusal → Type 0
ExplainsUnread file refusal = OnFalse (says_nothing_of_file refusal) (IsUnread file refusal)

-- no root of the file has this number, counted from 1
pub record HasNoRoot (file : List ℕ) (n : ℕ) : Type 0 where
  pub pieces : ℕ
  pub roots : Forest
  pub has : HasForest pieces file roots
  pub none : (n ≡ 0) ⊎ (length (nodes roots) < n)

-- the file's nth root has no value
pub record HasUnsettledRoot (file : List ℕ) (n : ℕ) : Type 0 where
  pub pieces : ℕ
  pub roots : Forest
  pub has : HasForest pieces file roots
  pub root : Node
  pub there : IsNthRoot n roots root
  pub unsettled : value_of root ≡ None

-- the file's nth root has a value
pub record HasSettledRoot (file : List ℕ) (n : ℕ) : Type 0 where
  pub pieces : ℕ
  pub roots : Forest
  pub has : HasForest pieces file roots
  pub root : Node
  pub there : IsNthRoot n roots root
  pub value : Value
  pub settled : value_of root ≡ Some value

-- a cause for which a file gives no report
abbrev pub HasNoReport : List ℕ → LookRefusal → Type 0
HasNoReport file (Journal cause) = IsUnread file cause
HasNoReport file (NoRoot m) = ⊥
HasNoReport file (UnsettledRoot m) = ⊥

-- a cause for which it gives no certificate of its nth root
abbrev pub HasNoCertificate : List ℕ → ℕ → LookRefusal → Type 0
HasNoCertificate file n (Journal cause) = IsUnread file cause
HasNoCertificate file n (NoRoot m) = (m ≡ n) × HasNoRoot file n
HasNoCertificate file n (UnsettledRoot m) = (m ≡ n) × HasUnsettledRoot file n

-- the refusal says nothing of the file: the disk failed, or memory ran out
abbrev pub says_nothing : LookRefusal → Bool
says_nothing (Journal refusal) = says_nothing_of_file refusal
says_nothing (NoRoot n) = false
says_nothing (UnsettledRoot n) = false

-- why there is no report, unless the refusal says nothing of the file
abbrev pub ExplainsNoReport : List ℕ → LookRefusal → Type 0
ExplainsNoReport file refusal = OnFalse (says_nothing refusal) (HasNoReport file refusal)

-- .. and no certificate of the nth root
abbrev pub ExplainsNoCertificate : List ℕ → ℕ → LookRefusal → Type 0
ExplainsNoCertificate file n refusal =
    OnFalse (says_nothing refusal) (HasNoCertificate file n refusal)

-- Each cause is the answer where it stands, unless the refusal says nothing of the file.
abbrev pub AnswersEach : {T : Type 0} → (LookRefusal → Type 0) → Result T LookRefusal → Type 0
AnswersEach IsCause answer =
    (cause : LookRefusal) → IsCause cause → Unless says_nothing answer (answer ≡ Err cause)

-- it is no refusal, or one that says nothing of the file
abbrev pub BlamesNoFile : {T : Type 0} → Result T LookRefusal → Type 0
BlamesNoFile answer = IfErr answer (λ refusal. says_nothing refusal ≡ true)

-- ---- of a forest alone

-- there is an nth root, and P holds of it
abbrev pub OfRoot : Forest → ℕ → (Node → Type 0) → Type 0
OfRoot roots n P =
    (1 ≤ n) × ((n ≤ length (nodes roots)) × IfSome (slice_get (nodes roots) (n - 1)) P)

-- why the nth root is not certified: there is none, it has no value, or memory ran out
abbrev pub RefusesRoot : Forest → ℕ → LookRefusal → Type 0
RefusesRoot roots n (Journal refusal) = (error : AllocError) × (refusal ≡ journal.Memory error)
RefusesRoot roots n (NoRoot m) = (m ≡ n) × ((n ≡ 0) ⊎ (length (nodes roots) < n))
RefusesRoot roots n (UnsettledRoot m) = (m ≡ n) × OfRoot roots n (λ x. None ≡ value_of x)
