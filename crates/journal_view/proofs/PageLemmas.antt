-- From the page of a bench to what is shown of the file.
use Rattle.std.proofs.Common.{◌≡◌, ◌<◌, ◌≤◌, ◌-◌, ◌⊎◌, ℕ, List, [], length, slice_get, Option, Some, None, true, refl, sym, ◌∙◌, ap, subst}
use Rattle.std.specs.Prelude.{IfErr, IfOk, IfSome, IsSomeAnd, Result, Ok, Err}
use Rattle.std.specs.declared.alloc.AllocError.{AllocError}
use Rattle.std.specs.Bool.{OnFalse}
use Rattle.shared_words.specs.Answers.{Unless}
use Rattle.bench_core.specs.Growing.{IsForestOf}
use Rattle.bench_records.specs.declared.records.BenchRecord.{BenchRecord}
use Rattle.certificate_joiner.specs.Laws.{AreCertified}
use Rattle.certificate_joiner.specs.Shelf.{Put}
use Rattle.certificate_lines.specs.Lines.{IsLineFor, IsLineOf, Leads}
use Rattle.disk_journal.specs.Refusals.{says_nothing_of_file}
use Rattle.disk_journal.specs.declared.refusal.JournalRefusal.{JournalRefusal}
use Rattle.disk_journal.specs.declared.refusal.JournalRefusal.TheVariants as journal
use Rattle.draughts_board.specs.Board.{Board}
use Rattle.journal_looks.specs.Looks.{AnswersEach, BlamesNoFile, ExplainsUnread, HasForest, IsNthRoot, says_nothing}
use Rattle.journal_looks.specs.declared.refusals.LookRefusal.{LookRefusal}
use Rattle.journal_looks.specs.declared.refusals.LookRefusal.TheVariants.{Journal, NoRoot, UnsettledRoot}
use Rattle.journal_looks.proofs.FileLemmas.{explained_by_none, forest_once, read_or_unread}
use Rattle.journal_looks.proofs.LookLemmas.{report_unread, unread_accepted}
use Rattle.opening_report.specs.declared.written.Written.{Written}
use Rattle.page_text.specs.Plays.{StepWords}
use Rattle.page_text.specs.declared.roots.RootCells.{RootCells}
use Rattle.proof_tree.specs.Forest.{Forest, Node, nodes, value_of}
use Rattle.root_pages.specs.Sights.{WritesSight}
use Rattle.strategy_certificate.specs.declared.certificates.Certificate.{Certificate}
use Rattle.strategy_certificate.specs.declared.claims.Claim.{Claim}
use Rattle.strategy_certificate.specs.declared.claims.Claim.TheVariants.{Win, Hold, Draw}
use Rattle.tree_manager.specs.Receipts.{ReadsRecords}
use Rattle.view_words.specs.declared.requests.PageRequest.{PageRequest}
use Rattle.view_words.specs.declared.requests.TheConstants.{MOST_PLIES}
use Rattle.journal_view.specs.Pages.{ExplainsNoPage, HasNoPage, HasPage, IsPlayFor, IsTruePage, RefusesPage, ShowsPage, ShowsPageOf, ShowsRootPage, WritesPage, table_cells}
use Rattle.journal_view.specs.Trees.{RefusesTree}
use Rattle.journal_view.proofs.TreeLemmas.{memory_says, no_fault, not_there, nth_root, refuses_of, tree_accepted, tree_unread, true_nodes}

-- ---- the line of a certificate leads from its position

pub line_leads : (claim : Claim) (c : Certificate) (plies : ℕ) (moves : List (List ℕ)) (end : Board) (rank : Option ℕ) → IsLineFor claim c plies moves end rank → Leads c.position moves end
line_leads (Win side) c plies moves end (Some r) line = line.leads
line_leads (Win side) c plies moves end None line = absurd line
line_leads (Hold side) c plies moves end rank line = subst (λ (l : List (List ℕ)). Leads c.position l end) (sym line.0) (sym line.1.0)
line_leads Draw c plies moves end rank line = line.0.leads

-- ---- the root that is asked for

-- it is there, where one is asked for
abbrev IsThere : Forest → Option ℕ → Type 0
IsThere roots None = Unit {0}
IsThere roots (Some n) = (x : Node) × IsNthRoot n roots x

there_is : (k : ℕ) (records : List BenchRecord) (roots : Forest) (most : ℕ) (o : Option ℕ) (text : List ℕ) → WritesPage k records roots most o text → IsThere roots o
there_is k records roots most None text writes = tt
there_is k records roots most (Some n) text writes = (writes.root, writes.there)

there_of : (k : ℕ) (records : List BenchRecord) (roots : Forest) (asked : PageRequest) (answer : Result Written LookRefusal) → IfOk answer (λ w. ShowsPage k records roots asked w.text.items w.is_settled)
    → IfOk answer (λ w. IsThere roots asked.root)
there_of k records roots asked (Ok w) shows = there_is k records roots _ asked.root w.text.items shows.writes
there_of k records roots asked (Err fault) shows = tt

-- ---- what is shown

pub shows_page_of : (k : ℕ) (file : List ℕ) (records : List BenchRecord) (roots : Forest) (asked : PageRequest) (answer : Result Written LookRefusal) → ReadsRecords k file records → IsForestOf k records roots
    → IfOk answer (λ w. ShowsPage k records roots asked w.text.items w.is_settled) → IfOk answer (λ w. ShowsPageOf file asked w.text.items w.is_settled)
shows_page_of k file records roots asked (Ok w) reads forest shows =
    record { pieces = k; records = records; roots = roots; reads = reads; forest = forest; shows = shows }
shows_page_of k file records roots asked (Err fault) reads forest shows = tt

pub true_page : (k : ℕ) (records : List BenchRecord) (roots : Forest) (asked : PageRequest) (answer : Result Written LookRefusal)
    → IfOk answer (λ w. ShowsPage k records roots asked w.text.items w.is_settled) → IfOk answer (λ w. IsTruePage asked w.text.items w.is_settled)
true_page k records roots asked (Ok w) shows = (k, (records, (roots, shows)))
true_page k records roots asked (Err fault) shows = tt

-- ---- why it is not

memory_explains : (fault : LookRefusal) (P : Type 0) → (error : AllocError) × (fault ≡ Journal (journal.Memory error)) → OnFalse (says_nothing fault) P
memory_explains fault P is = subst (λ (r : LookRefusal). OnFalse (says_nothing r) P) (sym is.1) tt

pub page_refuses : (k : ℕ) (file : List ℕ) (roots : Forest) (o : Option ℕ) (answer : Result Written LookRefusal) → HasForest k file roots → IfErr answer (RefusesPage roots o) → IfErr answer (ExplainsNoPage file o)
page_refuses k file roots None (Ok w) has refused = tt
page_refuses k file roots None (Err fault) has refused = memory_explains fault (HasNoPage file None fault) refused
page_refuses k file roots (Some n) answer has refused = refuses_of k file roots n answer has refused

none_here : (roots : Forest) (n m : ℕ) (answer : Result Written LookRefusal) → IfOk answer (λ w. IsThere roots (Some n)) → IfErr answer (RefusesTree roots n) → m ≡ n
    → (n ≡ 0) ⊎ (length (nodes roots) < n) → Unless says_nothing answer (answer ≡ Err (NoRoot m))
none_here roots n m (Ok w) there refused same none = absurd (not_there roots n there.0 there.1 none)
none_here roots n m (Err (Journal refusal)) there refused same none = memory_says refusal _ refused
none_here roots n m (Err (NoRoot i)) there refused same none = ap (λ (j : ℕ). Err (NoRoot j)) (refused.0 ∙ sym same)
none_here roots n m (Err (UnsettledRoot i)) there refused same none = absurd refused

by_root : (k : ℕ) (file : List ℕ) (roots : Forest) (o : Option ℕ) (answer : Result Written LookRefusal) → HasForest k file roots → IfOk answer (λ w. IsThere roots o)
    → IfErr answer (RefusesPage roots o) → AnswersEach (HasNoPage file o) answer
by_root k file roots None answer has there refused (Journal cause) stands = absurd (read_or_unread k file has.records cause has.read stands)
by_root k file roots None answer has there refused (NoRoot m) stands = absurd stands
by_root k file roots None answer has there refused (UnsettledRoot m) stands = absurd stands
by_root k file roots (Some n) answer has there refused (Journal cause) stands = absurd (read_or_unread k file has.records cause has.read stands)
by_root k file roots (Some n) answer has there refused (NoRoot m) stands =
    none_here roots n m answer there refused stands.0
    (subst (λ (f : Forest). (n ≡ 0) ⊎ (length (nodes f) < n)) (forest_once stands.1.pieces k file stands.1.roots roots stands.1.has has) stands.1.none)
by_root k file roots (Some n) answer has there refused (UnsettledRoot m) stands = absurd stands

pub page_causes : (k : ℕ) (file : List ℕ) (records : List BenchRecord) (roots : Forest) (asked : PageRequest) (answer : Result Written LookRefusal) → HasForest k file roots
    → IfOk answer (λ w. ShowsPage k records roots asked w.text.items w.is_settled) → IfErr answer (RefusesPage roots asked.root) → AnswersEach (HasNoPage file asked.root) answer
page_causes k file records roots asked answer has shows refused =
    by_root k file roots asked.root answer has (there_of k records roots asked answer shows) refused

pub page_accepted : (k : ℕ) (file : List ℕ) (roots : Forest) (o : Option ℕ) (answer : Result Written LookRefusal) → HasForest k file roots → IfErr answer (RefusesPage roots o) → HasPage file o → BlamesNoFile answer
page_accepted k file roots None (Ok w) has refused page = tt
page_accepted k file roots None (Err fault) has refused page = ap says_nothing refused.1
page_accepted k file roots (Some n) answer has refused page = tree_accepted k file roots n answer has refused page

-- a page is not refused for a fault of the disk
pub page_no_fault : (roots : Forest) (o : Option ℕ) (answer : Result Written LookRefusal) → IfErr answer (RefusesPage roots o) → answer ≡ Err (Journal journal.DiskFault) → ⊥
page_no_fault roots None answer refused is = by (subst (λ (a : Result Written LookRefusal). IfErr a (RefusesPage roots None)) is refused)
  where
    by : (error : AllocError) × (◌≡◌ {A = LookRefusal} (Journal journal.DiskFault) (Journal (journal.Memory error))) → ⊥
    by h = absurd (let e = h.1 in cc)
page_no_fault roots (Some n) answer refused is = no_fault roots n answer refused is

-- ---- a file that is not read

pub unread_page : (file : List ℕ) (o : Option ℕ) (refusal : JournalRefusal) → ExplainsUnread file refusal → ExplainsNoPage file o (Journal refusal)
unread_page file None refusal why = why
unread_page file (Some n) refusal why = why

pub unread_causes : (file : List ℕ) (o : Option ℕ) (refusal : JournalRefusal) → ExplainsUnread file refusal → AnswersEach {T = Written} (HasNoPage file o) (Err (Journal refusal))
unread_causes file None refusal why = report_unread Written file refusal why
unread_causes file (Some n) refusal why = tree_unread file n refusal why

pub unread_blamed : (file : List ℕ) (o : Option ℕ) (refusal : JournalRefusal) → ExplainsUnread file refusal → HasPage file o → BlamesNoFile {T = Written} (Err (Journal refusal))
unread_blamed file None refusal why page = explained_by_none page.0 file page.1.0 refusal page.1.1 why
unread_blamed file (Some n) refusal why page = unread_accepted Written page.pieces file page.has.records refusal page.has.read why

-- ---- the page of a root

-- what is known of each node is true, the root is there, and what is written is its play and its tree
pub root_page_shown : (k m : ℕ) (puts : List Put) (records : List BenchRecord) (roots tree : Forest) (cells : List RootCells) (n most : ℕ) (steps : List StepWords) (text : List ℕ)
    → AreCertified m puts roots → tree ≡ roots → cells ≡ table_cells records roots → 1 ≤ n → IfSome (slice_get (nodes roots) (n - 1)) (λ x. IsPlayFor k x.own.position (value_of x) steps)
    → IsSomeAnd (slice_get (nodes tree) (n - 1)) (λ x. WritesSight tree x cells n steps MOST_PLIES most text) → ShowsRootPage k records roots n most text
root_page_shown k m puts records roots tree cells n most steps text certified same is first play writes =
    let here = subst (λ (f : Forest). IsSomeAnd (slice_get (nodes f) (n - 1)) (λ x. WritesSight f x cells n steps MOST_PLIES most text)) same writes in
    let nth = nth_root roots n (λ x. WritesSight roots x cells n steps MOST_PLIES most text) first here in
    record {
      truths = true_nodes m puts [] roots certified;
      root = nth.0;
      there = nth.1.0;
      steps = steps;
      play = subst (λ (o : Option Node). IfSome o (λ x. IsPlayFor k x.own.position (value_of x) steps)) nth.1.0.1 play;
      writes = subst (λ (l : List RootCells). WritesSight roots nth.0 l n steps MOST_PLIES most text) is nth.1.1;
    }
