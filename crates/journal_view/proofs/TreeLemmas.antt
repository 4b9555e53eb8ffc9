-- From the tree of a bench's root to what is shown of the file.
use Rattle.std.proofs.Common.{◌≡◌, ◌≤◌, ◌<◌, ◌-◌, ◌⊎◌, inl, inr, ℕ, List, [], ◌∷◌, length, slice_get, Option, Some, None, Bool, true, false, refl, sym, ◌∙◌, ap, subst, arith}
use Rattle.std.specs.Prelude.{IfErr, IfOk, IfSome, IfNone, IsSomeAnd, OnOk, Result, Ok, Err, unwrap_or}
use Rattle.std.specs.declared.alloc.AllocError.{AllocError}
use Rattle.std.specs.Bool.{OnFalse}
use Rattle.std.proofs.lemmas.Bool.{false≢true}
use Rattle.std.proofs.lemmas.Option.{slice_get_within}
use Rattle.shared_words.specs.Answers.{Unless}
use Rattle.bench_records.specs.declared.records.BenchRecord.{BenchRecord}
use Rattle.disk_journal.specs.Refusals.{says_nothing_of_file}
use Rattle.disk_journal.specs.declared.refusal.JournalRefusal.{JournalRefusal}
use Rattle.disk_journal.specs.declared.refusal.JournalRefusal.TheVariants as journal
use Rattle.journal_looks.specs.Looks.{AnswersEach, BlamesNoFile, ExplainsUnread, HasForest, HasNoCertificate, IsNthRoot, says_nothing}
use Rattle.journal_looks.specs.declared.refusals.LookRefusal.{LookRefusal}
use Rattle.journal_looks.specs.declared.refusals.LookRefusal.TheVariants.{Journal, NoRoot, UnsettledRoot}
use Rattle.journal_looks.proofs.FileLemmas.{forest_once, read_or_unread}
use Rattle.journal_looks.proofs.LookLemmas.{certify_unread}
use Rattle.opening_report.specs.declared.written.Written.{Written}
use Rattle.bench_core.proofs.CertifiedFacts.{certified_true}
use Rattle.certificate_joiner.specs.Certified.{IsCertified}
use Rattle.certificate_joiner.specs.Laws.{AreCertified}
use Rattle.certificate_joiner.specs.Shelf.{Put}
use Rattle.draughts_board.specs.Board.{Board}
use Rattle.proof_tree.specs.Forest.{Forest, no_node, node, Node, nodes}
use Rattle.proof_tree.specs.Sound.{EachNode}
use Rattle.tree_texts.specs.Shown.{WritesTree}
use Rattle.view_words.specs.declared.requests.TheConstants.{MOST_PLIES}
use Rattle.view_words.specs.declared.requests.TreeRequest.{TreeRequest}
use Rattle.journal_view.specs.declared.trees.TheConstants.{DEFAULT_NODES}
use Rattle.journal_view.specs.Trees.{ExplainsNoTree, HasNoTree, HasRoot, HasTrueFacts, IsTrueTree, RefusesTree, ShowsRootTree, ShowsTreeOf}

-- ---- a root

-- what is shown of a place where a root stands is that root's
pub nth_root : (roots : Forest) (n : ℕ) (P : Node → Type 0) → 1 ≤ n → IsSomeAnd (slice_get (nodes roots) (n - 1)) P → (x : Node) × (IsNthRoot n roots x × P x)
nth_root roots n P first said = by (slice_get (nodes roots) (n - 1)) refl said
  where
    by : (o : Option Node) → slice_get (nodes roots) (n - 1) ≡ o → IsSomeAnd o P → (x : Node) × (IsNthRoot n roots x × P x)
    by None is said = absurd said
    by (Some x) is said = (x, ((first, is), said))

pub true_nodes : (k : ℕ) (puts : List Put) (path : List Board) (t : Forest) → EachNode (λ path. IsCertified k puts) path t → EachNode (λ path. HasTrueFacts) path t
true_nodes k puts path no_node all = tt
true_nodes k puts path (node own children others) all =
    let facts = certified_true k puts (record { own = own; children = children }) all.0 in
    ((λ side. (facts.wins side, facts.holds side)), (true_nodes k puts (own.position ∷ path) children all.1.0, true_nodes k puts path others all.1.1))

pub shows_root : (k : ℕ) (puts : List Put) (roots tree : Forest) → AreCertified k puts roots → (asked : TreeRequest) (plies most : ℕ) (text : List ℕ) → tree ≡ roots → plies ≡ unwrap_or asked.plies MOST_PLIES → most ≡ unwrap_or asked.nodes DEFAULT_NODES
    → 1 ≤ asked.root → IsSomeAnd (slice_get (nodes tree) (asked.root - 1)) (λ x. WritesTree tree x plies most asked.json text) → ShowsRootTree roots asked text
shows_root k puts roots tree certified asked plies most text same deep many first said =
    let here = subst (λ (f : Forest). IsSomeAnd (slice_get (nodes f) (asked.root - 1)) (λ x. WritesTree f x plies most asked.json text)) same said in
    let nth = nth_root roots asked.root (λ x. WritesTree roots x plies most asked.json text) first here in
    record {
      truths = true_nodes k puts [] roots certified;
      root = nth.0;
      there = nth.1.0;
      writes = subst (λ n. WritesTree roots nth.0 (unwrap_or asked.plies MOST_PLIES) n asked.json text) many (subst (λ n. WritesTree roots nth.0 n most asked.json text) deep nth.1.1);
    }

-- .. by the text that was found
pub shows_found : {V : Type 0} (k : ℕ) (puts : List Put) (roots tree : Forest) → AreCertified k puts roots → (asked : TreeRequest) (plies most : ℕ) → tree ≡ roots → plies ≡ unwrap_or asked.plies MOST_PLIES
    → most ≡ unwrap_or asked.nodes DEFAULT_NODES → (found : Option V) (text : V) (items : V → List ℕ) → found ≡ Some text → IfSome found (λ t. 1 ≤ asked.root)
    → IfSome found (λ t. IsSomeAnd (slice_get (nodes tree) (asked.root - 1)) (λ x. WritesTree tree x plies most asked.json (items t))) → ShowsRootTree roots asked (items text)
shows_found {V} k puts roots tree certified asked plies most same deep many found text items is first said =
    shows_root k puts roots tree certified asked plies most (items text) same deep many
    (subst (λ (f : Option V). IfSome f (λ t. 1 ≤ asked.root)) is first)
    (subst (λ (f : Option V). IfSome f (λ t. IsSomeAnd (slice_get (nodes tree) (asked.root - 1)) (λ x. WritesTree tree x plies most asked.json (items t)))) is said)

pub not_there : (roots : Forest) (n : ℕ) (root : Node) → IsNthRoot n roots root → (n ≡ 0) ⊎ (length (nodes roots) < n) → ⊥
not_there roots n root there (inl zero) = omega (arith, there.0, zero)
not_there roots n root there (inr past) =
    let within = slice_get_within (nodes roots) (n - 1) root there.1 in omega (arith, there.0, past, within)

-- ---- the cause of a look is one of a certificate

less : (file : List ℕ) (n : ℕ) (cause : LookRefusal) → HasNoTree file n cause → HasNoCertificate file n cause
less file n (Journal cause) has = has
less file n (NoRoot m) has = has
less file n (UnsettledRoot m) has = absurd has

pub tree_unread : (file : List ℕ) (n : ℕ) (refusal : JournalRefusal) → ExplainsUnread file refusal → AnswersEach {T = Written} (HasNoTree file n) (Err (Journal refusal))
tree_unread file n refusal why cause stands = certify_unread Written file n refusal why cause (less file n cause stands)

-- ---- of the file

pub shows_of : (k : ℕ) (file : List ℕ) (roots : Forest) (asked : TreeRequest) (answer : Result Written LookRefusal) → HasForest k file roots
    → IfOk answer (λ w. ShowsRootTree roots asked w.text.items) → IfOk answer (λ w. ShowsTreeOf file asked w.text.items)
shows_of k file roots asked (Ok w) has shows = record { pieces = k; roots = roots; has = has; shows = shows }
shows_of k file roots asked (Err fault) has shows = tt

pub true_of : (roots : Forest) (asked : TreeRequest) (answer : Result Written LookRefusal) → IfOk answer (λ w. ShowsRootTree roots asked w.text.items) → IfOk answer (λ w. IsTrueTree asked w.text.items)
true_of roots asked (Ok w) shows = (roots, shows)
true_of roots asked (Err fault) shows = tt

pub refuses_of : (k : ℕ) (file : List ℕ) (roots : Forest) (n : ℕ) (answer : Result Written LookRefusal) → HasForest k file roots → IfErr answer (RefusesTree roots n) → IfErr answer (ExplainsNoTree file n)
refuses_of k file roots n (Ok w) has refused = tt
refuses_of k file roots n (Err (Journal refusal)) has refused = subst (ExplainsUnread file) (sym refused.1) tt
refuses_of k file roots n (Err (NoRoot m)) has refused = (refused.0, record { pieces = k; roots = roots; has = has; none = refused.1 })
refuses_of k file roots n (Err (UnsettledRoot m)) has refused = absurd refused

pub memory_says : (refusal : JournalRefusal) (P : Type 0) → (error : AllocError) × (refusal ≡ journal.Memory error) → OnFalse (says_nothing_of_file refusal) P
memory_says refusal P is = subst (λ (r : JournalRefusal). OnFalse (says_nothing_of_file r) P) (sym is.1) tt

none_caused : (roots : Forest) (n m : ℕ) (asked : TreeRequest) (answer : Result Written LookRefusal) → asked.root ≡ n → IfOk answer (λ w. ShowsRootTree roots asked w.text.items) → IfErr answer (RefusesTree roots n)
    → m ≡ n → (n ≡ 0) ⊎ (length (nodes roots) < n) → Unless says_nothing answer (answer ≡ Err (NoRoot m))
none_caused roots n m asked (Ok w) is shows refused same none = absurd (not_there roots n shows.root (subst (λ k. IsNthRoot k roots shows.root) is shows.there) none)
none_caused roots n m asked (Err (Journal refusal)) is shows refused same none = memory_says refusal _ refused
none_caused roots n m asked (Err (NoRoot i)) is shows refused same none = ap (λ (j : ℕ). Err (NoRoot j)) (refused.0 ∙ sym same)
none_caused roots n m asked (Err (UnsettledRoot i)) is shows refused same none = absurd refused

pub tree_read : (k : ℕ) (file : List ℕ) (roots : Forest) (asked : TreeRequest) (answer : Result Written LookRefusal) → HasForest k file roots
    → IfOk answer (λ w. ShowsRootTree roots asked w.text.items) → IfErr answer (RefusesTree roots asked.root) → AnswersEach (HasNoTree file asked.root) answer
tree_read k file roots asked answer has shows refused (Journal cause) stands = absurd (read_or_unread k file has.records cause has.read stands)
tree_read k file roots asked answer has shows refused (NoRoot m) stands =
    none_caused roots asked.root m asked answer refl shows refused stands.0
    (subst (λ (f : Forest). (asked.root ≡ 0) ⊎ (length (nodes f) < asked.root)) (forest_once stands.1.pieces k file stands.1.roots roots stands.1.has has) stands.1.none)
tree_read k file roots asked answer has shows refused (UnsettledRoot m) stands = absurd stands

-- a root that is there is not blamed
there_by : (roots : Forest) (n : ℕ) (answer : Result Written LookRefusal) → IfErr answer (RefusesTree roots n) → (root : Node) → IsNthRoot n roots root → BlamesNoFile answer
there_by roots n (Ok w) refused root there = tt
there_by roots n (Err (Journal refusal)) refused root there = subst (λ (r : JournalRefusal). says_nothing_of_file r ≡ true) (sym refused.1) refl
there_by roots n (Err (NoRoot i)) refused root there = absurd (not_there roots n root there refused.1)
there_by roots n (Err (UnsettledRoot i)) refused root there = absurd refused

pub tree_accepted : (k : ℕ) (file : List ℕ) (roots : Forest) (n : ℕ) (answer : Result Written LookRefusal) → HasForest k file roots → IfErr answer (RefusesTree roots n)
    → HasRoot file n → BlamesNoFile answer
tree_accepted k file roots n answer has refused h =
    there_by roots n answer refused h.root (subst (λ (f : Forest). IsNthRoot n f h.root) (forest_once h.pieces k file h.roots roots h.has has) h.there)

-- a tree is not refused for a fault of the disk
pub no_fault : (roots : Forest) (n : ℕ) (answer : Result Written LookRefusal) → IfErr answer (RefusesTree roots n) → answer ≡ Err (Journal journal.DiskFault) → ⊥
no_fault roots n answer refused is = by (subst (λ (a : Result Written LookRefusal). IfErr a (RefusesTree roots n)) is refused)
  where
    by : (error : AllocError) × (journal.DiskFault ≡ journal.Memory error) → ⊥
    by h = absurd cc
