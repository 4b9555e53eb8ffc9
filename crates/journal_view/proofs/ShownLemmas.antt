-- From a look at the journal to what a run shows.
use Rattle.std.proofs.Common.{◌≡◌, ◌-◌, ◌<◌, ℕ, List, Option, Some, refl, sym, ◌∙◌, ap, subst, slice_get}
use Rattle.std.specs.Prelude.{Bool, true, false, IfErr, IfOk, Result, Ok, Err, unwrap_or}
use Rattle.std.specs.Bool.{OnFalse}
use Rattle.shared_words.specs.Answers.{Unless}
use Rattle.shared_words.specs.Counts.{Rose}
use Rattle.shared_words.proofs.Exactness.{on_false}
use Rattle.bench_disk.specs.declared.disk.Disk.{Ghosts}
use Rattle.bench_disk.specs.Disk.{IsHonest}
use Rattle.certificate_joiner.specs.Certified.{claim_for}
use Rattle.disk_journal.specs.declared.refusal.JournalRefusal.TheVariants.{DiskFault, NotAJournal, OtherTable, Damaged, Memory}
use Rattle.draughts_board.specs.declared.pieces.Value.{Value}
use Rattle.journal_looks.specs.Conversions.{of_look}
use Rattle.journal_looks.specs.Looks.{AnswersEach, BlamesNoFile, Certifies, ExplainsNoCertificate, HasNoCertificate, HasSettledRoot}
use Rattle.journal_looks.specs.Looks as looks
use Rattle.journal_looks.specs.declared.refusals.LookRefusal.{LookRefusal}
use Rattle.journal_looks.specs.declared.refusals.LookRefusal.TheVariants.{Journal, NoRoot, UnsettledRoot}
use Rattle.journal_looks.proofs.FileLemmas.{forest_once}
use Rattle.opened_games.specs.Opened.{Opened}
use Rattle.opening_report.specs.declared.refusals.Refusal.{Refusal}
use Rattle.opening_report.specs.declared.written.Written.{Written}
use Rattle.proof_tree.specs.Forest.{Forest, Node, nodes, value_of}
use Rattle.strategy_certificate.specs.declared.certificates.Certificate.{Certificate}
use Rattle.journal_view.specs.Runs.{Accepts, AnswersCauses, IsLookFault}
use Rattle.journal_view.specs.Shown.{Explains, HasCause, IsGoodFor, IsTrueList, IsTrueView, Shows, ShowsLine, ShowsRecords, ShowsRoots, WantsMemory, WritesLine, says_nothing}
use Rattle.journal_view.specs.Pages.{IsTruePage, ShowsPageOf}
use Rattle.journal_view.specs.Trees.{IsTrueTree, ShowsTreeOf}
use Rattle.view_words.specs.declared.requests.PageRequest.{PageRequest}
use Rattle.view_words.specs.declared.requests.Request.{Request}
use Rattle.view_words.specs.declared.requests.Request.TheVariants as request
use Rattle.view_words.specs.declared.requests.LineRequest.{LineRequest}
use Rattle.view_words.specs.declared.requests.RecordsRequest.{RecordsRequest}
use Rattle.view_words.specs.declared.requests.RootsRequest.{RootsRequest}
use Rattle.view_words.specs.declared.requests.TreeRequest.{TreeRequest}

-- ---- looks

-- a look's refusal says as much of the file as the run's
nothing_same : (r : LookRefusal) → looks.says_nothing r ≡ says_nothing (of_look r)
nothing_same (Journal DiskFault) = refl
nothing_same (Journal NotAJournal) = refl
nothing_same (Journal (OtherTable found asked)) = refl
nothing_same (Journal (Damaged at)) = refl
nothing_same (Journal (Memory error)) = refl
nothing_same (NoRoot n) = refl
nothing_same (UnsettledRoot n) = refl

no_error : {T : Type 0} (value : T) (e : LookRefusal) → ◌≡◌ {A = Result T LookRefusal} (Ok value) (Err e) → ⊥
no_error value e same = cc

module _ {D : Type 0} (g : Ghosts D) (request : Request) (old new : D) where
  pub shown_causes : (w : Written) → (IsHonest g.TELLS → AnswersEach {T = Written} (HasCause request (g.reads old)) (Ok w)) → AnswersCauses g {T = Written} request old (Ok w)
  shown_causes w causes honest cause has = absurd (no_error w cause (causes honest cause has))

  module _ (fault : LookRefusal) (r : Refusal) (is : r ≡ of_look fault) where
    pub look_refused : (fault ≡ Journal DiskFault → Rose (g.faults old) (g.faults new)) → (IsHonest g.TELLS → Explains request (g.reads old) fault) → IsLookFault g request old new r
    look_refused disk explained = record { fault = fault; is = is; disk = disk; explained = explained }

    pub look_causes : (IsHonest g.TELLS → AnswersEach {T = Written} (HasCause request (g.reads old)) (Err fault)) → AnswersCauses g {T = Written} request old (Err r)
    look_causes causes honest cause has =
        subst (λ (x : Refusal). Unless {T = Written} says_nothing (Err x) (◌≡◌ {A = Result Written Refusal} (Err x) (Err (of_look cause)))) (sym is)
        (subst (λ (b : Bool). OnFalse b (◌≡◌ {A = Result Written Refusal} (Err (of_look fault)) (Err (of_look cause)))) (nothing_same fault)
        (on_false (looks.says_nothing fault) (◌≡◌ {A = Result Written LookRefusal} (Err fault) (Err cause)) (◌≡◌ {A = Result Written Refusal} (Err (of_look fault)) (Err (of_look cause)))
        (λ same. (let e : fault ≡ cause = cc in ap (λ (x : LookRefusal). Err (of_look x)) e)) (causes honest cause has)))

    pub look_accepted : (IsHonest g.TELLS → IsGoodFor request (g.reads old) → BlamesNoFile {T = Written} (Err fault)) → Accepts g {T = Written} request old (Err r)
    look_accepted accepted honest good = ap says_nothing is ∙ (sym (nothing_same fault) ∙ accepted honest good)

-- ---- values

same_some : {X : Type 0} (x y : X) → Some x ≡ Some y → x ≡ y
same_some x y same = cc

-- the certificate is one of the file's one root
root_once : (file : List ℕ) (n : ℕ) (c : Certificate) → (certified : Certifies file n c) → (settled : HasSettledRoot file n) → certified.claims.root ≡ settled.root
root_once file n c certified settled =
    let roots = certified.roots in
    let same : roots ≡ settled.roots = forest_once certified.pieces settled.pieces file roots settled.roots certified.has settled.has in
    let there = subst (λ (f : Forest). slice_get (nodes f) (n - 1) ≡ Some certified.claims.root) same certified.claims.there.1 in
    same_some certified.claims.root settled.root (sym there ∙ settled.there.1)

claims_position : (file : List ℕ) (n : ℕ) (c : Certificate) → Certifies file n c → (settled : HasSettledRoot file n) → c.position ≡ settled.root.own.position
claims_position file n c certified settled =
    certified.claims.joined.position ∙ ap (λ (x : Node). x.own.position) (root_once file n c certified settled)

claims_value : (file : List ℕ) (n : ℕ) (c : Certificate) → Certifies file n c → (settled : HasSettledRoot file n) → c.claim ≡ claim_for settled.value
claims_value file n c certified settled =
    let one = root_once file n c certified settled in
    let value : certified.claims.value ≡ settled.value =
    same_some certified.claims.value settled.value (sym certified.claims.settled ∙ (ap (λ (x : Node). value_of x) one ∙ settled.settled)) in
    certified.claims.joined.claims ∙ ap claim_for value

-- the line by a certificate of the root
pub line_shown : {D : Type 0} (g : Ghosts D) (root varied : ℕ) (old : D) (c : Certificate) (text : List ℕ) → (IsHonest g.TELLS → Certifies (g.reads old) root c) → WritesLine root varied c text
    → ShowsLine g root varied old text
line_shown g root varied old c text certified writes = record {
  certificate = c;
  certifies = certified;
  writes = writes;
  begins = λ honest settled. claims_position (g.reads old) root c (certified honest) settled;
  claims = λ honest settled. claims_value (g.reads old) root c (certified honest) settled;
}

-- ---- a line that is written, or memory that ran out

pub line_shows : {D : Type 0} (g : Ghosts D) (root varied : ℕ) (old : D) (c : Certificate) (answer : Result Written LookRefusal) → (IsHonest g.TELLS → Certifies (g.reads old) root c)
    → IfOk answer (λ w. WritesLine root varied c w.text.items) → IfOk answer (λ w. ShowsLine g root varied old w.text.items)
line_shows g root varied old c (Ok w) certified writes = line_shown g root varied old c w.text.items certified writes
line_shows g root varied old c (Err fault) certified writes = tt

memory_silent : (fault : LookRefusal) → WantsMemory fault → looks.says_nothing fault ≡ true
memory_silent fault memory = ap looks.says_nothing memory.1

module _ (file : List ℕ) (root : ℕ) where
  pub memory_explained : (answer : Result Written LookRefusal) → IfErr answer WantsMemory → IfErr answer (ExplainsNoCertificate file root)
  memory_explained (Ok w) memory = tt
  memory_explained (Err fault) memory = subst (λ (b : Bool). OnFalse b (HasNoCertificate file root fault)) (sym (memory_silent fault memory)) tt

  pub memory_causes : (c : Certificate) (answer : Result Written LookRefusal) → AnswersEach {T = Certificate} (HasNoCertificate file root) (Ok c) → IfErr answer WantsMemory
      → AnswersEach (HasNoCertificate file root) answer
  memory_causes c (Ok w) causes memory cause has = absurd (no_error c cause (causes cause has))
  memory_causes c (Err fault) causes memory cause has =
      subst (λ (b : Bool). OnFalse b (◌≡◌ {A = Result Written LookRefusal} (Err fault) (Err cause))) (sym (memory_silent fault memory)) tt

  -- the cause that a look has is the answer of another look
  pub causes_over : (fault : LookRefusal) → AnswersEach {T = Certificate} (HasNoCertificate file root) (Err fault) → AnswersEach {T = Written} (HasNoCertificate file root) (Err fault)
  causes_over fault causes cause has =
      on_false (looks.says_nothing fault) (◌≡◌ {A = Result Certificate LookRefusal} (Err fault) (Err cause)) (◌≡◌ {A = Result Written LookRefusal} (Err fault) (Err cause))
      (λ same. (let e : fault ≡ cause = cc in ap (λ (x : LookRefusal). Err x) e)) (causes cause has)

-- the disk's fault is the answer of either look
pub same_fault : (fault : LookRefusal) → ◌≡◌ {A = Result Written LookRefusal} (Err fault) (Err (Journal DiskFault)) → ◌≡◌ {A = Result Certificate LookRefusal} (Err fault) (Err (Journal DiskFault))
same_fault fault is = (let e : fault ≡ Journal DiskFault = cc in ap (λ (x : LookRefusal). Err x) e)

pub memory_accepted : (answer : Result Written LookRefusal) → IfErr answer WantsMemory → BlamesNoFile answer
memory_accepted (Ok w) memory = tt
memory_accepted (Err fault) memory = memory_silent fault memory

pub memory_no_fault : (answer : Result Written LookRefusal) → IfErr answer WantsMemory → answer ≡ Err (Journal DiskFault) → ⊥
memory_no_fault answer memory is = by (subst (λ (a : Result Written LookRefusal). IfErr a WantsMemory) is memory)
  where
    by : WantsMemory (Journal DiskFault) → ⊥
    by h = absurd (let e = h.1 in cc)

-- ---- by what is asked

module _ {D : Type 0} (g : Ghosts D) (opened : Opened) (old : D) where
  pub roots_asked : (asked : RootsRequest) (answer : Result Written LookRefusal)
      → (IsHonest g.TELLS → IfOk answer (λ w. ShowsRoots opened (g.reads old) asked.json w.text.items w.is_settled)) → IfOk answer (λ w. IsTrueView opened asked.json w.text.items)
      → IfOk answer (λ w. Shows g opened (request.Roots asked) old w.text.items w.is_settled)
  roots_asked asked (Ok w) shows true_values = (shows, true_values)
  roots_asked asked (Err fault) shows true_values = tt

  pub line_asked : (asked : LineRequest) (answer : Result Written LookRefusal) → IfOk answer (λ w. ShowsLine g asked.root (unwrap_or asked.plies 0) old w.text.items) → IfOk answer (λ w. w.is_settled ≡ true)
      → IfOk answer (λ w. Shows g opened (request.Line asked) old w.text.items w.is_settled)
  line_asked asked (Ok w) shows settled = (shows, settled)
  line_asked asked (Err fault) shows settled = tt

  pub tree_asked : (asked : TreeRequest) (answer : Result Written LookRefusal) → (IsHonest g.TELLS → IfOk answer (λ w. ShowsTreeOf (g.reads old) asked w.text.items)) → IfOk answer (λ w. IsTrueTree asked w.text.items) → IfOk answer (λ w. w.is_settled ≡ true)
      → IfOk answer (λ w. Shows g opened (request.Tree asked) old w.text.items w.is_settled)
  tree_asked asked (Ok w) shows true_tree settled = (shows, (true_tree, settled))
  tree_asked asked (Err fault) shows true_tree settled = tt

  pub records_asked : (asked : RecordsRequest) (answer : Result Written LookRefusal) → (IsHonest g.TELLS → IfOk answer (λ w. ShowsRecords (g.reads old) asked.json w.text.items))
      → IfOk answer (λ w. IsTrueList asked.json w.text.items) → IfOk answer (λ w. w.is_settled ≡ true) → IfOk answer (λ w. Shows g opened (request.Records asked) old w.text.items w.is_settled)
  records_asked asked (Ok w) shows true_list settled = (shows, (true_list, settled))
  records_asked asked (Err fault) shows true_list settled = tt

  pub page_asked : (asked : PageRequest) (answer : Result Written LookRefusal) → (IsHonest g.TELLS → IfOk answer (λ w. ShowsPageOf (g.reads old) asked w.text.items w.is_settled)) → IfOk answer (λ w. IsTruePage asked w.text.items w.is_settled)
      → IfOk answer (λ w. Shows g opened (request.Page asked) old w.text.items w.is_settled)
  page_asked asked (Ok w) shows true_values = (shows, true_values)
  page_asked asked (Err fault) shows true_values = tt
