-- From what is read of a journal to what is shown of it.
use Rattle.std.proofs.Common.{◌≡◌, ◌≤◌, ◌<◌, ◌-◌, ◌⊎◌, inl, inr, ℕ, List, length, get_or, slice_get, Option, Some, None, refl, sym, ◌∙◌, ap, subst, arith}
use Rattle.std.specs.Prelude.{true, IfSome, IsSome, OnOk, Result, Ok, Err, IfOk, IfErr}
use Rattle.std.specs.declared.alloc.AllocError.{AllocError}
use Rattle.std.specs.Bool.{OnFalse}
use Rattle.shared_words.specs.Answers.{Unless}
use Rattle.shared_words.proofs.Exactness.{on_false}
use Rattle.std.proofs.lemmas.Bool.{false≢true}
use Rattle.std.proofs.lemmas.Option.{slice_get-get_or, slice_get_within}
use Rattle.disk_journal.specs.declared.refusal.JournalRefusal.{JournalRefusal}
use Rattle.disk_journal.specs.declared.refusal.JournalRefusal.TheVariants as journal
use Rattle.disk_journal.specs.Refusals.{says_nothing_of_file}
use Rattle.draughts_board.specs.declared.pieces.Value.{Value}
use Rattle.strategy_certificate.specs.declared.certificates.Certificate.{Certificate}
use Rattle.strategy_certificate.specs.Tables.{IsTableSize}
use Rattle.proof_tree.specs.Forest.{Forest, Node, nodes, value_of}
use Rattle.proof_tree.specs.Rows.{blank_node}
use Rattle.certificate_joiner.specs.Certified.{IsJoined, claim_for}
use Rattle.journal_looks.specs.declared.refusals.LookRefusal.{LookRefusal}
use Rattle.journal_looks.specs.declared.refusals.LookRefusal.TheVariants.{Journal, NoRoot, UnsettledRoot}
use Rattle.bench_records.specs.declared.records.BenchRecord.{BenchRecord}
use Rattle.tree_manager.specs.Receipts.{ReadsRecords}
use Rattle.journal_looks.specs.Looks.{AnswersEach, BlamesNoFile, Certifies, ClaimsRoot, ExplainsNoCertificate, ExplainsUnread, HasForest, HasNoCertificate, HasNoReport, HasSettledRoot, IsNthRoot, OfRoot, RefusesRoot, says_nothing}
use Rattle.journal_looks.proofs.FileLemmas.{explained_by_none, explained_once, forest_once, read_or_unread}

-- ---- a root

-- the root with a number that is within
pub root_there : (roots : Forest) (n : ℕ) → 1 ≤ n → n ≤ length (nodes roots) → IsNthRoot n roots (get_or (nodes roots) (n - 1) blank_node)
root_there roots n first within = (first, slice_get-get_or (nodes roots) (n - 1) blank_node (omega arith))

-- it has no value
pub unsettled_from : (roots : Forest) (n : ℕ) → OfRoot roots n (λ x. None ≡ value_of x) → (root : Node) × (IsNthRoot n roots root × (value_of root ≡ None))
unsettled_from roots n said =
    let there = root_there roots n said.0 said.1.0 in
    (get_or (nodes roots) (n - 1) blank_node, (there, sym (subst (λ (o : Option Node). IfSome o (λ x. None ≡ value_of x)) there.1 said.1.1)))

-- it has one
pub claims_from : (k : ℕ) (roots : Forest) (n : ℕ) (c : Certificate) → OfRoot roots n (λ x. IsSome (value_of x))
    → IfSome (slice_get (nodes roots) (n - 1)) (λ x. IfSome (value_of x) (λ v. IsJoined k x.own.position (claim_for v) c)) → ClaimsRoot k roots n c
claims_from k roots n c settled said =
    let root = get_or (nodes roots) (n - 1) blank_node in
    let there = root_there roots n settled.0 settled.1.0 in
    let some : IsSome (value_of root) = subst (λ (o : Option Node). IfSome o (λ x. IsSome (value_of x))) there.1 settled.1.1 in
    let joined = subst (λ (o : Option Node). IfSome o (λ x. IfSome (value_of x) (λ v. IsJoined k x.own.position (claim_for v) c))) there.1 said in
    by root there (value_of root) refl some joined
  where
    by : (root : Node) → IsNthRoot n roots root → (v : Option Value) → value_of root ≡ v → IsSome v → IfSome v (λ v. IsJoined k root.own.position (claim_for v) c) → ClaimsRoot k roots n c
    by root there None is some joined = absurd (false≢true some)
    by root there (Some v) is some joined = record { root = root; there = there; value = v; settled = is; joined = joined }

-- ---- of the file

pub certifies_from : (k j : ℕ) (file : List ℕ) (roots : Forest) (n : ℕ) (answer : Result Certificate LookRefusal) → k ≡ j → HasForest k file roots
    → IfOk answer (λ c. IfSome (slice_get (nodes roots) (n - 1)) (λ x. IfSome (value_of x) (λ v. IsJoined j x.own.position (claim_for v) c)))
    → OnOk answer (OfRoot roots n (λ x. IsSome (value_of x))) → IfOk answer (Certifies file n)
certifies_from k j file roots n (Ok c) same has joined settled =
    record { pieces = j; roots = roots; has = subst (λ m. HasForest m file roots) same has; claims = claims_from j roots n c settled joined }
certifies_from k j file roots n (Err refusal) same has joined settled = tt

-- a certificate is for tables of this number of pieces
pub size_from : (k j : ℕ) (roots : Forest) (n : ℕ) (answer : Result Certificate LookRefusal) → k ≡ j → IsTableSize k
    → IfOk answer (λ c. IfSome (slice_get (nodes roots) (n - 1)) (λ x. IfSome (value_of x) (λ v. IsJoined j x.own.position (claim_for v) c)))
    → OnOk answer (OfRoot roots n (λ x. IsSome (value_of x))) → IfOk answer (λ c. IsTableSize c.pieces)
size_from k j roots n (Ok c) same size joined settled = subst IsTableSize (same ∙ sym (claims_from j roots n c settled joined).joined.pieces) size
size_from k j roots n (Err refusal) same size joined settled = tt

pub refuses_from : (k : ℕ) (file : List ℕ) (roots : Forest) (n : ℕ) (answer : Result Certificate LookRefusal) → HasForest k file roots → IfErr answer (RefusesRoot roots n) → IfErr answer (ExplainsNoCertificate file n)
refuses_from k file roots n (Ok c) has refused = tt
refuses_from k file roots n (Err (Journal refusal)) has refused = subst (ExplainsUnread file) (sym refused.1) tt
refuses_from k file roots n (Err (NoRoot m)) has refused = (refused.0, record { pieces = k; roots = roots; has = has; none = refused.1 })
refuses_from k file roots n (Err (UnsettledRoot m)) has refused =
    let of = unsettled_from roots n refused.1 in
    (refused.0, record { pieces = k; roots = roots; has = has; root = of.0; there = of.1.0; unsettled = of.1.1 })

-- a root is not refused for a fault of the disk
pub no_fault : (roots : Forest) (n : ℕ) (answer : Result Certificate LookRefusal) → IfErr answer (RefusesRoot roots n) → answer ≡ Err (Journal journal.DiskFault) → ⊥
no_fault roots n answer refused is = by (subst (λ (a : Result Certificate LookRefusal). IfErr a (RefusesRoot roots n)) is refused)
  where
    by : (error : AllocError) × (journal.DiskFault ≡ journal.Memory error) → ⊥
    by h = absurd cc

-- ---- each cause is the answer

-- a file that is not read has the cause that is told, and no other
module _ (T : Type 0) where
  unread_caused : (file : List ℕ) (refusal cause : JournalRefusal) → ExplainsUnread file refusal → HasNoReport file (Journal cause)
      → Unless {T = T} says_nothing (Err (Journal refusal)) (◌≡◌ {A = Result T LookRefusal} (Err (Journal refusal)) (Err (Journal cause)))
  unread_caused file refusal cause why stands =
      on_false (says_nothing_of_file refusal) (refusal ≡ cause) (◌≡◌ {A = Result T LookRefusal} (Err (Journal refusal)) (Err (Journal cause)))
      (λ same. ap (λ (e : JournalRefusal). Err (Journal e)) same) (explained_once file refusal cause why stands)

  -- a file with a forest is refused for no cause
  unless_read : (k : ℕ) (file : List ℕ) (roots : Forest) (refusal : JournalRefusal) (P : Type 0) → HasForest k file roots → ExplainsUnread file refusal
      → Unless {T = T} says_nothing (Err (Journal refusal)) P
  unless_read k file roots refusal P has why =
      on_false (says_nothing_of_file refusal) _ P (λ here. absurd (read_or_unread k file has.records refusal has.read here)) why

  pub report_unread : (file : List ℕ) (refusal : JournalRefusal) → ExplainsUnread file refusal → AnswersEach {T = T} (HasNoReport file) (Err (Journal refusal))
  report_unread file refusal why (Journal cause) stands = unread_caused file refusal cause why stands
  report_unread file refusal why (NoRoot m) stands = absurd stands
  report_unread file refusal why (UnsettledRoot m) stands = absurd stands

  pub report_read : (k : ℕ) (file : List ℕ) (roots : Forest) (looked : T) → HasForest k file roots → AnswersEach {T = T} (HasNoReport file) (Ok looked)
  report_read k file roots looked has (Journal cause) stands = absurd (read_or_unread k file has.records cause has.read stands)
  report_read k file roots looked has (NoRoot m) stands = absurd stands
  report_read k file roots looked has (UnsettledRoot m) stands = absurd stands

  pub certify_unread : (file : List ℕ) (n : ℕ) (refusal : JournalRefusal) → ExplainsUnread file refusal → AnswersEach {T = T} (HasNoCertificate file n) (Err (Journal refusal))
  certify_unread file n refusal why (Journal cause) stands = unread_caused file refusal cause why stands
  certify_unread file n refusal why (NoRoot m) stands = unless_read stands.1.pieces file stands.1.roots refusal _ stands.1.has why
  certify_unread file n refusal why (UnsettledRoot m) stands = unless_read stands.1.pieces file stands.1.roots refusal _ stands.1.has why

  -- where the file reads as records it is not blamed
  pub unread_accepted : (k : ℕ) (file : List ℕ) (records : List BenchRecord) (refusal : JournalRefusal) → ReadsRecords k file records → ExplainsUnread file refusal
      → BlamesNoFile {T = T} (Err (Journal refusal))
  unread_accepted k file records refusal read why = explained_by_none k file records refusal read why

-- no root has this number, or one has
no_root : (roots : Forest) (n : ℕ) (P : Node → Type 0) → OfRoot roots n P → (n ≡ 0) ⊎ (length (nodes roots) < n) → ⊥
no_root roots n P of (inl zero) = omega (arith, of.0, zero)
no_root roots n P of (inr past) = omega (arith, of.1.0, past)

not_there : (roots : Forest) (n : ℕ) (root : Node) → IsNthRoot n roots root → (n ≡ 0) ⊎ (length (nodes roots) < n) → ⊥
not_there roots n root there (inl zero) = omega (arith, there.0, zero)
not_there roots n root there (inr past) =
    let within = slice_get_within (nodes roots) (n - 1) root there.1 in omega (arith, there.0, past, within)

-- what holds of the nth root holds of that one
of_root : (roots : Forest) (n : ℕ) (root : Node) (P : Node → Type 0) → IsNthRoot n roots root → OfRoot roots n P → P root
of_root roots n root P there of = subst (λ (o : Option Node). IfSome o P) there.1 of.1.1

none_some : (v : Value) → None ≡ Some v → ⊥
none_some v e = cc

memory_says : (refusal : JournalRefusal) (P : Type 0) → (error : AllocError) × (refusal ≡ journal.Memory error) → OnFalse (says_nothing_of_file refusal) P
memory_says refusal P is = subst (λ (r : JournalRefusal). OnFalse (says_nothing_of_file r) P) (sym is.1) tt

-- where no root has the number, that is the refusal
none_caused : (roots : Forest) (n m : ℕ) (answer : Result Certificate LookRefusal) → OnOk answer (OfRoot roots n (λ x. IsSome (value_of x))) → IfErr answer (RefusesRoot roots n)
    → m ≡ n → (n ≡ 0) ⊎ (length (nodes roots) < n) → Unless says_nothing answer (answer ≡ Err (NoRoot m))
none_caused roots n m (Ok c) settled refused same none = absurd (no_root roots n (λ x. IsSome (value_of x)) settled none)
none_caused roots n m (Err (Journal refusal)) settled refused same none = memory_says refusal _ refused
none_caused roots n m (Err (NoRoot i)) settled refused same none = ap (λ (j : ℕ). Err (NoRoot j)) (refused.0 ∙ sym same)
none_caused roots n m (Err (UnsettledRoot i)) settled refused same none = absurd (no_root roots n (λ x. None ≡ value_of x) refused.1 none)

-- where the root has no value, that is
unsettled_caused : (roots : Forest) (n m : ℕ) (answer : Result Certificate LookRefusal) → OnOk answer (OfRoot roots n (λ x. IsSome (value_of x))) → IfErr answer (RefusesRoot roots n)
    → m ≡ n → (root : Node) → IsNthRoot n roots root → value_of root ≡ None → Unless says_nothing answer (answer ≡ Err (UnsettledRoot m))
unsettled_caused roots n m (Ok c) settled refused same root there unsettled =
    absurd (false≢true (subst (λ (v : Option Value). IsSome v) unsettled (of_root roots n root (λ x. IsSome (value_of x)) there settled)))
unsettled_caused roots n m (Err (Journal refusal)) settled refused same root there unsettled = memory_says refusal _ refused
unsettled_caused roots n m (Err (NoRoot i)) settled refused same root there unsettled = absurd (not_there roots n root there refused.1)
unsettled_caused roots n m (Err (UnsettledRoot i)) settled refused same root there unsettled = ap (λ (j : ℕ). Err (UnsettledRoot j)) (refused.0 ∙ sym same)

pub certify_read : (k : ℕ) (file : List ℕ) (roots : Forest) (n : ℕ) (answer : Result Certificate LookRefusal) → HasForest k file roots
    → OnOk answer (OfRoot roots n (λ x. IsSome (value_of x))) → IfErr answer (RefusesRoot roots n) → AnswersEach (HasNoCertificate file n) answer
certify_read k file roots n answer has settled refused (Journal cause) stands = absurd (read_or_unread k file has.records cause has.read stands)
certify_read k file roots n answer has settled refused (NoRoot m) stands =
    none_caused roots n m answer settled refused stands.0
    (subst (λ (f : Forest). (n ≡ 0) ⊎ (length (nodes f) < n)) (forest_once stands.1.pieces k file stands.1.roots roots stands.1.has has) stands.1.none)
certify_read k file roots n answer has settled refused (UnsettledRoot m) stands =
    unsettled_caused roots n m answer settled refused stands.0 stands.1.root
    (subst (λ (f : Forest). IsNthRoot n f stands.1.root) (forest_once stands.1.pieces k file stands.1.roots roots stands.1.has has) stands.1.there) stands.1.unsettled

-- a root with a value is not blamed
settled_by : (roots : Forest) (n : ℕ) (answer : Result Certificate LookRefusal) → IfErr answer (RefusesRoot roots n) → (root : Node) (v : Value) → IsNthRoot n roots root → value_of root ≡ Some v
    → BlamesNoFile answer
settled_by roots n (Ok c) refused root v there settled = tt
settled_by roots n (Err (Journal refusal)) refused root v there settled = subst (λ (r : JournalRefusal). says_nothing_of_file r ≡ true) (sym refused.1) refl
settled_by roots n (Err (NoRoot i)) refused root v there settled = absurd (not_there roots n root there refused.1)
settled_by roots n (Err (UnsettledRoot i)) refused root v there settled =
    absurd (none_some v (of_root roots n root (λ x. None ≡ value_of x) there refused.1 ∙ settled))

pub certify_accepted : (k : ℕ) (file : List ℕ) (roots : Forest) (n : ℕ) (answer : Result Certificate LookRefusal) → HasForest k file roots → IfErr answer (RefusesRoot roots n)
    → HasSettledRoot file n → BlamesNoFile answer
certify_accepted k file roots n answer has refused h =
    settled_by roots n answer refused h.root h.value (subst (λ (f : Forest). IsNthRoot n f h.root) (forest_once h.pieces k file h.roots roots h.has has) h.there) h.settled
