-- A lease, its result and a commit, one behind the other.
use Rattle.std.proofs.Common.{◌≡◌, ◌+◌, ℕ, List, [], ◌∷◌, ◌++◌, refl, ap, sym, ◌∙◌, subst, arith, ⊎_elim}
use Rattle.std.specs.Prelude.{Bool, true, false, cond, if◌then◌else◌, nat_le, ◌&&◌, count_by, is_some, IsSome, All, Option, Some, None, Result, Err}
use Rattle.std.specs.List.{list_any, list_all}
use Rattle.std.proofs.lemmas.Bool.{true≢false}
use Rattle.std.proofs.lemmas.List.Elements.{All-head, All-tail}
use Rattle.draughts_board.specs.declared.pieces.Side.{Side}
use Rattle.certificate_checker.specs.declared.outcomes.Outcome.{Outcome}
use Rattle.certificate_checker.specs.declared.outcomes.Outcome.TheVariants.{Solved, Exhausted}
use Rattle.proof_tree.specs.Forest.{Node, nodes, value_of}
use Rattle.proof_tree.specs.Picking.{pick}
use Rattle.proof_tree.proofs.OpenLeaves.{all_settled}
use Rattle.lease_table.specs.declared.leases.Lease.{Lease}
use Rattle.lease_table.specs.declared.leases.Row.{Row}
use Rattle.lease_table.specs.Rows.{is_live_row, is_of, is_leased}
use Rattle.bench_records.specs.declared.records.BenchRecord.{BenchRecord}
use Rattle.bench_core.specs.declared.refusals.LeaseRefusal.{LeaseRefusal}
use Rattle.bench_core.specs.declared.refusals.LeaseRefusal.TheVariants.{Failed, Done, Spent, NoLeaf}
use Rattle.bench_core.specs.Records.{is_work}
use Rattle.bench_core.specs.States.{CoreState, are_settled, lease_of_picked, lease_answer}
use Rattle.bench_core.specs.Cores.{Core, IsCommitted, record_of, with_staged}
use Rattle.bench_core.specs.Answers.{RefusesLease}
use Rattle.turn_lock.specs.Growth.{GrowsTo}
use Rattle.turn_lock.proofs.Growing.{GrowsTo-push, GrowsTo-same, GrowsTo-trans}
use Rattle.tree_manager.specs.declared.entries.Entry.{Entry}
use Rattle.tree_manager.specs.declared.entries.Entry.TheVariants.{Put, Leased, Broken}
use Rattle.tree_manager.specs.declared.refusals.CommitRefusal.{CommitRefusal}
use Rattle.tree_manager.specs.declared.refusals.CommitRefusal.TheVariants as commit
use Rattle.tree_manager.specs.Entries.{breaks}
use Rattle.tree_manager.specs.Lines.{is_failed}
use Rattle.tree_manager.specs.Sessions.{SessionState, MayAddInTurn, RefusesCommit, RefusesLeaseIn}
use Rattle.tree_manager.proofs.LineLemmas.{any_push_yes}
use Rattle.tree_manager.proofs.CoreLemmas.{run_grown, IsGrownState}

-- ---- the answer to a worker

abbrev Answer : Type 0
Answer = Result Lease LeaseRefusal

abbrev answered : CoreState → ℕ → Bool → Bool → Option (ℕ × Side) → Answer
answered s worker settled spent found = if settled then Err Done else (if spent then Err (Spent s.work s.settings.budget) else lease_of_picked s worker found)

none_left : (s : CoreState) (worker : ℕ) (settled spent : Bool) (found : Option (ℕ × Side)) (live : ℕ) → answered s worker settled spent found ≡ Err (NoLeaf live) → (settled ≡ false) × (found ≡ None)
none_left s worker true spent found live h = absurd (cc h)
none_left s worker false true found live h = absurd (cc h)
none_left s worker false false None live h = (refl, refl)
none_left s worker false false (Some leaf) live h = absurd (cc h)

settled_all : (roots : List Node) → All (λ root. IsSome (value_of root)) roots → list_all (λ root. is_some (value_of root)) roots ≡ true
settled_all [] all = refl
settled_all (x ∷ roots) all =
    let tail = settled_all roots (All-tail (λ root. IsSome (value_of root)) x roots all) in
    rw (All-head (λ root. IsSome (value_of root)) x roots all) tail

-- where no lease lives, some leaf is open
pub leaf_left : (s : CoreState) (worker live : ℕ) → s.leases.rows ≡ [] → lease_answer s worker ≡ Err (NoLeaf live) → ⊥
leaf_left s worker live none h =
    let now = s.given + 1 in
    let both = none_left s worker (are_settled s.forest) (nat_le s.settings.budget s.work) (pick (λ n. is_leased s.leases n now) s.forest) live h in
    let free : (λ (n : ℕ). is_leased s.leases n now) ≡ (λ (n : ℕ). false) = ap (λ (rows : List Row). λ (n : ℕ). list_any (λ row. is_of n row && is_live_row s.leases.limit now row) rows) none in
    let picks : pick (λ n. false) s.forest ≡ None = sym (ap (λ (t : ℕ → Bool). pick t s.forest) free) ∙ both.1 in
    true≢false (sym (settled_all (nodes s.forest) (all_settled (nodes s.forest) picks)) ∙ both.0)

pub no_leaf : (line : List Entry) (s : CoreState) (worker live : ℕ) (refusal : LeaseRefusal) → s.leases.rows ≡ [] → RefusesLeaseIn line (lease_answer s worker) refusal → refusal ≡ NoLeaf live → ⊥
no_leaf line s worker live refusal none h is = ⊎_elim
    (λ failed. let no : Failed ≡ NoLeaf live = sym failed.1 ∙ is in cc no)
    (λ free. leaf_left s worker live none (subst (RefusesLease (lease_answer s worker)) is free.1))
    h

-- ---- one turn

-- the outcome is a work record
pub outcome_works : (lease : Lease) (outcome : Outcome) → is_work (record_of lease outcome) ≡ true
outcome_works lease (Solved found) = refl
outcome_works lease (Exhausted e) = refl

module _ (one two three : Core) (lease : Lease) (outcome : Outcome) where
  committed_grows : IsCommitted two three → IsGrownState two.state three.state two.staged
  committed_grows committed = subst (IsGrownState two.state three.state) committed.in_order (run_grown two.state three.state committed.events committed.run)

  pub settings_stay : two ≡ with_staged one (record_of lease outcome) → IsCommitted two three → three.state.settings ≡ one.state.settings
  settings_stay staged committed = (committed_grows committed).settings ∙ ap (λ (c : Core). c.state.settings) staged

  one_work : (r : BenchRecord) (n : ℕ) → is_work r ≡ true → n + count_by is_work (r ∷ []) ≡ n + 1
  one_work r n h = ap (λ b. n + (0 + cond b 1 0)) h ∙ omega arith

  pub work_rises : one.staged ≡ [] → two ≡ with_staged one (record_of lease outcome) → IsCommitted two three → three.state.work ≡ one.state.work + 1
  work_rises none staged committed =
      let r = record_of lease outcome in
      (committed_grows committed).work
      ∙ (ap (λ (c : Core). c.state.work + count_by is_work c.staged) staged
      ∙ (ap (λ (rs : List BenchRecord). one.state.work + count_by is_work (rs ++ r ∷ [])) none
      ∙ one_work r one.state.work (outcome_works lease outcome)))

  some_staged : (rs : List BenchRecord) (r : BenchRecord) → rs ++ r ∷ [] ≡ [] → ⊥
  some_staged [] r h = absurd (cc h)
  some_staged (x ∷ rs) r h = absurd (cc h)

  pub is_staged : two ≡ with_staged one (record_of lease outcome) → two.staged ≡ [] → ⊥
  is_staged staged none = some_staged one.staged (record_of lease outcome) (sym (ap (λ (c : Core). c.staged) staged) ∙ none)

-- ---- lines

pub grows_two : (zero one two : List Entry) (lease : Lease) (r : BenchRecord) → is_work r ≡ true → one ≡ zero ++ Leased lease ∷ [] → two ≡ one ++ Put r ∷ [] → GrowsTo MayAddInTurn zero two
grows_two zero one two lease r work leased put =
    GrowsTo-trans MayAddInTurn zero one two (subst (GrowsTo MayAddInTurn zero) (sym leased) (GrowsTo-push MayAddInTurn zero (Leased lease) tt))
    (subst (GrowsTo MayAddInTurn one) (sym put) (GrowsTo-push MayAddInTurn one (Put r) work))

pub grows_one : (zero one : List Entry) (e : Entry) → MayAddInTurn e → one ≡ zero ++ e ∷ [] → GrowsTo MayAddInTurn zero one
grows_one zero one e may is = subst (GrowsTo MayAddInTurn zero) (sym is) (GrowsTo-push MayAddInTurn zero e may)

pub grows_none : (zero one : List Entry) → one ≡ zero → GrowsTo MayAddInTurn zero one
grows_none zero one is = subst (GrowsTo MayAddInTurn zero) (sym is) (GrowsTo-same MayAddInTurn zero)

pub grows_then : (xs ys zs : List Entry) → GrowsTo MayAddInTurn xs ys → GrowsTo MayAddInTurn ys zs → GrowsTo MayAddInTurn xs zs
grows_then = GrowsTo-trans MayAddInTurn

-- ---- a commit

-- one that is not Ok leaves the session failed, and its line goes on by a Broken at most
pub failed_now : {D : Type 0} (faults : D → ℕ) (two three : SessionState D) (refusal : CommitRefusal) → RefusesCommit faults two three refusal → is_failed three.line ≡ true
failed_now faults two three commit.Failed h = ap (λ (s : SessionState _). is_failed s.line) h.1 ∙ h.0
failed_now faults two three commit.Disk h = ap is_failed h.1.0.line ∙ any_push_yes breaks two.line (Broken (faults three.disk)) refl

pub grows_failed : {D : Type 0} (faults : D → ℕ) (two three : SessionState D) (refusal : CommitRefusal) → RefusesCommit faults two three refusal → GrowsTo MayAddInTurn two.line three.line
grows_failed faults two three commit.Failed h = grows_none two.line three.line (ap (λ (s : SessionState _). s.line) h.1)
grows_failed faults two three commit.Disk h = grows_one two.line three.line (Broken (faults three.disk)) tt h.1.0.line
