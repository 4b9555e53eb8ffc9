-- What a call of a session does to its line, as one relation.
use Rattle.std.proofs.Common.{◌≡◌, ◌≢◌, ℕ, List, [], ◌∷◌, ◌++◌, length, refl, ap, sym, ◌∙◌, subst, inl, inr, ⊎_elim}
use Rattle.std.specs.Prelude.{true, false, Contains, Some, Result, Ok, Err, IfOk, IfErr, OnOk, OnErr}
use Rattle.std.specs.List.{AllByRecursion as Each}
use Rattle.std.proofs.lemmas.Bool.{cases_Bool}
use Rattle.shared_words.specs.Counts.{Rose}
use Rattle.turn_lock.proofs.Growing.{GrowsTo-same, GrowsTo-trans, GrowsTo-push}
use Rattle.certificate_checker.specs.declared.outcomes.Outcome.{Outcome}
use Rattle.certificate_checker.specs.declared.outcomes.Outcome.TheVariants.{Solved, Exhausted}
use Rattle.disk_journal.specs.declared.journal.Receipt.{Receipt}
use Rattle.lease_table.specs.declared.leases.Lease.{Lease}
use Rattle.lease_table.specs.declared.leases.Stale.{Stale}
use Rattle.bench_records.specs.declared.records.BenchRecord.{BenchRecord}
use Rattle.bench_core.specs.declared.refusals.LeaseRefusal.{LeaseRefusal}
use Rattle.bench_core.specs.declared.refusals.LeaseRefusal.TheVariants as lease
use Rattle.bench_core.specs.States.{CoreState, HasRow, lease_answer}
use Rattle.bench_core.specs.Cores.{record_of}
use Rattle.bench_core.specs.Answers.{unkept}
use Rattle.tree_manager.specs.declared.entries.Attachment.{Attachment}
use Rattle.tree_manager.specs.declared.entries.Entry.{Entry}
use Rattle.tree_manager.specs.declared.entries.Entry.TheVariants.{Put, Attached, Leased, Released, Acked, Broken}
use Rattle.tree_manager.specs.declared.refusals.StageRefusal.{StageRefusal}
use Rattle.tree_manager.specs.declared.refusals.StageRefusal.TheVariants as stage
use Rattle.tree_manager.specs.declared.refusals.CommitRefusal.{CommitRefusal}
use Rattle.tree_manager.specs.declared.refusals.CommitRefusal.TheVariants as commit
use Rattle.tree_manager.specs.Entries.{faults_told}
use Rattle.tree_manager.specs.Lines.{recorded, unapplied_in, attachment_of, is_failed, EndsBroken}
use Rattle.tree_manager.specs.Histories.{IsHistory, IsCoreOf}
use Rattle.tree_manager.specs.Sessions.{SessionState, Appends, MayAddInTurn, RefusesLeaseIn, RefusesStage, RefusesCommit}
use Rattle.tree_manager.specs.Turns.{GrowsByTurns, InStateOf, Leases, Stages, Releases, Commits}
use Rattle.tree_manager.proofs.LineLemmas.{staged_none}
use Rattle.tree_manager.proofs.CoreLemmas.{attachment_push}
use Rattle.tree_manager.proofs.HistoryLaws.{history_stands}

-- ---- growing

pub grows_same : (xs ys : List Entry) → ys ≡ xs → GrowsByTurns xs ys
grows_same xs ys same = subst (λ zs. GrowsByTurns xs zs) (sym same) (GrowsTo-same MayAddInTurn xs)

pub grows_then : (xs ys zs : List Entry) → GrowsByTurns xs ys → GrowsByTurns ys zs → GrowsByTurns xs zs
grows_then = GrowsTo-trans MayAddInTurn

pub grows_push : (xs ys : List Entry) (e : Entry) → MayAddInTurn e → ys ≡ xs ++ e ∷ [] → GrowsByTurns xs ys
grows_push xs ys e may is = subst (λ zs. GrowsByTurns xs zs) (sym is) (GrowsTo-push MayAddInTurn xs e may)

-- a turn may stage a result
result_may : (given : Lease) (outcome : Outcome) → MayAddInTurn (Put (record_of given outcome))
result_may given (Solved found) = refl
result_may given (Exhausted e) = refl

module _ (old new : List Entry) where
  pub leases_grow : (worker : ℕ) (answer : Result Lease LeaseRefusal) → Leases old new worker answer → GrowsByTurns old new
  leases_grow worker (Ok given) h = grows_push old new (Leased given) tt h.0
  leases_grow worker (Err lease.Failed) h = grows_same old new h.0
  leases_grow worker (Err lease.Done) h = grows_same old new h.0
  leases_grow worker (Err (lease.Spent records budget)) h = grows_same old new h.0
  leases_grow worker (Err (lease.NoLeaf live)) h = grows_same old new h.0
  leases_grow worker (Err (lease.Memory error)) h = grows_same old new h

  pub stages_grow : (given : Lease) (outcome : Outcome) (answer : Result (Unit {0}) StageRefusal) → Stages old new given outcome answer → GrowsByTurns old new
  stages_grow given outcome (Ok t) h = grows_push old new (Put (record_of given outcome)) (result_may given outcome) h.0
  stages_grow given outcome (Err stage.Failed) h = grows_same old new h.0
  stages_grow given outcome (Err (stage.Stale id)) h = grows_same old new h.0
  stages_grow given outcome (Err (stage.Memory error)) h = grows_same old new h

  pub releases_grow : (id : ℕ) (answer : Result (Unit {0}) Stale) → Releases old new id answer → GrowsByTurns old new
  releases_grow id (Ok t) h = grows_push old new (Released id) tt h.0
  releases_grow id (Err stale) h = grows_same old new h.0

  pub commits_grow : (answer : Result Receipt CommitRefusal) → Commits old new answer → GrowsByTurns old new
  commits_grow (Ok receipt) h = by_staged (unapplied_in old) refl
    where
      by_staged : (staged : List BenchRecord) → unapplied_in old ≡ staged → GrowsByTurns old new
      by_staged [] is = grows_same old new (h.idle is)
      by_staged (r ∷ rs) is = grows_push old new (Acked receipt.moment) tt (h.acked (λ none. cc (sym is ∙ none)))
  commits_grow (Err commit.Failed) h = grows_same old new h.0
  commits_grow (Err commit.Disk) h = grows_push old new (Broken h.0.0) tt h.0.1

-- ---- the calls

-- the Attached is one of the line's entries
attached_each : (P : ℕ → Type 0) (line : List Entry) (a : Attachment) → Each (λ e. P (faults_told e)) line → attachment_of line ≡ Some a → P a.faults
attached_each P [] a each h = absurd (cc h)
attached_each P (Put r ∷ line) a each h = attached_each P line a each.1 h
attached_each P (Attached b ∷ line) a each h =
    let same : b ≡ a = cc h in subst (λ (x : Attachment). P x.faults) same each.0
attached_each P (Leased l ∷ line) a each h = attached_each P line a each.1 h
attached_each P (Released id ∷ line) a each h = attached_each P line a each.1 h
attached_each P (Acked m ∷ line) a each h = attached_each P line a each.1 h
attached_each P (Broken f ∷ line) a each h = attached_each P line a each.1 h

module _ {D : Type 0} (old new : SessionState D) (history : IsHistory old.line old.core) (ended : is_failed old.line ≡ true → EndsBroken old.line) where
  stands : IsCoreOf old.line old.core
  stands = (history_stands old.line old.core history).0

  same_line : new ≡ old → new.line ≡ old.line
  same_line same = ap (λ (s : SessionState D). s.line) same

  in_old : (P : CoreState → Type 0) → P old.core.state → InStateOf old.line P
  in_old P holds = record { core = old.core; stands = stands; holds = holds }

  in_new : new ≡ old → (P : CoreState → Type 0) → P old.core.state → InStateOf new.line P
  in_new same P holds = subst (λ line. InStateOf line P) (sym (same_line same)) (in_old P holds)

  broken_new : new ≡ old → is_failed old.line ≡ true → EndsBroken new.line
  broken_new same failed = subst EndsBroken (sym (same_line same)) (ended failed)

  pub lease_turn : (worker : ℕ) (answer : Result Lease LeaseRefusal)
      → IfOk answer (λ given. lease_answer old.core.state worker ≡ Ok given)
      → IfOk answer (λ given. Appends old (Leased given) new)
      → IfErr answer (RefusesLeaseIn old.line (lease_answer old.core.state worker))
      → OnErr answer (new ≡ old)
      → Leases old.line new.line worker answer
  lease_turn worker (Ok given) answers appends refused same =
      (appends.line, in_old (λ s. lease_answer s worker ≡ Ok given) answers)
  lease_turn worker (Err lease.Failed) answers appends refused same =
      (same_line same, broken_new same (⊎_elim (λ h. h.0) (λ h. absurd h.1) refused))
  lease_turn worker (Err lease.Done) answers appends refused same =
      (same_line same, in_new same (λ s. lease_answer s worker ≡ Err lease.Done) (⊎_elim (λ h. absurd (cc (h.1))) (λ h. h.1) refused))
  lease_turn worker (Err (lease.Spent records budget)) answers appends refused same =
      (same_line same, in_new same (λ s. lease_answer s worker ≡ Err (lease.Spent records budget)) (⊎_elim (λ h. absurd (cc (h.1))) (λ h. h.1) refused))
  lease_turn worker (Err (lease.NoLeaf live)) answers appends refused same =
      (same_line same, in_new same (λ s. lease_answer s worker ≡ Err (lease.NoLeaf live)) (⊎_elim (λ h. absurd (cc (h.1))) (λ h. h.1) refused))
  lease_turn worker (Err (lease.Memory error)) answers appends refused same = same_line same

  pub stage_turn : (given : Lease) (outcome : Outcome) (answer : Result (Unit {0}) StageRefusal)
      → OnOk answer (Appends old (Put (record_of given outcome)) new)
      → OnOk answer (Contains old.core.state.leases.rows (unkept given))
      → IfErr answer (RefusesStage old.line old.core.state given)
      → OnErr answer (new ≡ old)
      → Stages old.line new.line given outcome answer
  stage_turn given outcome (Ok t) appends live refused same =
      (appends.line, in_old (λ s. Contains s.leases.rows (unkept given)) live)
  stage_turn given outcome (Err stage.Failed) appends live refused same =
      (same_line same, broken_new same refused)
  stage_turn given outcome (Err (stage.Stale id)) appends live refused same =
      (same_line same, (refused.1.0, in_new same (λ s. ¬ Contains s.leases.rows (unkept given)) refused.1.1))
  stage_turn given outcome (Err (stage.Memory error)) appends live refused same = same_line same

  pub release_turn : (id : ℕ) (answer : Result (Unit {0}) Stale)
      → OnOk answer (Appends old (Released id) new)
      → IfErr answer (λ stale. (stale ≡ record { 0 = id }) × (is_failed old.line ≡ false → ¬ HasRow (λ row. row.kept ≡ false) old.core.state id))
      → OnErr answer (new ≡ old)
      → Releases old.line new.line id answer
  release_turn id (Ok t) appends stale same =
      (appends.line, in_old (λ s. HasRow (λ row. row.kept ≡ false) s id) appends.enters.0)
  release_turn id (Err e) appends stale same = (
    same_line same,
    (
      ap (λ (s : Stale). s.0) stale.0,
      ⊎_elim
          (λ failed. inr (broken_new same failed))
          (λ whole. inl (in_new same (λ s. ¬ HasRow (λ row. row.kept ≡ false) s id) (stale.1 whole)))
          (cases_Bool (is_failed old.line)),
    ),
  )

  pub commit_turn : (faults : D → ℕ) (answer : Result Receipt CommitRefusal)
      → OnOk answer (is_failed old.line ≡ false)
      → (is_failed old.line ≡ false → old.core.staged ≡ [] → OnOk answer (new ≡ old))
      → (old.core.staged ≢ [] → IfOk answer (λ receipt. Appends old (Acked receipt.moment) new))
      → IfOk answer (λ receipt. receipt.number ≡ length (recorded new.line))
      → IfErr answer (RefusesCommit faults old new)
      → Commits old.line new.line answer
  commit_turn faults (Ok receipt) whole idle appends number refused =
      record {
        none_staged = by_staged old.core.staged refl;
        idle = λ none. same_line (idle whole (stands.staged ∙ none));
        acked = λ some. (appends (λ none. some (sym stands.staged ∙ none))).line;
        number = number;
      }
    where
      by_staged : (staged : List BenchRecord) → old.core.staged ≡ staged → unapplied_in new.line ≡ []
      by_staged [] is = ap unapplied_in (same_line (idle whole is)) ∙ (sym stands.staged ∙ is)
      by_staged (r ∷ rs) is = ap unapplied_in (appends (λ none. cc (sym is ∙ none))).line ∙ staged_none old.line (Acked receipt.moment) refl
  commit_turn faults (Err commit.Failed) whole idle appends number refused =
      (same_line refused.1, broken_new refused.1 refused.0)
  commit_turn faults (Err commit.Disk) whole idle appends number refused =
      let a : Attachment = stands.state.attachment in
      let is = refused.1.0.line in (
        (faults new.disk, is),
        record {
          before = old.line;
          faults = faults new.disk;
          ends = is;
          attachment = a;
          attached = subst (λ line. attachment_of line ≡ Some a) (sym is) (attachment_push old.line (Broken (faults new.disk)) a stands.state.attached);
          rose = attached_each (λ n. Rose n (faults new.disk)) old.line a refused.1.1.0 stands.state.attached;
        },
      )
