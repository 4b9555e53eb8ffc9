-- No root is staged between calls: a result that is staged is none, and a commit leaves nothing staged.
use Rattle.std.proofs.Common.{◌≡◌, ℕ, List, [], ◌∷◌, ◌++◌, refl, ap, sym, ◌∙◌}
use Rattle.std.specs.Prelude.{false, Result, Ok, Err, OnOk, IfErr}
use Rattle.std.proofs.lemmas.Bool.{true≢false}
use Rattle.disk_journal.specs.declared.journal.Receipt.{Receipt}
use Rattle.certificate_checker.specs.declared.outcomes.Outcome.{Outcome}
use Rattle.certificate_checker.specs.declared.outcomes.Outcome.TheVariants.{Solved, Exhausted}
use Rattle.lease_table.specs.declared.leases.Lease.{Lease}
use Rattle.bench_records.specs.declared.records.BenchRecord.{BenchRecord}
use Rattle.bench_records.specs.declared.records.BenchRecord.TheVariants.{Begin, Solve, Expand}
use Rattle.bench_core.specs.Records.{begun}
use Rattle.bench_core.specs.Cores.{record_of}
use Rattle.tree_manager.specs.declared.entries.Entry.TheVariants.{Broken}
use Rattle.tree_manager.specs.declared.refusals.CommitRefusal.{CommitRefusal}
use Rattle.tree_manager.specs.declared.refusals.CommitRefusal.TheVariants as commit
use Rattle.tree_manager.specs.Entries.{breaks}
use Rattle.tree_manager.specs.Lines.{is_failed}
use Rattle.tree_manager.specs.Sessions.{SessionState, RefusesCommit}
use Rattle.tree_manager.proofs.LineLemmas.{any_push_yes}

begun_solve : (rs : List BenchRecord) (lease : Lease) (outcome : Outcome) → begun (rs ++ record_of lease outcome ∷ []) ≡ begun rs
begun_solve [] lease (Solved found) = refl
begun_solve [] lease (Exhausted e) = refl
begun_solve (Begin p ∷ rs) lease outcome = ap (λ l. p ∷ l) (begun_solve rs lease outcome)
begun_solve (Solve n p shown ∷ rs) lease outcome = begun_solve rs lease outcome
begun_solve (Expand n ∷ rs) lease outcome = begun_solve rs lease outcome

-- a result is no root
pub result_rootless : (rs : List BenchRecord) (lease : Lease) (outcome : Outcome) → begun rs ≡ [] → begun (rs ++ record_of lease outcome ∷ []) ≡ []
result_rootless rs lease outcome none = begun_solve rs lease outcome ∙ none

-- behind a commit nothing is staged, or the session has failed
pub commit_rootless : {D : Type 0} (faults : D → ℕ) (old new : SessionState D) (result : Result Receipt CommitRefusal) → OnOk result (new.core.staged ≡ []) → IfErr result (RefusesCommit faults old new)
    → is_failed old.line ≡ false → is_failed new.line ≡ false → begun new.core.staged ≡ []
commit_rootless faults old new (Ok receipt) none refused before whole = ap begun none
commit_rootless faults old new (Err commit.Failed) none refused before whole = absurd (true≢false (sym refused.0 ∙ before))
commit_rootless faults old new (Err commit.Disk) none refused before whole =
    absurd (true≢false (sym (ap is_failed refused.1.0.line ∙ any_push_yes breaks old.line (Broken (faults new.disk)) refl) ∙ whole))
