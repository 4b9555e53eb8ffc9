-- While roots wait in the first pass no root grows: what is put is no expansion.
use Rattle.std.proofs.Common.{◌≡◌, ℕ, List, [], ◌∷◌, ◌++◌, refl, sym, ◌∙◌, subst, inl, inr}
use Rattle.std.specs.Prelude.{All, true, ◌⊎◌, Result, Ok, Err}
use Rattle.std.proofs.lemmas.Bool.{false≢true}
use Rattle.std.proofs.lemmas.List.Elements.{All-weaker}
use Rattle.certificate_checker.specs.declared.outcomes.Outcome.{Outcome}
use Rattle.certificate_checker.specs.declared.outcomes.Outcome.TheVariants.{Solved, Exhausted}
use Rattle.disk_journal.specs.declared.journal.Receipt.{Receipt}
use Rattle.lease_table.specs.declared.leases.Lease.{Lease}
use Rattle.bench_records.specs.declared.records.BenchRecord.{BenchRecord}
use Rattle.bench_records.specs.declared.records.BenchRecord.TheVariants.{Begin, Solve, Expand}
use Rattle.bench_core.specs.declared.refusals.LeaseRefusal.{LeaseRefusal}
use Rattle.bench_core.specs.declared.refusals.LeaseRefusal.TheVariants as lease
use Rattle.bench_core.specs.Cores.{record_of}
use Rattle.turn_lock.specs.Growth.{GrowsTo}
use Rattle.turn_lock.proofs.Growing.{GrowsTo-push, GrowsTo-same, GrowsTo-trans}
use Rattle.tree_manager.specs.declared.entries.Entry.{Entry}
use Rattle.tree_manager.specs.declared.entries.Entry.TheVariants.{Put, Attached, Leased, Released, Acked, Broken}
use Rattle.tree_manager.specs.declared.refusals.CommitRefusal.{CommitRefusal}
use Rattle.tree_manager.specs.declared.refusals.CommitRefusal.TheVariants as commit
use Rattle.tree_manager.specs.declared.refusals.StageRefusal.{StageRefusal}
use Rattle.tree_manager.specs.declared.refusals.StageRefusal.TheVariants as stage
use Rattle.tree_manager.specs.Lines.{unapplied_in}
use Rattle.tree_manager.specs.Sessions.{MayAddInTurn, SessionState}
use Rattle.tree_manager.specs.Turns.{GrowsByTurns, AllAcknowledged, AsksForSearch, Commits, Leases, StagesNumbered}
use Rattle.tree_manager.proofs.SearchLemmas.{pieces_stay, depth_stays}
use Rattle.worker_gate.specs.Work.{is_value_told}
use Rattle.worker_gate.specs.declared.worker.Ended.{Ended}
use Rattle.worker_gate.specs.declared.worker.Ended.TheVariants as end
use Rattle.journal_runs.specs.Ends.{IsEndedBy}
use Rattle.journal_runs.specs.FirstPass.{MayAddUngrown, GrowsNoRoot, IsStoppedBy}

may_add : (e : Entry) → MayAddUngrown e → MayAddInTurn e
may_add (Put (Begin p)) may = absurd may
may_add (Put (Solve n p shown)) may = refl
may_add (Put (Expand n)) may = absurd may
may_add (Attached a) may = absurd may
may_add (Leased lease) may = tt
may_add (Released id) may = tt
may_add (Acked moment) may = tt
may_add (Broken faults) may = tt

-- it is growth by turns
pub by_turns : (old new : List Entry) → GrowsNoRoot old new → GrowsByTurns old new
by_turns old new grows = record { added = grows.added; whole = grows.whole; allowed = All-weaker MayAddUngrown MayAddInTurn may_add grows.added grows.allowed }

pub ungrown_then : (xs ys zs : List Entry) → GrowsNoRoot xs ys → GrowsNoRoot ys zs → GrowsNoRoot xs zs
ungrown_then = GrowsTo-trans MayAddUngrown

pub ungrown_same : (old new : List Entry) → new ≡ old → GrowsNoRoot old new
ungrown_same old new is = subst (GrowsNoRoot old) (sym is) (GrowsTo-same MayAddUngrown old)

pub ungrown_one : (old new : List Entry) (e : Entry) → MayAddUngrown e → new ≡ old ++ e ∷ [] → GrowsNoRoot old new
ungrown_one old new e may is = subst (GrowsNoRoot old) (sym is) (GrowsTo-push MayAddUngrown old e may)

-- what tells a value is no expansion
pub told_ungrown : (lease : Lease) (outcome : Outcome) → is_value_told outcome ≡ true → MayAddUngrown (Put (record_of lease outcome))
told_ungrown lease (Solved found) told = tt
told_ungrown lease (Exhausted e) told = absurd (false≢true told)

ungrown_acknowledged : (old new : List Entry) (receipt : Receipt) (unapplied : List BenchRecord) → unapplied_in old ≡ unapplied → AllAcknowledged old new receipt → GrowsNoRoot old new
ungrown_acknowledged old new receipt [] none all = ungrown_same old new (all.idle none)
ungrown_acknowledged old new receipt (r ∷ rs) some all = ungrown_one old new (Acked receipt.moment) tt (all.acked (λ none. let no : r ∷ rs ≡ [] = sym some ∙ none in cc no))

pub commit_ungrown : (old new : List Entry) (answer : Result Receipt CommitRefusal) → Commits old new answer → GrowsNoRoot old new
commit_ungrown old new (Ok receipt) all = ungrown_acknowledged old new receipt (unapplied_in old) refl all
commit_ungrown old new (Err commit.Failed) failed = ungrown_same old new failed.0
commit_ungrown old new (Err commit.Disk) broke = ungrown_one old new (Broken broke.0.0) tt broke.0.1

pub stage_ungrown : (old new : List Entry) (given : Lease) (outcome : Outcome) (answer : Result ℕ StageRefusal) → StagesNumbered old new given outcome answer → is_value_told outcome ≡ true → GrowsNoRoot old new
stage_ungrown old new given outcome (Ok number) staged told = ungrown_one old new (Put (record_of given outcome)) (told_ungrown given outcome told) staged.0.0
stage_ungrown old new given outcome (Err stage.Failed) staged told = ungrown_same old new staged.0
stage_ungrown old new given outcome (Err (stage.Stale id)) staged told = ungrown_same old new staged.0
stage_ungrown old new given outcome (Err (stage.Memory error)) staged told = ungrown_same old new staged

pub lease_ungrown : (old new : List Entry) (worker : ℕ) (answer : Result Lease LeaseRefusal) → Leases old new worker answer → GrowsNoRoot old new
lease_ungrown old new worker (Ok given) leased = ungrown_one old new (Leased given) tt leased.0
lease_ungrown old new worker (Err lease.Failed) leased = ungrown_same old new leased.0
lease_ungrown old new worker (Err lease.Done) leased = ungrown_same old new leased.0
lease_ungrown old new worker (Err (lease.Spent records budget)) leased = ungrown_same old new leased.0
lease_ungrown old new worker (Err (lease.NoLeaf live)) leased = ungrown_same old new leased.0
lease_ungrown old new worker (Err (lease.Memory error)) leased = ungrown_same old new leased

-- leases ask for their searches by the line as it goes on, too
pub asks_still : (old new : List Entry) (given : List Lease) → GrowsNoRoot old new → All (AsksForSearch old) given → All (AsksForSearch new) given
asks_still old new given grows all =
    let turns = by_turns old new grows in
    All-weaker (AsksForSearch old) (AsksForSearch new)
    (λ lease asks. record { pieces = asks.pieces ∙ sym (pieces_stay old new turns); depth = asks.depth ∙ sym (depth_stays old new turns); undecided = asks.undecided }) given all

-- ---- the end

pub stopped_ended : {D : Type 0} (ended : Ended) (s : SessionState D) → IsStoppedBy ended s → IsEndedBy ended s
stopped_ended end.Done s stopped = absurd stopped
stopped_ended end.Spent s stopped = absurd stopped
stopped_ended end.Failed s stopped = stopped
stopped_ended end.Memory s stopped = tt

pub stopped_not : {D : Type 0} (ended : Ended) (s : SessionState D) → IsStoppedBy ended s → (ended ≡ end.Done) ⊎ (ended ≡ end.Spent) → ⊥
stopped_not ended s stopped (inl is) = subst (λ (e : Ended). IsStoppedBy e s) is stopped
stopped_not ended s stopped (inr is) = subst (λ (e : Ended). IsStoppedBy e s) is stopped
