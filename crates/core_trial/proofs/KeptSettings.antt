-- No event changes the settings of a bench.
use Rattle.std.proofs.Common.{◌≡◌, List, [], ◌∷◌, refl, ap, ◌∙◌}
use Rattle.std.specs.Prelude.{Result, Ok, Err}
use Rattle.lease_table.specs.declared.leases.Lease.{Lease}
use Rattle.bench_core.specs.declared.refusals.LeaseRefusal.{LeaseRefusal}
use Rattle.bench_core.specs.States.{CoreState, lease_answer, after_answer, Event, AsksLease, Finds, BeginsRoot, Releases, Happens, IsRun}

answer_keeps : (s : CoreState) (answer : Result Lease LeaseRefusal) → (after_answer s answer).settings ≡ s.settings
answer_keeps s (Ok lease) = refl
answer_keeps s (Err refusal) = refl

event_keeps : (s new : CoreState) (e : Event) → Happens s e new → new.settings ≡ s.settings
event_keeps s new (AsksLease worker) h = ap (λ (x : CoreState). x.settings) h ∙ answer_keeps s (lease_answer s worker)
event_keeps s new (Finds id r) h = ap (λ (x : CoreState). x.settings) h.rest
event_keeps s new (BeginsRoot p) h = ap (λ (x : CoreState). x.settings) h.rest
event_keeps s new (Releases id) h = ap (λ (x : CoreState). x.settings) h.rest

pub run_keeps : (old new : CoreState) (events : List Event) → IsRun old events new → new.settings ≡ old.settings
run_keeps old new [] run = ap (λ (x : CoreState). x.settings) run
run_keeps old new (e ∷ events) run = run_keeps run.0 new events run.1.1 ∙ event_keeps old run.0 e run.1.0
