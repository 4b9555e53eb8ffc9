use Rattle.std.proofs.Common.{◌≡◌, All}
use Rattle.worker_gate.proofs.threads.split_passes.Given as goal

abbrev pub invariant-loop-number : goal.invariant-loop-number
invariant-loop-number g l =
    (l.pass ≡ l.initial.pass) × All (λ worker. worker.pass ≡ l.initial.pass) l.ready.items
