use Rattle.std.proofs.Common.{All}
use Rattle.turn_lock.specs.Seen.{IsOutside}
use Rattle.turn_lock_bench.proofs.under_lock.join_all.Given as goal

abbrev pub invariant-loop-other : goal.invariant-loop-other
invariant-loop-other l = IsOutside l.lock l.pass × All (λ p. IsOutside l.lock p) l.all.items

abbrev pub decreases-loop-other : goal.decreases-loop-other
decreases-loop-other l = goal.left-loop-other l
