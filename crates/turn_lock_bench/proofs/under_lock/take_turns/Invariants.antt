use Rattle.turn_lock.specs.Seen.{IsOutside}
use Rattle.turn_lock_bench.proofs.under_lock.take_turns.Given as goal

abbrev pub invariant-loop-number : goal.invariant-loop-number
invariant-loop-number g l = IsOutside l.lock l.pass
