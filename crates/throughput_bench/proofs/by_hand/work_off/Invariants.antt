use Rattle.turn_lock.specs.Seen.{IsOutside}
use Rattle.throughput_bench.proofs.by_hand.work_off.Given as goal

abbrev pub invariant-loop : goal.invariant-loop
invariant-loop g l = IsOutside l.shared l.pass
