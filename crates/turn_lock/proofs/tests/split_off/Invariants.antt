use Rattle.std.proofs.Common.{All}
use Rattle.turn_lock.specs.Seen.{IsOutside}
use Rattle.turn_lock.proofs.tests.split_off.Given as goal

abbrev pub invariant-loop : goal.invariant-loop
invariant-loop l = IsOutside l.lock l.pass × All (λ p. IsOutside l.lock p) l.all.items
