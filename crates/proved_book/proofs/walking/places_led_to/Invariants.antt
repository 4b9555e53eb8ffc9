use Rattle.std.proofs.Common.{length}
use Rattle.std.specs.Prelude.{◌-◌}
use Rattle.proved_book.specs.Walking.{IsWalk}
use Rattle.proved_book.proofs.walking.places_led_to.Given as goal

abbrev pub invariant-loop-done : goal.invariant-loop-done
invariant-loop-done g l = IsWalk (g.S.Strategy.rows l.part) l.p l.seen.keys l.done

abbrev pub decreases-loop-done : goal.decreases-loop-done
decreases-loop-done g l = length (g.S.Strategy.rows l.part) - l.done
