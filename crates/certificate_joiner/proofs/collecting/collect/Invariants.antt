use Rattle.std.proofs.Common.{map, drop}
use Rattle.certificate_joiner.specs.Strategy.{named, IsNamed, weights, Collected}
use Rattle.certificate_joiner.proofs.collecting.collect.Given as goal

abbrev pub invariant-loop-i : goal.invariant-loop-i
invariant-loop-i l = Collected l.quest.aim l.quest.side (named l.tree.forest) (IsNamed l.tree.forest) l.fn.root l.strategy.items l.i

abbrev pub decreases-loop-i : goal.decreases-loop-i
decreases-loop-i l = weights (map (named l.tree.forest) (drop l.i l.strategy.items))
