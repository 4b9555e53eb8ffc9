use Rattle.std.proofs.Common.{◌≡◌, ◌-◌, ◌++◌, ◌∷◌, [], length, take}
use Rattle.std.specs.Prelude.{flat_map}
use Rattle.draughts_board.specs.Play.{grown}
use Rattle.draughts_rules.proofs.captures.+grow.Given as goal

abbrev pub decreases-grow : goal.decreases-grow
decreases-grow l = 13 - length l.trail.now

abbrev pub invariant-loop-to : goal.invariant-loop-to
invariant-loop-to l = l.found.items ≡ l.initial.found.items ++ flat_map (λ z. grown (12 - length l.trail) l.p (l.trail ++ z ∷ [])) (take l.to-index l.jumps)
