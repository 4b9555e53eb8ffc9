use Rattle.std.proofs.Common.{◌≡◌, take}
use Rattle.std.specs.Prelude.{map}
use Rattle.journal_trees.specs.Sights.{sight_of, spot_sight}
use Rattle.journal_trees.proofs.nodes.shown_nodes.Given as goal

abbrev pub invariant-loop-spot : goal.invariant-loop-spot
invariant-loop-spot l = map sight_of l.nodes.items ≡ map (spot_sight l.next l.tree.forest) (take l.spot-index l.spots)
