use Rattle.std.proofs.Common.{◌≡◌, ◌++◌, ◌+◌, ◌-◌, ℕ, Option, Some, take}
use Rattle.std.specs.Prelude.{All, map}
use Rattle.std.specs.List.{flat_map}
use Rattle.certificate_joiner.specs.Strategy.{IsNamed, named}
use Rattle.proof_tree.specs.Forest.{nodes}
use Rattle.journal_trees.specs.Sights.{spot_sight}
use Rattle.journal_trees.specs.Trees.{node_sights}
use Rattle.journal_trees.proofs.trees.+add_below.Given as goal

abbrev pub decreases-add_below : goal.decreases-add_below
decreases-add_below l = l.plies

abbrev pub invariant-loop-i : goal.invariant-loop-i
invariant-loop-i l =
    ((next : Option ℕ)
    → map (spot_sight next l.tree.forest) l.spots.items
    ≡ map (spot_sight next l.tree.forest) l.initial.spots.items
    ++ flat_map (node_sights next (l.plies - 1) (l.spot.depth + 1) (Some l.position)) (take l.i (nodes (named l.tree.forest l.spot.node).children)))
    × All (λ s. IsNamed l.tree.forest s.node) l.spots.items
