use Rattle.std.proofs.Common.{◌≡◌, ◌-◌, map, drop, length}
use Rattle.std.specs.Map.{values_of}
use Rattle.proof_tree.specs.Picking.{pick_from}
use Rattle.proof_tree.specs.Rows.{nodes_from, node_in}
use Rattle.proof_tree.proofs.picking.pick_from.Given as goal

abbrev pub invariant-loop-place : goal.invariant-loop-place
invariant-loop-place g l =
    pick_from (g.T.Taken.taken l.taken) (map (node_in (nodes_from 0 l.rows)) (values_of l.roots.entries))
    ≡ pick_from (g.T.Taken.taken l.taken) (map (node_in (nodes_from 0 l.rows)) (drop l.place (values_of l.roots.entries)))

abbrev pub decreases-loop-place : goal.decreases-loop-place
decreases-loop-place g l = length l.roots.entries - l.place
