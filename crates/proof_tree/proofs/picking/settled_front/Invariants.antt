use Rattle.std.proofs.Common.{◌≤◌, map}
use Rattle.std.specs.Map.{values_of}
use Rattle.proof_tree.specs.Rows.{nodes_from, node_in, settled_front}
use Rattle.proof_tree.proofs.picking.settled_front.Given as goal

abbrev pub invariant-loop-i : goal.invariant-loop-i
invariant-loop-i l = l.i ≤ settled_front (map (node_in (nodes_from 0 l.rows)) (values_of l.roots.entries))
