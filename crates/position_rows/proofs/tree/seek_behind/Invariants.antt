use Rattle.std.proofs.Common.{◌-◌, length}
use Rattle.position_rows.specs.Walks.{IsOnTheWay}
use Rattle.position_rows.proofs.tree.seek_behind.Given as goal

abbrev pub invariant-nodes : goal.invariant-nodes
invariant-nodes g l = IsOnTheWay l.rows l.nodes l.p l.i l.word

abbrev pub decreases-nodes : goal.decreases-nodes
decreases-nodes g l = length l.nodes - l.i
