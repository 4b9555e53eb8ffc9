use Rattle.proof_tree.specs.Rows.{nodes_from}
use Rattle.proof_tree.proofs.Walks.{left_in}
use Rattle.proof_tree.proofs.Climbing.{IsSearching}
use Rattle.proof_tree.proofs.picking.search.Given as goal

abbrev pub invariant-walk : goal.invariant-walk
invariant-walk g l = IsSearching l.rows l.goal (nodes_from 0 l.rows) (g.T.Taken.taken l.taken) l.root l.at l.last

abbrev pub decreases-walk : goal.decreases-walk
decreases-walk g l = left_in l.rows l.goal (nodes_from 0 l.rows) (g.T.Taken.taken l.taken) l.root l.at l.last
