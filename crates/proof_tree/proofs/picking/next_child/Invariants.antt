use Rattle.proof_tree.specs.Walking.{IsFirst}
use Rattle.proof_tree.specs.Rows.{row_at}
use Rattle.proof_tree.proofs.picking.next_child.Given as goal

abbrev pub invariant-loop-k : goal.invariant-loop-k
invariant-loop-k l = IsFirst l.rows l.goal l.by_proof l.last (row_at l.rows l.at).first l.k l.best
