use Rattle.std.proofs.Common.{◌≡◌, map, not, take}
use Rattle.proof_numbers.specs.Numbers.{least_of, total_of}
use Rattle.proof_tree.specs.Picking.{left_to_show}
use Rattle.proof_tree.specs.Rows.{kept_numbers}
use Rattle.proof_tree.proofs.numbering.folded.Given as goal

abbrev pub invariant-loop-child : goal.invariant-loop-child
invariant-loop-child l = record {
  best : l.best ≡ least_of (map (λ r. left_to_show l.goal_moves (kept_numbers l.goal r)) (take l.child-index l.children));
  sum : l.sum ≡ total_of (map (λ r. left_to_show (not l.goal_moves) (kept_numbers l.goal r)) (take l.child-index l.children));
}
