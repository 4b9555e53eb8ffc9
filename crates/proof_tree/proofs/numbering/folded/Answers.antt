use Rattle.std.proofs.Common.{◌∙◌, not, sym}
use Rattle.proof_tree.specs.Picking.{left_to_show}
use Rattle.proof_tree.specs.Rows.{kept_numbers}
use Rattle.proof_tree.proofs.Bounds.{below_moving, below_waiting}
use Rattle.proof_tree.proofs.Loops.{least_more, least_whole, total_more, total_whole, total_fits}
use Rattle.proof_tree.proofs.numbering.folded.Goals as goal

pub total-sum-requires : goal.total-sum-requires
total-sum-requires c =
    rw (c.loop-child.invariant.sum, c.left_to_show-in-loop-child.ensures)
    (total_fits (λ r. left_to_show (not c.args.goal_moves) (kept_numbers c.args.goal r)) c.args.children.now c.loop-child.child-index c.child-item.result
    c.loop-child-test.true c.child-item.is (c.requires (not c.args.goal_moves)))

pub loop-child-preserved : goal.loop-child-preserved
loop-child-preserved c = record {
  best =
      rw (c.least-best.ensures, c.left_to_show.ensures, c.loop-child.invariant.best)
      (sym (least_more (λ r. left_to_show c.args.goal_moves (kept_numbers c.args.goal r)) c.args.children.now c.loop-child.child-index c.child-item.result
      c.loop-child-test.true c.child-item.is));
  sum =
      rw (c.total-sum.ensures, c.left_to_show-in-loop-child.ensures, c.loop-child.invariant.sum)
      (sym (total_more (λ r. left_to_show (not c.args.goal_moves) (kept_numbers c.args.goal r)) c.args.children.now c.loop-child.child-index c.child-item.result
      c.loop-child-test.true c.child-item.is));
}

pub returns-then-goal_moves : goal.returns-then-goal_moves
returns-then-goal_moves c =
    let l = c.loop-child in
    below_moving c.args.goal c.args.goal_moves c.args.children.now l.best l.sum c.if-goal_moves.true
    (l.invariant.best ∙ least_whole (λ r. left_to_show c.args.goal_moves (kept_numbers c.args.goal r)) c.args.children.now l.child-index c.loop-child-test.false)
    (l.invariant.sum ∙ total_whole (λ r. left_to_show (not c.args.goal_moves) (kept_numbers c.args.goal r)) c.args.children.now l.child-index c.loop-child-test.false)

pub returns-else-goal_moves : goal.returns-else-goal_moves
returns-else-goal_moves c =
    let l = c.loop-child in
    below_waiting c.args.goal c.args.goal_moves c.args.children.now l.best l.sum c.if-goal_moves.false
    (l.invariant.best ∙ least_whole (λ r. left_to_show c.args.goal_moves (kept_numbers c.args.goal r)) c.args.children.now l.child-index c.loop-child-test.false)
    (l.invariant.sum ∙ total_whole (λ r. left_to_show (not c.args.goal_moves) (kept_numbers c.args.goal r)) c.args.children.now l.child-index c.loop-child-test.false)
