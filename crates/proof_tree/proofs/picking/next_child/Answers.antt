use Rattle.std.proofs.Common.{ℕ, Option, arith, ap, sym, subst, ◌∙◌, ◌+◌}
use Rattle.proof_tree.specs.Rows.{row_at, blank}
use Rattle.proof_tree.specs.declared.rows.NodeRow.{NodeRow}
use Rattle.std.proofs.lemmas.List.{get_or_default}
use Rattle.proof_tree.specs.Walking.{IsFirst}
use Rattle.proof_tree.proofs.Order.{first-no, first-yes}
use Rattle.proof_tree.proofs.picking.next_child.Goals as goal
use Rattle.proof_tree.proofs.picking.next_child.Goals.{then-is_candidate, else-is_candidate}

pub loop-k-preserved : goal.loop-k-preserved
loop-k-preserved c =
    let low : ℕ = (row_at c.args.rows.now c.args.at).first in
    elim c.if-is_candidate.branch [
      | then-is_candidate w ↦
          subst (λ (b : Option ℕ). IsFirst c.args.rows.now c.args.goal c.args.by_proof c.args.last low (c.loop-k.k + 1) b)
          (sym (w.best-is ∙ w.first_of-best.ensures))
          (first-yes c.args.rows.now c.args.goal c.args.by_proof c.args.last low c.loop-k.k c.loop-k.best
          (let e = ap (λ (r : NodeRow). r.first) (get_or_default c.args.rows.now c.args.at c.index-rows-at.result blank c.requires.inside) in
          let a = c.loop-k.auto.k in omega (arith, e, a))
          c.loop-k.invariant
          (sym c.is_candidate.ensures ∙ w.if-is_candidate.true))
      | else-is_candidate w ↦
          subst (λ (b : Option ℕ). IsFirst c.args.rows.now c.args.goal c.args.by_proof c.args.last low (c.loop-k.k + 1) b)
          (sym w.best-is)
          (first-no c.args.rows.now c.args.goal c.args.by_proof c.args.last low c.loop-k.k c.loop-k.best c.loop-k.invariant
          (sym c.is_candidate.ensures ∙ w.if-is_candidate.false))
    ]
