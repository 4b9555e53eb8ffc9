use Rattle.std.proofs.Common.{◌≡◌, sym, ap, ◌∙◌, arith}
use Rattle.std.proofs.lemmas.List.{get_or_read}
use Rattle.proof_tree.specs.declared.rows.NodeRow.{NodeRow}
use Rattle.proof_tree.specs.Rows.{blank, row_at}
use Rattle.proof_tree.proofs.tree.top_of.Goals as goal

pub loop-parent-smaller : goal.loop-parent-smaller
loop-parent-smaller c =
    let rows = c.args.rows.now in
    let at = c.loop-parent.at in
    let is : c.index-rows-at.result ≡ row_at rows at = get_or_read rows at c.index-rows-at.result c.loop-parent.invariant c.index-rows-at.is blank in
    let link = c.requires.linked.children at c.in-Some.parent c.loop-parent.invariant (sym (ap (λ (r : NodeRow). r.parent) (sym c.index-rows-at.is ∙ is)) ∙ sym c.in-Some.ensures) in
    omega (arith, link.0)

pub loop-parent-preserved : goal.loop-parent-preserved
loop-parent-preserved c =
    let rows = c.args.rows.now in
    let at = c.loop-parent.at in
    let is : c.index-rows-at.result ≡ row_at rows at = get_or_read rows at c.index-rows-at.result c.loop-parent.invariant c.index-rows-at.is blank in
    let link = c.requires.linked.children at c.in-Some.parent c.loop-parent.invariant (sym (ap (λ (r : NodeRow). r.parent) (sym c.index-rows-at.is ∙ is)) ∙ sym c.in-Some.ensures) in
    let inside = c.loop-parent.invariant in
    omega (arith, link.0, inside)
