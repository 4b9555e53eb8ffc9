use Rattle.std.proofs.Common.{◌≡◌, sym, ◌∙◌, ap, subst}
use Rattle.std.specs.Prelude.{All, IsSomeAnd}
use Rattle.certificate_checker.specs.Sight.{IsAtSight}
use Rattle.proof_numbers.specs.declared.leaves.Child.{Child}
use Rattle.proof_tree.specs.declared.rows.Mark.TheVariants.{Unexpanded}
use Rattle.proof_tree.specs.Changes.{with_children}
use Rattle.proof_tree.specs.Forest.{Forest, node_at}
use Rattle.proof_tree.specs.Sound.{TreeState}
use Rattle.joiner_trial.specs.Certified.{CertifiedState, IsCertifiedTree}
use Rattle.joiner_trial.proofs.CertifiedLemmas.{children_more}
use Rattle.joiner_trial.proofs.certified.CertifiedTree.expand.Goals as goal

pub invariant_of-self-2 : goal.invariant_of-self-2
invariant_of-self-2 c =
    let inside = c.self.inside in
    let k = inside.table.now.pieces in
    let leaf = subst (λ (v : CertifiedState). IsSomeAnd (node_at c.args.n v.tree.forest) (λ x. x.own.mark ≡ Unexpanded)) (sym c.self.view_is) c.requires in
    let is = ap (λ (t : TreeState). t.forest) c.expand.ensures ∙ (λ i. with_children c.args.n (c.as_slice-2.ensures i) (c.in_ok-reserve.ensures.ok i)) in
    subst (λ (f : Forest). IsCertifiedTree k inside.memo f inside.shelf.puts) (sym is)
    (children_more k inside.memo inside.tree.forest inside.shelf.puts c.self.invariant c.args.n c.in_ok-children.children c.len.ensures.valid.sound leaf c.in_ok-children.ensures.facts)
