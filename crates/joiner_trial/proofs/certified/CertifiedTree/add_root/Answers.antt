use Rattle.std.proofs.Common.{◌≡◌, sym, ◌∙◌, ap, subst}
use Rattle.proof_numbers.specs.Facts.{known}
use Rattle.proof_numbers.specs.Sight.{AreFactsAtSight}
use Rattle.proof_tree.specs.Changes.{with_root}
use Rattle.proof_tree.specs.Sound.{TreeState}
use Rattle.joiner_trial.specs.Certified.{IsCertifiedTree}
use Rattle.joiner_trial.proofs.CertifiedLemmas.{root_more}
use Rattle.joiner_trial.proofs.certified.CertifiedTree.add_root.Goals as goal

pub invariant_of-self-2 : goal.invariant_of-self-2
invariant_of-self-2 c =
    let inside = c.self.inside in
    let root = c.in_ok-root.root in
    let is = ap (λ (t : TreeState). t.forest) c.add_root.ensures.tree ∙ ap (with_root root.position (known root.facts)) c.in_ok-reserve.ensures.ok in
    let sight = subst (λ p. AreFactsAtSight inside.table.now.pieces p (known root.facts)) (sym c.in_ok-root.ensures.position) c.in_ok-root.ensures.facts in
    subst (λ roots. IsCertifiedTree inside.table.now.pieces inside.memo roots inside.shelf.puts) (sym is)
    (root_more inside.table.now.pieces inside.memo inside.tree.forest inside.shelf.puts c.self.invariant root.position (known root.facts) sight)
