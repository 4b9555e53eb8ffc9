use Rattle.std.proofs.Common.{◌≡◌, [], ◌∷◌, ◌++◌, sym, ◌∙◌, ap, subst}
use Rattle.proof_numbers.specs.Facts.{known}
use Rattle.proof_tree.specs.Forest.{Forest}
use Rattle.proof_tree.specs.Sound.{TreeState}
use Rattle.certificate_joiner.specs.Shelf.{ShelfState}
use Rattle.joiner_trial.specs.Certified.{CertifiedState, IsCertifiedTree, HasLearnt}
use Rattle.joiner_trial.proofs.CertifiedLemmas.{learns, facts_more, facts_agree, has_learnt}
use Rattle.joiner_trial.proofs.certified.CertifiedTree.learn.Goals as goal

pub bound-requires-clause-agree : goal.bound-requires-clause-agree
bound-requires-clause-agree c =
    let inside = c.self.inside in
    let l = learns inside.table.now.pieces inside.tree c.args.self.now c.args.n c.args.proved c.into_certificate-certificate.result c.told-facts.result c.self.view_is
    c.requires.sound c.requires.leaf c.requires.finding c.into_certificate-certificate.ensures.value c.into_certificate-certificate.ensures.good c.told-facts.ensures in
    facts_agree inside.table.now.pieces inside.memo inside.tree.forest inside.shelf.puts c.self.invariant c.args.n (known c.told-facts.result)
    (c.into_certificate-certificate.result ∷ []) l

pub invariant_of-self-2 : goal.invariant_of-self-2
invariant_of-self-2 c =
    let inside = c.self.inside in
    let l = learns inside.table.now.pieces inside.tree c.args.self.now c.args.n c.args.proved c.into_certificate-certificate.result c.told-facts.result c.self.view_is
    c.requires.sound c.requires.leaf c.requires.finding c.into_certificate-certificate.ensures.value c.into_certificate-certificate.ensures.good c.told-facts.ensures in
    let batch = c.into_certificate-certificate.result ∷ [] in
    let puts_are = ap (λ (s : ShelfState). s.puts) c.put.ensures ∙ (λ i. c.in_ok-reserve.ensures.puts i ++ (c.args.n, c.in_ok-batch.ensures.items i) ∷ []) in
    subst (λ ps. IsCertifiedTree inside.table.now.pieces inside.memo c.bound.new.self.forest ps) (sym puts_are)
    (subst (λ (f : Forest). IsCertifiedTree inside.table.now.pieces inside.memo f (inside.shelf.puts ++ (c.args.n, batch) ∷ [])) (sym (ap (λ (t : TreeState). t.forest) c.bound.ensures))
    (facts_more inside.table.now.pieces inside.memo inside.tree.forest inside.shelf.puts c.self.invariant c.args.n (known c.told-facts.result) batch l))

pub returns-clause-learnt : goal.returns-clause-learnt
returns-clause-learnt c =
    let inside = c.self.inside in
    let l = learns inside.table.now.pieces inside.tree c.args.self.now c.args.n c.args.proved c.into_certificate-certificate.result c.told-facts.result c.self.view_is
    c.requires.sound c.requires.leaf c.requires.finding c.into_certificate-certificate.ensures.value c.into_certificate-certificate.ensures.good c.told-facts.ensures in
    subst (λ (s : CertifiedState). HasLearnt c.args.n s.tree.forest c.bound.new.self.forest) c.self.view_is
    (has_learnt inside.table.now.pieces inside.memo inside.tree.forest inside.shelf.puts c.self.invariant c.args.n (known c.told-facts.result)
    (c.into_certificate-certificate.result ∷ []) l c.bound.new.self.forest (ap (λ (t : TreeState). t.forest) c.bound.ensures))
