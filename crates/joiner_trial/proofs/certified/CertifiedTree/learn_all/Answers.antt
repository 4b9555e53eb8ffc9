use Rattle.std.proofs.Common.{◌≡◌, ◌-◌, sym, subst, length}
use Rattle.std.specs.Prelude.{All, IfSome, vec_len}
use Rattle.certificate_checker.specs.Answers.{IsFinding}
use Rattle.proof_tree.specs.Forest.{node_at}
use Rattle.joiner_trial.proofs.CertifiedLemmas.{still_leaf, still_of, others_too}
use Rattle.joiner_trial.proofs.certified.CertifiedTree.learn_all.Goals as goal

pub loop-proved-preserved : goal.loop-proved-preserved
loop-proved-preserved c =
    let before = c.loop-proved.self.tree.forest in
    let after = c.learn.new.self.tree.forest in
    let learnt = c.in_ok-learn.ensures.learnt in
    let others = others_too c.loop-proved.self.pieces (node_at c.args.n before) (vec_len c.loop-proved.found - 1) c.loop-proved.found.items c.pop.new.self.items
    c.pop.ensures.rest c.loop-proved.invariant.finding in
    record {
      sound = learnt.sound;
      leaf = still_leaf c.args.n before after learnt c.loop-proved.invariant.leaf;
      finding = subst (λ k. IfSome (node_at c.args.n after) (λ x. All (IsFinding k x.own.position) c.pop.new.self.items)) (sym c.in_ok-learn.ensures.pieces)
          (still_of c.args.n before after learnt (λ p. All (IsFinding c.loop-proved.self.pieces p) c.pop.new.self.items) others);
    }
