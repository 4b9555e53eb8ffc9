use Rattle.std.proofs.Common.{◌≡◌, All, IfSome, IsSomeAnd, length}
use Rattle.certificate_checker.specs.Answers.{IsFinding}
use Rattle.proof_tree.specs.Forest.{node_at}
use Rattle.proof_tree.specs.Sound.{IsSoundForest}
use Rattle.proof_tree.specs.declared.rows.Mark.{Mark}
use Rattle.proof_tree.specs.declared.rows.Mark.TheVariants.{Unexpanded}
use Rattle.joiner_trial.proofs.certified.CertifiedTree.learn_all.Given as goal

abbrev pub invariant-loop-proved : goal.invariant-loop-proved
invariant-loop-proved l = record {
  sound : IsSoundForest l.self.tree.forest;
  leaf : IsSomeAnd (node_at l.n l.self.tree.forest) (λ x. x.own.mark ≡ Unexpanded);
  finding : IfSome (node_at l.n l.self.tree.forest) (λ x. All (IsFinding l.self.pieces x.own.position) l.found.items);
}

abbrev pub decreases-loop-proved : goal.decreases-loop-proved
decreases-loop-proved l = length l.found.items
