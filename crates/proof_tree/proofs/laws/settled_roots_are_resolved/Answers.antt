use Rattle.proof_tree.proofs.Opposed.{settled_roots_are_resolved}
use Rattle.proof_tree.proofs.laws.settled_roots_are_resolved.Goals as goal

pub returns : goal.returns
returns c = settled_roots_are_resolved
