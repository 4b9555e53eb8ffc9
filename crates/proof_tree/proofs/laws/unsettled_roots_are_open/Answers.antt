use Rattle.proof_tree.specs.Forest.{nodes}
use Rattle.proof_tree.proofs.OpenLeaves.{all_settled}
use Rattle.proof_tree.proofs.laws.unsettled_roots_are_open.Goals as goal

pub returns : goal.returns
returns c roots none = all_settled (nodes roots) none
