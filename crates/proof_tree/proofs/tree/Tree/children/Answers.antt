use Rattle.std.proofs.Common.{◌≡◌, length}
use Rattle.proof_tree.specs.Forest.{nodes, node_at}
use Rattle.proof_tree.specs.Rows.{IsRowOf}
use Rattle.proof_tree.proofs.Trees.{if_some-map}
use Rattle.proof_tree.proofs.tree.Tree.children.Goals as goal

pub returns : goal.returns
returns c =
    if_some-map (IsRowOf c.args.n c.row.result.now) (λ x. c.row.result.now.count ≡ length (nodes x.children)) (λ x r. r.children)
    (node_at c.args.n c.args.self.now.forest) c.row.ensures
