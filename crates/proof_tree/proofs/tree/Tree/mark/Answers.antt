use Rattle.std.proofs.Common.{◌≡◌, ap}
use Rattle.proof_tree.specs.Forest.{Own, node_at}
use Rattle.proof_tree.specs.Rows.{IsRowOf}
use Rattle.proof_tree.proofs.Trees.{if_some-map}
use Rattle.proof_tree.proofs.tree.Tree.mark.Goals as goal

pub returns : goal.returns
returns c =
    if_some-map (IsRowOf c.args.n c.row.result.now) (λ x. c.row.result.now.mark ≡ x.own.mark) (λ x r. ap (λ (o : Own). o.mark) r.own)
    (node_at c.args.n c.args.self.now.forest) c.row.ensures
