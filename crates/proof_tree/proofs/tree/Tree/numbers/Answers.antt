use Rattle.std.proofs.Common.{◌≡◌, ℕ, ◌∙◌}
use Rattle.draughts_board.specs.declared.pieces.Side.{Side}
use Rattle.draughts_board.specs.declared.pieces.Side.TheVariants.{Black, White}
use Rattle.proof_tree.specs.declared.rows.NodeRow.{NodeRow}
use Rattle.proof_tree.specs.Forest.{Node, node_at, node_numbers}
use Rattle.proof_tree.specs.Rows.{IsRowOf, kept_numbers}
use Rattle.proof_tree.proofs.Trees.{if_some-map}
use Rattle.proof_tree.proofs.tree.Tree.numbers.Goals as goal

by_goal : (s : Side) (n : ℕ) (row : NodeRow) (x : Node) → IsRowOf n row x → kept_numbers s row ≡ node_numbers s x
by_goal Black n row x r = r.black
by_goal White n row x r = r.white

pub returns : goal.returns
returns c =
    if_some-map (IsRowOf c.args.n c.row.result.now) (λ x. c.numbers.result ≡ node_numbers c.args.goal x)
    (λ x r. c.numbers.ensures ∙ c.kept.ensures ∙ by_goal c.args.goal c.args.n c.row.result.now x r) (node_at c.args.n c.args.self.now.forest) c.row.ensures
