use Rattle.std.proofs.Common.{ℕ, get_or, arith, ap, ◌∙◌}
use Rattle.proof_tree.proofs.Trees.{there, read-row}
use Rattle.proof_tree.proofs.tree.Tree.row.Goals as goal

pub index-requires : goal.index-requires
index-requires c =
    let l = there c.self.inside.rows.items c.self.inside.roots.entries _ _ c.self.inside.spare c.self.invariant.tree c.args.self.now c.self.view_is c.args.n c.requires in
    let n = c.number.ensures in
    omega (arith, l, n, c.self.inside.rows.ok.0)

pub returns : goal.returns
returns c =
    read-row c.self.inside.rows.items c.self.inside.roots.entries _ _ c.self.inside.spare c.self.invariant.tree c.args.self.now c.self.view_is c.args.n c.requires c.index.result.now
    (c.index.ensures ∙ ap (λ (k : ℕ). get_or c.self.inside.rows.items k c.index.result.now) c.number.ensures)
