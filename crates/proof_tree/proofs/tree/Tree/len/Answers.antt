use Rattle.std.proofs.Common.{arith}
use Rattle.proof_tree.proofs.Trees.{size-is, valid}
use Rattle.proof_tree.proofs.tree.Tree.len.Goals as goal

pub returns-clause-value : goal.returns-clause-value
returns-clause-value c =
    let e = c.len.ensures in
    let o = c.self.inside.rows.ok.0 in
    let s = size-is c.self.inside.rows.items c.self.inside.roots.entries _ _ c.self.inside.spare c.self.invariant.tree c.args.self.now c.self.view_is in
    omega (arith, e, o, s)

pub returns-clause-valid : goal.returns-clause-valid
returns-clause-valid c = valid c.self.inside.rows.items c.self.inside.roots.entries _ _ c.self.inside.spare c.self.invariant.tree c.args.self.now c.self.view_is
