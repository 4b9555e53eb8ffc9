use Rattle.std.proofs.Common.{arith}
use Rattle.proof_tree.proofs.Trees.{roots-many, valid}
use Rattle.proof_tree.proofs.tree.Tree.roots.Goals as goal

pub returns-clause-value : goal.returns-clause-value
returns-clause-value c =
    let e = c.len.ensures.value in
    let m = roots-many c.self.inside.rows.items c.self.inside.roots.entries _ _ c.self.inside.spare c.self.invariant.tree c.args.self.now c.self.view_is in
    omega (arith, e, m)

pub returns-clause-valid : goal.returns-clause-valid
returns-clause-valid c = valid c.self.inside.rows.items c.self.inside.roots.entries _ _ c.self.inside.spare c.self.invariant.tree c.args.self.now c.self.view_is
