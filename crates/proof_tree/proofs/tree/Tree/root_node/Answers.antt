use Rattle.std.proofs.Common.{◌-◌, arith}
use Rattle.proof_tree.proofs.Trees.{roots-many, root-number}
use Rattle.proof_tree.proofs.tree.Tree.root_node.Goals as goal

pub top-requires-clause-there : goal.top-requires-clause-there
top-requires-clause-there c =
    let m = roots-many c.self.inside.rows.items c.self.inside.roots.entries _ _ c.self.inside.spare c.self.invariant.tree c.args.self.now c.self.view_is in
    let t = c.requires.there in
    omega (arith, m, t)

pub returns : goal.returns
returns c =
    let m = roots-many c.self.inside.rows.items c.self.inside.roots.entries _ _ c.self.inside.spare c.self.invariant.tree c.args.self.now c.self.view_is in
    let t = c.requires.there in
    let f = c.requires.first in
    root-number c.self.inside.rows.items c.self.inside.roots.entries _ _ c.self.inside.spare c.self.invariant.tree c.args.self.now c.self.view_is (c.args.root - 1) (omega (arith, m, t, f)) c.top.result c.top.ensures
