use Rattle.std.proofs.Common.{◌-◌, arith, ◌∙◌}
use Rattle.proof_tree.specs.Forest.{value_by}
use Rattle.proof_tree.proofs.Trees.{roots-many, root-inside, root-value, valid}
use Rattle.proof_tree.proofs.tree.Tree.settled.Goals as goal

pub top-requires-clause-there : goal.top-requires-clause-there
top-requires-clause-there c =
    let m = roots-many c.self.inside.rows.items c.self.inside.roots.entries _ _ c.self.inside.spare c.self.invariant.tree c.args.self.now c.self.view_is in
    let t = c.requires.there in
    omega (arith, m, t)

pub index-row-requires : goal.index-row-requires
index-row-requires c =
    let m = roots-many c.self.inside.rows.items c.self.inside.roots.entries _ _ c.self.inside.spare c.self.invariant.tree c.args.self.now c.self.view_is in
    let t = c.requires.there in
    let f = c.requires.first in
    let l = root-inside c.self.inside.rows.items c.self.inside.roots.entries _ _ c.self.inside.spare c.self.invariant.tree c.args.self.now c.self.view_is (c.args.root - 1) (omega (arith, m, t, f)) in
    let e = c.top.ensures in
    omega (arith, l, e, c.self.inside.rows.ok.0)

pub returns-clause-value : goal.returns-clause-value
returns-clause-value c =
    let m = roots-many c.self.inside.rows.items c.self.inside.roots.entries _ _ c.self.inside.spare c.self.invariant.tree c.args.self.now c.self.view_is in
    let t = c.requires.there in
    let f = c.requires.first in
    root-value c.self.inside.rows.items c.self.inside.roots.entries _ _ c.self.inside.spare c.self.invariant.tree c.args.self.now c.self.view_is (c.args.root - 1) (omega (arith, m, t, f)) c.top.result c.top.ensures c.index-row.result.now c.index-row.ensures
    c.value_by.result (c.value_by.ensures ∙ (λ i. value_by (c.kept.ensures i) (c.kept-2.ensures i)))

pub returns-clause-valid : goal.returns-clause-valid
returns-clause-valid c = valid c.self.inside.rows.items c.self.inside.roots.entries _ _ c.self.inside.spare c.self.invariant.tree c.args.self.now c.self.view_is
