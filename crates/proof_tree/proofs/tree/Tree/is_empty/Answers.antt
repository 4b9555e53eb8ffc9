use Rattle.std.proofs.Common.{◌≡◌, ℕ, eqb, vec_len, arith, ap, ◌∙◌}
use Rattle.proof_tree.specs.Forest.{size}
use Rattle.proof_tree.proofs.Trees.{size-is}
use Rattle.proof_tree.proofs.tree.Tree.is_empty.Goals as goal

pub returns : goal.returns
returns c =
    let o = c.self.inside.rows.ok.0 in
    let s = size-is c.self.inside.rows.items c.self.inside.roots.entries _ _ c.self.inside.spare c.self.invariant.tree c.args.self.now c.self.view_is in
    let same : vec_len c.self.inside.rows ≡ size c.args.self.now.forest = omega (arith, o, s) in
    c.is_empty.ensures ∙ ap (λ (k : ℕ). eqb k 0) same
