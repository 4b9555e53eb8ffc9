use Rattle.std.proofs.Common.{arith, refl}
use Rattle.std.proofs.lemmas.Bool.{false≢true}
use Rattle.proof_tree.proofs.Trees.{there, is_there}
use Rattle.proof_tree.proofs.tree.Tree.node.Goals as goal

pub returns-then-number-len-clause-there : goal.returns-then-number-len-clause-there
returns-then-number-len-clause-there c = (
  λ e. absurd (false≢true e),
  λ some.
      let l = there c.self.inside.rows.items c.self.inside.roots.entries _ _ c.self.inside.spare c.self.invariant.tree c.args.self.now c.self.view_is c.args.number some in
      let e = c.len.ensures in
      let o = c.self.inside.rows.ok.0 in
      let past = c.if-number-len.true in
      absurd (omega (arith, l, e, o, past)),
)

pub returns-clause-there : goal.returns-clause-there
returns-clause-there c =
    let e = c.len.ensures in
    let o = c.self.inside.rows.ok.0 in
    let before = c.if-number-len.false in
    (λ _. is_there c.self.inside.rows.items c.self.inside.roots.entries _ _ c.self.inside.spare c.self.invariant.tree c.args.self.now c.self.view_is c.args.number (omega (arith, e, o, before)), λ _. refl)
