use Rattle.std.proofs.Common.{◌≡◌, ◌<◌, ◌∷◌, [], ◌++◌, List, length, set, subst, arith}
use Rattle.std.proofs.lemmas.Grind.{common_steps}
use Rattle.position_rows.specs.declared.tree.Node.{Node}
use Rattle.position_rows.specs.Walks.{IsHung, node_at, with_link}
use Rattle.position_rows.proofs.HangLemmas.{hung_at_end}
use Rattle.position_rows.proofs.tree.hang.Goals as goal

pub returns-clause-hung : goal.returns-clause-hung
returns-clause-hung c =
    let old : List Node = c.args.nodes.now.items in
    let is : set old c.args.i (with_link (node_at old c.args.i) c.args.digit (length old)) ++ record { number = c.args.number; zero = 0; one = 0 } ∷ []
    ≡ c.push_reserved.new.self.items = grind (arith, common_steps) in
    let inside : c.args.i < length old = grind (arith, common_steps, c.requires.inside) in
    subst (λ (xs : List Node). IsHung old xs c.args.i c.args.digit c.args.number) is
    (hung_at_end old c.args.i c.args.digit c.args.number inside c.requires.none)
