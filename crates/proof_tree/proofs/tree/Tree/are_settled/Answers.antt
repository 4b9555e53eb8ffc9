use Rattle.std.proofs.Common.{eqb, is_some, sym, ap, ◌∙◌}
use Rattle.std.specs.List.{list_all}
use Rattle.std.specs.Map.{values_of}
use Rattle.proof_tree.specs.Forest.{nodes, value_of}
use Rattle.proof_tree.specs.Rows.{forest_of}
use Rattle.proof_tree.specs.Sound.{TreeState}
use Rattle.proof_tree.proofs.Settled.{front_all}
use Rattle.proof_tree.proofs.Trees.{length-roots}
use Rattle.proof_tree.proofs.tree.Tree.are_settled.Goals as goal

pub returns : goal.returns
returns c =
    let rows = c.self.inside.rows.items in
    let entries = c.self.inside.roots.entries in
    let many = c.len.ensures.value ∙ sym (length-roots rows entries) in
    (λ i. eqb (c.self.invariant.settled i) (many i))
    ∙ front_all (nodes (forest_of rows (values_of entries)))
    ∙ ap (λ (h : TreeState). list_all (λ root. is_some (value_of root)) (nodes h.forest)) c.self.view_is
