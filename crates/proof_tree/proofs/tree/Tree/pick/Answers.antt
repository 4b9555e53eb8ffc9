use Rattle.std.proofs.Common.{◌≡◌, ◌<◌, ◌≤◌, ℕ, None, List, length, map, get_or, arith, sym, ap, subst, ◌∙◌}
use Rattle.std.proofs.lemmas.List.{length-map}
use Rattle.std.specs.Map.{values_of}
use Rattle.draughts_board.specs.Board.{Board}
use Rattle.proof_tree.specs.declared.rows.NodeRow.{NodeRow}
use Rattle.proof_tree.specs.Forest.{Node}
use Rattle.proof_tree.specs.Picking.{pick, pick_from}
use Rattle.proof_tree.specs.Rows.{row_at, node_in, nodes_from, settled_front, AreNoted}
use Rattle.proof_tree.specs.Sound.{TreeState}
use Rattle.proof_tree.proofs.Choosing.{nodes-forest}
use Rattle.proof_tree.proofs.Picked.{picked-clause}
use Rattle.proof_tree.proofs.Trees.{tops-are, valid}
use Rattle.proof_tree.proofs.tree.Tree.pick.Goals as goal

pub pick_from-requires-clause-inside : goal.pick_from-requires-clause-inside
pick_from-requires-clause-inside g c i l =
    let many = length-map c.self.inside.roots.entries (λ (e : Board × ℕ). e.1) in
    let t = tops-are c.self.inside.rows.items (values_of c.self.inside.roots.entries) c.self.invariant.tree.roots i (omega (arith, l, many)) in
    subst (λ (rs : List NodeRow). get_or (values_of c.self.inside.roots.entries) i 0 < length rs) (sym c.deref.ensures.value) t.0

pub pick_from-requires-clause-tops : goal.pick_from-requires-clause-tops
pick_from-requires-clause-tops g c i l =
    let many = length-map c.self.inside.roots.entries (λ (e : Board × ℕ). e.1) in
    let t = tops-are c.self.inside.rows.items (values_of c.self.inside.roots.entries) c.self.invariant.tree.roots i (omega (arith, l, many)) in
    subst (λ (rs : List NodeRow). (row_at rs (get_or (values_of c.self.inside.roots.entries) i 0)).parent ≡ None) (sym c.deref.ensures.value) t.1

pub pick_from-requires-clause-settled : goal.pick_from-requires-clause-settled
pick_from-requires-clause-settled g c =
    subst (λ (rs : List NodeRow). c.self.inside.front ≤ settled_front (map (node_in (nodes_from 0 rs)) (values_of c.self.inside.roots.entries))) (sym c.deref.ensures.value)
    (let same = c.self.invariant.settled ∙ ap settled_front (nodes-forest (map (node_in (nodes_from 0 c.self.inside.rows.items)) (values_of c.self.inside.roots.entries))) in omega (arith, same))

pub pick_from-requires-clause-noted : goal.pick_from-requires-clause-noted
pick_from-requires-clause-noted g c =
    let ends = c.self.inside.stretches.ends.items in
    let starts = c.self.inside.stretches.starts.items in
    subst (λ (rs : List NodeRow). AreNoted (map (node_in (nodes_from 0 rs)) (values_of c.self.inside.roots.entries)) ends starts) (sym c.deref.ensures.value)
    (subst (λ (xs : List Node). AreNoted xs ends starts) (nodes-forest (map (node_in (nodes_from 0 c.self.inside.rows.items)) (values_of c.self.inside.roots.entries))) c.self.invariant.noted)

pub returns-clause-value : goal.returns-clause-value
returns-clause-value g c =
    let D = c.deref.ensures.value in
    c.pick_from.ensures
    ∙ (λ i. pick_from (g.T.Taken.taken c.args.taken.now) (map (node_in (nodes_from 0 (D i))) (values_of c.self.inside.roots.entries)))
    ∙ ap (pick_from (g.T.Taken.taken c.args.taken.now)) (sym (nodes-forest (map (node_in (nodes_from 0 c.self.inside.rows.items)) (values_of c.self.inside.roots.entries))))
    ∙ ap (λ (h : TreeState). pick (g.T.Taken.taken c.args.taken.now) h.forest) c.self.view_is

pub returns-clause-leaf : goal.returns-clause-leaf
returns-clause-leaf g c =
    let v = valid c.self.inside.rows.items c.self.inside.roots.entries _ _ c.self.inside.spare c.self.invariant.tree c.args.self.now c.self.view_is in
    picked-clause (g.T.Taken.taken c.args.taken.now) c.args.self.now.forest c.pick_from.result (returns-clause-value g c) v.sound
