use Rattle.std.proofs.Common.{◌≡◌, ◌≤◌, ◌-◌, ℕ, List, length, arith, refl, sym, ap, subst, ◌∙◌}
use Rattle.std.specs.Map.{values_of}
use Rattle.std.specs.Vec.{vec_capacity}
use Rattle.proof_tree.specs.declared.rows.NodeRow.{NodeRow}
use Rattle.proof_tree.specs.declared.rows.Mark.TheVariants.{Unexpanded}
use Rattle.proof_tree.specs.Forest.{nodes, node_at}
use Rattle.proof_tree.specs.Rows.{row_at, roots_from, forest_of, settled_front, AreNoted, AreLinked, AreExpanded}
use Rattle.proof_tree.proofs.Fronts.{IsNext, next-expanded}
use Rattle.proof_tree.proofs.Trees.{leaf_there, is_some-from, opening-from, with_children-is}
use Rattle.proof_tree.proofs.tree.Tree.expand.Goals as goal

pub expand-requires-clause-inside : goal.expand-requires-clause-inside
expand-requires-clause-inside c =
    let at = leaf_there c.self.inside.rows.items c.self.inside.roots.entries _ _ c.self.inside.spare c.self.invariant.tree c.args.self.now c.self.view_is c.args.n c.requires.there in
    let n = c.number-row.ensures in
    omega (arith, at.0, n)

pub expand-requires-clause-leaf : goal.expand-requires-clause-leaf
expand-requires-clause-leaf c =
    let at = leaf_there c.self.inside.rows.items c.self.inside.roots.entries _ _ c.self.inside.spare c.self.invariant.tree c.args.self.now c.self.view_is c.args.n c.requires.there in
    ap (λ (k : ℕ). (row_at c.self.inside.rows.items k).count) c.number-row.ensures ∙ at.1

-- the rows with the children
next : (c : goal.After-follow-arg-2-1) → IsNext (forest_of c.self.inside.rows.items (values_of c.self.inside.roots.entries)) c.expand.new.rows.items c.self.inside.roots.entries
    (vec_capacity c.expand.new.rows) c.self.inside.roots.spare (c.self.inside.spare - length c.args.children.now) c.self.inside.front
next c =
    next-expanded c.self.inside.rows.items c.self.inside.roots.entries _ _ c.self.inside.spare c.self.invariant.tree c.args.self.now c.self.view_is
    c.self.inside.front c.self.invariant.settled c.args.n c.requires.there c.args.children.now c.expand.new.rows.items
    (opening-from c.args.children.now (node_at c.args.n c.args.self.now.forest) c.requires.there c.requires.successors)
    c.number-row.result c.number-row.ensures c.expand.ensures.step c.requires.room _ c.expand.ensures.room c.expand.ensures.fits

pub follow-self-inside-requires-clause-linked : goal.follow-self-inside-requires-clause-linked
follow-self-inside-requires-clause-linked c =
    subst AreLinked (sym c.deref.ensures.value) (next c).tree.linked

pub follow-self-inside-requires-clause-roots : goal.follow-self-inside-requires-clause-roots
follow-self-inside-requires-clause-roots c =
    subst (λ (xs : List NodeRow). values_of c.self.inside.roots.entries ≡ roots_from 0 xs) (sym c.deref.ensures.value) (next c).tree.roots

pub follow-self-inside-requires-clause-settled : goal.follow-self-inside-requires-clause-settled
follow-self-inside-requires-clause-settled c =
    subst (λ (xs : List NodeRow). c.self.inside.front ≤ settled_front (nodes (forest_of xs (values_of c.self.inside.roots.entries)))) (sym c.deref.ensures.value) (next c).settled

pub follow-self-inside-requires-clause-noted : goal.follow-self-inside-requires-clause-noted
follow-self-inside-requires-clause-noted c =
    subst (λ (xs : List NodeRow). AreNoted (nodes (forest_of xs (values_of c.self.inside.roots.entries))) c.self.inside.stretches.ends.items c.self.inside.stretches.starts.items) (sym c.deref.ensures.value) ((next c).noted c.self.inside.stretches.ends.items c.self.inside.stretches.starts.items c.self.invariant.noted)

pub invariant_of-self : goal.invariant_of-self
invariant_of-self c =
    let next = next-expanded c.self.inside.rows.items c.self.inside.roots.entries _ _ c.self.inside.spare c.self.invariant.tree c.args.self.now c.self.view_is
    c.self.inside.front c.self.invariant.settled c.args.n c.requires.there c.args.children.now c.expand.new.rows.items
    (opening-from c.args.children.now (node_at c.args.n c.args.self.now.forest) c.requires.there c.requires.successors)
    c.number-row.result c.number-row.ensures c.expand.ensures.step c.requires.room _ c.expand.ensures.room c.expand.ensures.fits in
    record {
      tree = next.tree;
      settled = c.follow-self-inside.ensures.front ∙ ap (λ (xs : List NodeRow). settled_front (nodes (forest_of xs (values_of c.self.inside.roots.entries)))) c.deref.ensures.value;
      noted = subst (λ (xs : List NodeRow). AreNoted (nodes (forest_of xs (values_of c.self.inside.roots.entries))) c.follow-self-inside.new.stretches.ends.items c.follow-self-inside.new.stretches.starts.items) c.deref.ensures.value c.follow-self-inside.ensures.noted;
      note_room = let r = c.self.invariant.note_room in omega (arith, r, c.follow-self-inside.ensures.room);
    }

pub returns : goal.returns
returns c =
    let at = leaf_there c.self.inside.rows.items c.self.inside.roots.entries _ _ c.self.inside.spare c.self.invariant.tree c.args.self.now c.self.view_is c.args.n c.requires.there in
    let some = is_some-from (node_at c.args.n c.args.self.now.forest) (λ x. x.own.mark ≡ Unexpanded) c.requires.there in
    let opening = opening-from c.args.children.now (node_at c.args.n c.args.self.now.forest) c.requires.there c.requires.successors in
    let step = subst (λ (k : ℕ). AreExpanded c.self.inside.rows.items c.expand.new.rows.items k c.args.children.now) c.number-row.ensures c.expand.ensures.step in
    with_children-is c.self.inside.rows.items c.self.inside.roots.entries _ _ c.self.inside.spare c.self.invariant.tree c.args.self.now c.self.view_is
    c.args.n c.args.children.now c.expand.new.rows.items at.0 at.1 some opening step (c.self.inside.spare - length c.args.children.now) refl
