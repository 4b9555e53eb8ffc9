use Rattle.std.proofs.Common.{◌≡◌, ◌<◌, ◌≤◌, ◌∙◌, ℕ, List, length, arith, ap, sym, subst}
use Rattle.std.proofs.lemmas.List.{with_items_is}
use Rattle.std.specs.Map.{values_of}
use Rattle.std.specs.Vec.{with_items}
use Rattle.proof_numbers.specs.Facts.{known}
use Rattle.proof_numbers.specs.Known.{joined, IsConsistent}
use Rattle.proof_tree.specs.declared.rows.NodeRow.{NodeRow}
use Rattle.proof_tree.specs.declared.rows.Mark.TheVariants.{Unexpanded}
use Rattle.proof_tree.specs.Forest.{nodes, node_at}
use Rattle.proof_tree.specs.Rows.{row_at, roots_from, forest_of, settled_front, AreNoted, HaveSameLinks, AreLinked, Fits, IsTree}
use Rattle.proof_tree.proofs.Fronts.{IsNext, next-learnt, owns-from}
use Rattle.proof_tree.proofs.Trees.{seen, there, the_node, said-of-row, is_some-from, with_facts-is}
use Rattle.proof_tree.proofs.tree.Tree.bound.Goals as goal

pub learn-requires-clause-inside : goal.learn-requires-clause-inside
learn-requires-clause-inside c =
    let l = there c.self.inside.rows.items c.self.inside.roots.entries _ _ c.self.inside.spare c.self.invariant.tree c.args.self.now c.self.view_is c.args.n (is_some-from (node_at c.args.n c.args.self.now.forest) (λ x. x.own.mark ≡ Unexpanded) c.requires.there) in
    let n = c.number-row.ensures in
    subst (λ (xs : List NodeRow). c.number-row.result < length xs) (sym c.deref_mut.ensures.value) (omega (arith, l, n))

pub learn-requires-clause-agree : goal.learn-requires-clause-agree
unfolding the_node
learn-requires-clause-agree c =
    let known_at = known c.args.facts.now in
    let h = said-of-row c.self.inside.rows.items c.self.inside.roots.entries _ _ c.self.inside.spare c.self.invariant.tree c.args.self.now c.self.view_is c.args.n
    (λ x. IsConsistent (joined x.own.facts known_at))
    (is_some-from (node_at c.args.n c.args.self.now.forest) (λ x. x.own.mark ≡ Unexpanded) c.requires.there) c.requires.agree in
    subst (λ (xs : List NodeRow). IsConsistent (joined (known (row_at xs c.number-row.result).facts) known_at)) (sym c.deref_mut.ensures.value)
    (subst (λ (k : ℕ). IsConsistent (joined (known (row_at c.self.inside.rows.items k).facts) known_at)) (sym c.number-row.ensures) h)

module _ (c : goal.After-follow-arg-2-1) where
  now : c.deref.result.now ≡ c.learn.new.rows
  now = c.deref.ensures.value ∙ with_items_is c.self.inside.rows c.learn.new.rows (c.learn.ensures.links.as_long ∙ c.deref_mut.ensures.len)

  -- the rows with the facts
  next : IsNext (forest_of c.self.inside.rows.items (values_of c.self.inside.roots.entries)) c.learn.new.rows c.self.inside.roots.entries
      c.self.inside.rows.cap c.self.inside.roots.spare c.self.inside.spare c.self.inside.front
  next =
      next-learnt c.self.inside.rows.items c.self.inside.roots.entries _ _ c.self.inside.spare c.self.invariant.tree c.args.self.now c.self.view_is
      c.self.inside.front c.self.invariant.settled c.args.n c.requires.there (known c.args.facts.now) c.requires.agree c.deref_mut.result.now c.learn.new.rows
      c.deref_mut.ensures.value c.number-row.result c.number-row.ensures c.learn.ensures.links c.learn.ensures.own c.learn.ensures.fits

pub follow-self-inside-requires-clause-linked : goal.follow-self-inside-requires-clause-linked
follow-self-inside-requires-clause-linked c =
    subst AreLinked (sym (now c)) (next c).tree.linked

pub follow-self-inside-requires-clause-fits : goal.follow-self-inside-requires-clause-fits
follow-self-inside-requires-clause-fits c =
    subst (λ (xs : List NodeRow). (k : ℕ) → k < length xs → Fits xs k) (sym (now c)) (next c).tree.fits

pub follow-self-inside-requires-clause-roots : goal.follow-self-inside-requires-clause-roots
follow-self-inside-requires-clause-roots c =
    subst (λ (xs : List NodeRow). values_of c.self.inside.roots.entries ≡ roots_from 0 xs) (sym (now c)) (next c).tree.roots

pub follow-self-inside-requires-clause-settled : goal.follow-self-inside-requires-clause-settled
follow-self-inside-requires-clause-settled c =
    subst (λ (xs : List NodeRow). c.self.inside.front ≤ settled_front (nodes (forest_of xs (values_of c.self.inside.roots.entries)))) (sym (now c)) (next c).settled

pub follow-self-inside-requires-clause-noted : goal.follow-self-inside-requires-clause-noted
follow-self-inside-requires-clause-noted c =
    subst (λ (xs : List NodeRow). AreNoted (nodes (forest_of xs (values_of c.self.inside.roots.entries))) c.self.inside.stretches.ends.items c.self.inside.stretches.starts.items) (sym (now c)) ((next c).noted c.self.inside.stretches.ends.items c.self.inside.stretches.starts.items c.self.invariant.noted)

pub follow-self-inside-requires-clause-inside : goal.follow-self-inside-requires-clause-inside
follow-self-inside-requires-clause-inside c =
    let l = there c.self.inside.rows.items c.self.inside.roots.entries _ _ c.self.inside.spare c.self.invariant.tree c.args.self.now c.self.view_is c.args.n (is_some-from (node_at c.args.n c.args.self.now.forest) (λ x. x.own.mark ≡ Unexpanded) c.requires.there) in
    let n = c.number-row.ensures in
    let long = c.learn.ensures.links.as_long in
    let same = ap (λ (xs : List NodeRow). length xs) c.deref_mut.ensures.value in
    subst (λ (xs : List NodeRow). c.number-row.result < length xs) (sym (now c)) (omega (arith, l, n, long, same))

written : (c : goal.After-self-2-1) → (with_items c.self.inside.rows c.learn.new.rows).items ≡ c.learn.new.rows
written c = with_items_is c.self.inside.rows c.learn.new.rows (c.learn.ensures.links.as_long ∙ c.deref_mut.ensures.len)

pub invariant_of-self : goal.invariant_of-self
invariant_of-self c =
    let next = next-learnt c.self.inside.rows.items c.self.inside.roots.entries _ _ c.self.inside.spare c.self.invariant.tree c.args.self.now c.self.view_is
    c.self.inside.front c.self.invariant.settled c.args.n c.requires.there (known c.args.facts.now) c.requires.agree c.deref_mut.result.now c.learn.new.rows
    c.deref_mut.ensures.value c.number-row.result c.number-row.ensures c.learn.ensures.links c.learn.ensures.own c.learn.ensures.fits in
    record {
      tree = subst (λ (xs : List NodeRow). IsTree xs c.self.inside.roots.entries c.self.inside.rows.cap c.self.inside.roots.spare c.self.inside.spare) (sym (written c)) next.tree;
      settled = c.follow-self-inside.ensures.front ∙ ap (λ (xs : List NodeRow). settled_front (nodes (forest_of xs (values_of c.self.inside.roots.entries)))) c.deref.ensures.value;
      noted = subst (λ (xs : List NodeRow). AreNoted (nodes (forest_of xs (values_of c.self.inside.roots.entries))) c.follow-self-inside.new.stretches.ends.items c.follow-self-inside.new.stretches.starts.items) c.deref.ensures.value c.follow-self-inside.ensures.noted;
      note_room = let r = c.self.invariant.note_room in omega (arith, r, c.follow-self-inside.ensures.room);
    }

pub returns : goal.returns
returns c =
    let at = is_some-from (node_at c.args.n c.args.self.now.forest) (λ x. x.own.mark ≡ Unexpanded) c.requires.there in
    let links = subst (λ (xs : List NodeRow). HaveSameLinks xs c.learn.new.rows) c.deref_mut.ensures.value c.learn.ensures.links in
    let owns = owns-from c.args.n c.number-row.result (known c.args.facts.now) c.self.inside.rows.items c.deref_mut.result.now c.learn.new.rows
    c.deref_mut.ensures.value c.number-row.ensures c.learn.ensures.own in
    ap (λ (xs : List NodeRow). seen xs c.self.inside.roots.entries c.self.inside.spare) (written c)
    ∙ with_facts-is c.self.inside.rows.items c.self.inside.roots.entries _ _ c.self.inside.spare c.self.invariant.tree c.args.self.now c.self.view_is
    c.args.n c.learn.new.rows (known c.args.facts.now) at c.requires.agree links owns
