use Rattle.std.proofs.Common.{◌≡◌, ◌≤◌, ◌<◌, ◌-◌, ◌++◌, ◌∷◌, [], ℕ, List, length, arith, refl, sym, ap, subst, ◌∙◌}
use Rattle.std.proofs.lemmas.List.{length_push}
use Rattle.std.specs.Prelude.{Contains}
use Rattle.std.specs.Map.{values_of}
use Rattle.std.specs.Vec.{vec_capacity}
use Rattle.draughts_board.specs.Board.{Board}
use Rattle.proof_tree.specs.declared.rows.NodeRow.{NodeRow}
use Rattle.proof_tree.specs.Forest.{nodes}
use Rattle.proof_tree.specs.Rows.{roots_from, forest_of, settled_front, AreNoted, AreLinked, Fits}
use Rattle.proof_tree.proofs.Fronts.{IsNext, next-added}
use Rattle.proof_tree.proofs.Adding.{with_root-is}
use Rattle.proof_tree.proofs.Trees.{seen, spare_is, positions-are, roots-many, length-roots}
use Rattle.proof_tree.proofs.tree.Tree.add_root.Goals as goal

pub add-requires-clause-absent : goal.add-requires-clause-absent
add-requires-clause-absent c =
    subst (λ (ps : List Board). ¬ Contains ps c.args.root.position) (positions-are c.self.inside.rows.items c.self.inside.roots.entries _ _ c.self.inside.spare c.self.invariant.tree c.args.self.now c.self.view_is) c.requires.absent

pub add-requires-clause-room : goal.add-requires-clause-room
add-requires-clause-room c =
    let r = c.self.invariant.tree.root_room in
    let m = roots-many c.self.inside.rows.items c.self.inside.roots.entries _ _ c.self.inside.spare c.self.invariant.tree c.args.self.now c.self.view_is in
    let s = spare_is c.self.inside.rows.items c.self.inside.roots.entries _ _ c.self.inside.spare c.self.invariant.tree c.args.self.now c.self.view_is 0 in
    let few = c.requires.few in
    let room = c.requires.room in
    omega (arith, r, m, s, few, room)

pub add_root-requires : goal.add_root-requires
add_root-requires c =
    let r = c.self.invariant.note_room in
    let m = roots-many c.self.inside.rows.items c.self.inside.roots.entries _ _ c.self.inside.spare c.self.invariant.tree c.args.self.now c.self.view_is in
    let s = spare_is c.self.inside.rows.items c.self.inside.roots.entries _ _ c.self.inside.spare c.self.invariant.tree c.args.self.now c.self.view_is 0 in
    let few = c.requires.few in
    let room = c.requires.room in
    omega (arith, r, m, s, few, room)

module _ (c : goal.After-follow-arg-2-1) where
  number : c.len-number.result ≡ length c.self.inside.rows.items
  number = let l = c.len-number.ensures in let o = c.self.inside.rows.ok.0 in omega (arith, l, o)

  -- the rows with the new root
  next : IsNext (forest_of c.self.inside.rows.items (values_of c.self.inside.roots.entries)) c.push_root.new.rows.items c.add.new.roots.entries
      (vec_capacity c.push_root.new.rows) c.add.new.roots.spare (c.self.inside.spare - 1) c.self.inside.front
  next =
      next-added c.self.inside.rows.items c.self.inside.roots.entries _ _ c.self.inside.spare c.self.invariant.tree c.args.self.now c.self.view_is
      c.self.inside.front c.self.invariant.settled c.args.root c.requires.room c.requires.few c.push_root.ensures.lawful c.requires.absent
      c.push_root.new.rows.items c.add.new.roots.entries c.len-number.result c.push_root.ensures.items c.add.ensures.entries number
      (vec_capacity c.push_root.new.rows) c.add.new.roots.spare c.push_root.ensures.room c.add.ensures.room

pub follow-self-inside-requires-clause-linked : goal.follow-self-inside-requires-clause-linked
follow-self-inside-requires-clause-linked c =
    subst AreLinked (sym c.deref.ensures.value) (next c).tree.linked

pub follow-self-inside-requires-clause-fits : goal.follow-self-inside-requires-clause-fits
follow-self-inside-requires-clause-fits c =
    subst (λ (xs : List NodeRow). (k : ℕ) → k < length xs → Fits xs k) (sym c.deref.ensures.value) (next c).tree.fits

pub follow-self-inside-requires-clause-roots : goal.follow-self-inside-requires-clause-roots
follow-self-inside-requires-clause-roots c =
    subst (λ (xs : List NodeRow). values_of c.add.new.roots.entries ≡ roots_from 0 xs) (sym c.deref.ensures.value) (next c).tree.roots

pub follow-self-inside-requires-clause-few : goal.follow-self-inside-requires-clause-few
follow-self-inside-requires-clause-few c =
    (next c).tree.few_roots

pub follow-self-inside-requires-clause-settled : goal.follow-self-inside-requires-clause-settled
follow-self-inside-requires-clause-settled c =
    subst (λ (xs : List NodeRow). c.self.inside.front ≤ settled_front (nodes (forest_of xs (values_of c.add.new.roots.entries)))) (sym c.deref.ensures.value) (next c).settled

pub follow-self-inside-requires-clause-noted : goal.follow-self-inside-requires-clause-noted
follow-self-inside-requires-clause-noted c =
    subst (λ (xs : List NodeRow). AreNoted (nodes (forest_of xs (values_of c.add.new.roots.entries))) c.add_root.new.self.ends.items c.add_root.new.self.starts.items) (sym c.deref.ensures.value) (c.add_root.ensures.noted (nodes (forest_of c.push_root.new.rows.items (values_of c.add.new.roots.entries))) ((next c).noted c.self.inside.stretches.ends.items c.self.inside.stretches.starts.items c.self.invariant.noted))

number_now : (c : goal.After-len) → c.len-number.result ≡ length c.self.inside.rows.items
number_now c = let l = c.len-number.ensures in let o = c.self.inside.rows.ok.0 in omega (arith, l, o)

pub invariant_of-self : goal.invariant_of-self
invariant_of-self c =
    let next = next-added c.self.inside.rows.items c.self.inside.roots.entries _ _ c.self.inside.spare c.self.invariant.tree c.args.self.now c.self.view_is
    c.self.inside.front c.self.invariant.settled c.args.root c.requires.room c.requires.few c.push_root.ensures.lawful c.requires.absent
    c.push_root.new.rows.items c.add.new.roots.entries c.len-number.result c.push_root.ensures.items c.add.ensures.entries (number_now c)
    (vec_capacity c.push_root.new.rows) c.add.new.roots.spare c.push_root.ensures.room c.add.ensures.room in
    record {
      tree = next.tree;
      settled = c.follow-self-inside.ensures.front ∙ ap (λ (xs : List NodeRow). settled_front (nodes (forest_of xs (values_of c.add.new.roots.entries)))) c.deref.ensures.value;
      noted = subst (λ (xs : List NodeRow). AreNoted (nodes (forest_of xs (values_of c.add.new.roots.entries))) c.follow-self-inside.new.stretches.ends.items c.follow-self-inside.new.stretches.starts.items) c.deref.ensures.value c.follow-self-inside.ensures.noted;
      note_room =
          let r = c.self.invariant.note_room in
          let s = spare_is c.self.inside.rows.items c.self.inside.roots.entries _ _ c.self.inside.spare c.self.invariant.tree c.args.self.now c.self.view_is 0 in
          let long = length_push c.self.inside.roots.entries (c.args.root.position, c.len-number.result) in
          let entries = ap (λ (es : List (Board × ℕ)). length es) c.add.ensures.entries in
          omega (arith, r, s, long, entries, c.requires.room, c.add_root.ensures.room, c.follow-self-inside.ensures.room);
    }

pub returns-clause-tree : goal.returns-clause-tree
returns-clause-tree c =
    let entries = c.add.ensures.entries ∙ ap (λ (k : ℕ). c.self.inside.roots.entries ++ (c.args.root.position, k) ∷ []) (number_now c) in
    (λ i. seen (c.push_root.ensures.items i) (entries i) (c.self.inside.spare - 1))
    ∙ with_root-is c.self.inside.rows.items c.self.inside.roots.entries _ _ c.self.inside.spare c.self.invariant.tree c.args.self.now c.self.view_is
    c.args.root (c.self.inside.spare - 1) refl

pub returns-clause-place : goal.returns-clause-place
returns-clause-place c =
    c.len.ensures.value ∙ sym (length-roots c.push_root.new.rows.items c.add.new.roots.entries)
