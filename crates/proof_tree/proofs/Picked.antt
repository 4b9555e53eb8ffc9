-- The leaf that is picked is an open leaf of the forest.
use Rattle.std.proofs.Common.{◌≡◌, ℕ, ◌+◌, ◌≤◌, Bool, true, false, cond, eqb, List, [], ◌∷◌, Option, Some, None, IfSome, IsSomeAnd, refl, sym, ap, subst, arith, ◌⊎◌, inl, inr, ⊎_elim}
use Rattle.std.proofs.lemmas.Bool.{false≢true}
use Rattle.draughts_board.specs.Board.{Board, same_side}
use Rattle.draughts_board.specs.declared.pieces.Side.{Side}
use Rattle.draughts_board.specs.declared.pieces.Value.{Value}
use Rattle.proof_numbers.specs.declared.numbers.Number.{Number}
use Rattle.proof_numbers.specs.Numbers.{is_resolved}
use Rattle.proof_tree.specs.declared.rows.Mark.{Mark}
use Rattle.proof_tree.specs.declared.rows.Mark.TheVariants.{Unexpanded, Expanded, Repeats}
use Rattle.proof_tree.specs.Forest.{Own, Forest, no_node, node, Node, nodes, node_at, numbers, numbers_at, goal_of, value_of, or_else}
use Rattle.proof_tree.specs.Picking.{Way, better, is_below, left_to_show, leaf_of, way_of, open_by, leaf_at, best_way, leaf_below, pick_by, pick_at, pick_from, pick, IsOpenLeaf}
use Rattle.proof_tree.specs.Sound.{EachNode, IsSoundForest, occurrences}
use Rattle.proof_tree.proofs.EachNode.{only_node, missing_occurs, test_true}
use Rattle.proof_tree.proofs.Numbered.{at_most_once}

one_of_two : (b : Bool) (v w : Way) (l : ℕ) → leaf_of (cond b (Some w) (Some v)) ≡ Some l → (leaf_of (Some v) ≡ Some l) ⊎ (leaf_of (Some w) ≡ Some l)
one_of_two true v w l e = inr e
one_of_two false v w l e = inl e

better_of : (a b : Option Way) (l : ℕ) → leaf_of (better a b) ≡ Some l → (leaf_of a ≡ Some l) ⊎ (leaf_of b ≡ Some l)
better_of None b l e = inr e
better_of (Some v) None l e = inl e
better_of (Some v) (Some w) l e = one_of_two (is_below w.left v.left) v w l e

way_leaf : (x : Number) (o : Option ℕ) (l : ℕ) → leaf_of (way_of x o) ≡ Some l → o ≡ Some l
way_leaf x None l e = absurd cc
way_leaf x (Some k) l e = e

-- it is the node itself, or lies below it
leaf_by : (r : Bool) (m : Mark) (t : Bool) (n : ℕ) (best : Option Way) (l : ℕ) → cond r None (open_by m t n best) ≡ Some l
    → (r ≡ false) × (((m ≡ Unexpanded) × ((t ≡ false) × (n ≡ l))) ⊎ (leaf_of best ≡ Some l))
leaf_by true m t n best l e = absurd cc
leaf_by false Unexpanded true n best l e = absurd cc
leaf_by false Unexpanded false n best l e = (refl, inl (refl, (refl, (let same : n ≡ l = cc in same))))
leaf_by false Expanded t n best l e = (refl, inr e)
leaf_by false Repeats t n best l e = absurd cc

module _ (goal : Side) (taken : ℕ → Bool) (l : ℕ) (x : Node) where
  -- each node with this number is x
  abbrev OnlyIs : List Board → Forest → Type 0
  OnlyIs path t = EachNode (λ above y. y.own.number ≡ l → y ≡ x) path t

  pub found_below : (by_proof : Bool) (path : List Board) (t : Forest) → leaf_of (best_way goal taken by_proof t) ≡ Some l → OnlyIs path t
      → IsOpenLeaf goal taken x
  found_below by_proof path no_node e only = absurd cc
  found_below by_proof path (node own children others) e only =
      let its = numbers_at goal own (numbers goal children) in
      let moves = same_side goal own.position.to_move in
      let best = best_way goal taken moves children in
      ⊎_elim
      (λ here.
      let h = leaf_by (is_resolved its) own.mark (taken own.number) own.number best l (way_leaf (left_to_show by_proof its) (leaf_at taken own its best) l here) in
      ⊎_elim
      (λ self.
      subst (IsOpenLeaf goal taken) (only.0 self.1.1) (record { unexpanded = self.0; unresolved = h.0; free = self.1.0 }))
      (λ below. found_below moves (own.position ∷ path) children below only.1.0) h.1)
      (λ rest. found_below by_proof path others rest only.1.1)
      (better_of (way_of (left_to_show by_proof its) (leaf_at taken own its best)) (best_way goal taken by_proof others) l e)

  pub found_root : (path : List Board) (own : Own) (children : Forest)
      → leaf_below goal taken (record { own = own; children = children }) ≡ Some l → (own.number ≡ l → record { own = own; children = children } ≡ x)
      → OnlyIs (own.position ∷ path) children → IsOpenLeaf goal taken x
  found_root path own children e self_is only =
      let its = numbers_at goal own (numbers goal children) in
      let moves = same_side goal own.position.to_move in
      let best = best_way goal taken moves children in
      let h = leaf_by (is_resolved its) own.mark (taken own.number) own.number best l e in
      ⊎_elim
      (λ self.
      subst (IsOpenLeaf goal taken) (self_is self.1.1) (record { unexpanded = self.0; unresolved = h.0; free = self.1.0 }))
      (λ below. found_below moves (own.position ∷ path) children below only) h.1

count_here : (b : Bool) (m : ℕ) → b ≡ true → 1 ≤ cond b 1 0 + m
count_here true m e = omega arith
count_here false m e = absurd (false≢true e)

module _ (goal : Side) (taken : ℕ → Bool) (l : ℕ) where
  occurs_below : (by_proof : Bool) (t : Forest) → leaf_of (best_way goal taken by_proof t) ≡ Some l → 1 ≤ occurrences l t
  occurs_below by_proof no_node e = absurd cc
  occurs_below by_proof (node own children others) e =
      let its = numbers_at goal own (numbers goal children) in
      let moves = same_side goal own.position.to_move in
      let best = best_way goal taken moves children in
      ⊎_elim
      (λ here.
      let h = leaf_by (is_resolved its) own.mark (taken own.number) own.number best l (way_leaf (left_to_show by_proof its) (leaf_at taken own its best) l here) in
      ⊎_elim (λ self. count_here (eqb own.number l) (occurrences l children + occurrences l others) (test_true own.number l self.1.1))
      (λ below. let r = occurs_below moves children below in omega (arith, r)) h.1)
      (λ rest. let r = occurs_below by_proof others rest in omega (arith, r))
      (better_of (way_of (left_to_show by_proof its) (leaf_at taken own its best)) (best_way goal taken by_proof others) l e)

  occurs_root : (own : Own) (children others : Forest) → leaf_below goal taken (record { own = own; children = children }) ≡ Some l
      → 1 ≤ occurrences l (node own children others)
  occurs_root own children others e =
      let its = numbers_at goal own (numbers goal children) in
      let moves = same_side goal own.position.to_move in
      let best = best_way goal taken moves children in
      let h = leaf_by (is_resolved its) own.mark (taken own.number) own.number best l e in
      ⊎_elim (λ self. count_here (eqb own.number l) (occurrences l children + occurrences l others) (test_true own.number l self.1.1))
      (λ below. let r = occurs_below moves children below in omega (arith, r)) h.1

place_in : Option (ℕ × Side) → ℕ → ℕ
place_in None d = d
place_in (Some r) d = r.0

goal_in : Option (ℕ × Side) → Side → Side
goal_in None d = d
goal_in (Some r) d = r.1

picked_by : (v : Option Value) (o : Option ℕ) (g : Side) (l : ℕ) (goal : Side) → pick_by v o g ≡ Some (l, goal) → (o ≡ Some l) × (g ≡ goal)
unfolding place_in goal_in
picked_by (Some w) o g l goal e = absurd cc
picked_by None None g l goal e = absurd cc
picked_by None (Some k) g l goal e = (ap (λ (o : Option (ℕ × Side)). Some (place_in o l)) e, ap (λ (o : Option (ℕ × Side)). goal_in o goal) e)

or_cases : (a b : Option (ℕ × Side)) (r : ℕ × Side) → or_else a b ≡ Some r → (a ≡ Some r) ⊎ (b ≡ Some r)
or_cases None b r e = inr e
or_cases (Some x) b r e = inl e

module _ (taken : ℕ → Bool) (l : ℕ) (goal : Side) where
  root_picked : (root : Node) → pick_at taken root ≡ Some (l, goal) → leaf_below goal taken root ≡ Some l
  root_picked root e =
      let h = picked_by (value_of root) (leaf_below (goal_of root) taken root) (goal_of root) l goal e in
      subst (λ (g : Side). leaf_below g taken root ≡ Some l) h.1 h.0

  picked_occurs : (t : Forest) → pick_from taken (nodes t) ≡ Some (l, goal) → 1 ≤ occurrences l t
  picked_occurs no_node e = absurd cc
  picked_occurs (node own children others) e =
      let root : Node = record { own = own; children = children } in
      ⊎_elim (λ h. occurs_root goal taken l own children others (root_picked root h))
      (λ h. let r = picked_occurs others h in omega (arith, r))
      (or_cases (pick_at taken root) (pick_from taken (nodes others)) (l, goal) e)

  picked_leaf : (x : Node) (path : List Board) (t : Forest) → pick_from taken (nodes t) ≡ Some (l, goal)
      → EachNode (λ above y. y.own.number ≡ l → y ≡ x) path t → IsOpenLeaf goal taken x
  picked_leaf x path no_node e only = absurd cc
  picked_leaf x path (node own children others) e only =
      let root : Node = record { own = own; children = children } in
      ⊎_elim (λ h. found_root goal taken l x path own children (root_picked root h) only.0 only.1.0)
      (λ h. picked_leaf x path others h only.1.1)
      (or_cases (pick_at taken root) (pick_from taken (nodes others)) (l, goal) e)

  there_by : (t : Forest) (o : Option Node) → node_at l t ≡ o → IsSoundForest t → pick taken t ≡ Some (l, goal) → IsSomeAnd o (IsOpenLeaf goal taken)
  there_by t None e sound p =
      let some = picked_occurs t p in let none = missing_occurs l t e in absurd (omega (arith, some, none))
  there_by t (Some x) e sound p =
      picked_leaf x [] t p (only_node l [] t x e (at_most_once l t sound.numbered))

  pub picked-there : (t : Forest) → IsSoundForest t → pick taken t ≡ Some (l, goal) → IsSomeAnd (node_at l t) (IsOpenLeaf goal taken)
  picked-there t sound p = there_by t (node_at l t) refl sound p

-- what is found is an open leaf
pub picked-clause : (taken : ℕ → Bool) (t : Forest) (o : Option (ℕ × Side)) → o ≡ pick taken t → IsSoundForest t
    → IfSome o (λ found. IsSomeAnd (node_at found.0 t) (IsOpenLeaf found.1 taken))
picked-clause taken t None e sound = tt
picked-clause taken t (Some found) e sound = picked-there taken found.0 found.1 t sound (sym e)
