-- What a tree's forest says of its rows, and what changes of rows make of the forest.
use Rattle.std.proofs.Common.{◌≡◌, ◌≢◌, ℕ, suc, ◌+◌, ◌-◌, ◌<◌, ◌≤◌, Bool, true, false, cond, eqb, ltb, List, [], ◌∷◌, map, length, drop, get_or, Option, Some, None, IsSome, IfSome, IsSomeAnd, refl, sym, ap, ◌∙◌, subst, arith, ◌⊎◌, inl, inr, length-drop, get_or-drop, get_or-take}
use Rattle.std.specs.Prelude.{slice_get}
use Rattle.std.specs.Map.{keys_of, values_of}
use Rattle.std.proofs.lemmas.Bool.{false≢true, cases_eq}
use Rattle.std.proofs.lemmas.Bool.Decides.{nat_tests}
use Rattle.draughts_board.specs.declared.pieces.Value.{Value}
use Rattle.std.proofs.lemmas.List.{get_or-map, length-map, length-take-le, get_or_read}
use Rattle.std.proofs.lemmas.Option.{slice_get-get_or}
use Rattle.draughts_board.specs.Board.{Board}
use Rattle.draughts_board.specs.Play.{successors_of}
use Rattle.draughts_board.specs.declared.pieces.Side.{Side}
use Rattle.draughts_board.specs.declared.pieces.Side.TheVariants.{Black, White}
use Rattle.proof_numbers.specs.declared.leaves.Child.{Child}
use Rattle.proof_numbers.specs.Known.{Known, joined, IsConsistent}
use Rattle.proof_numbers.specs.Numbers.{mobility}
use Rattle.proof_tree.specs.declared.rows.NodeRow.{NodeRow}
use Rattle.proof_tree.specs.declared.rows.Mark.{Mark}
use Rattle.proof_tree.specs.declared.rows.Mark.TheVariants.{Unexpanded, Expanded}
use Rattle.proof_tree.specs.Forest.{Own, Node, Forest, no_node, forest, nodes, size, node_at, node_numbers, value_by, value_of}
use Rattle.proof_tree.specs.Changes.{learn, with_facts, expanded, with_children}
use Rattle.proof_tree.specs.Rows.{blank, row_at, own_of, blank_node, node_in, slice_of, nodes_from, forest_of, kept_numbers, if_root, roots_from, AreLinked, HaveSameLinks, AreExpanded, Fits, IsTree, IsRowOf, path}
use Rattle.proof_tree.specs.Sound.{IsSoundNode, IsSoundForest, TreeState, IsTreeState, occurrences, root_positions}
use Rattle.proof_tree.proofs.Meaning.{node_of, IsMeaning-nodes, nodes_from-is}
use Rattle.proof_tree.proofs.KeptNumbers.{kept-is}
use Rattle.proof_tree.proofs.Bounds.{fits_for}
use Rattle.proof_tree.proofs.Lines.{path-none}
use Rattle.proof_tree.proofs.Counting.{size-forest}
use Rattle.proof_tree.proofs.Choosing.{nodes-forest, slice-map}
use Rattle.proof_tree.proofs.EachNode.{EachNode-at, missing_occurs}
use Rattle.proof_tree.proofs.Expanding.{grow, expanded-forest, nodes_after, at_old, each, IsMeaning-expanded, AreLinked-expanded}
use Rattle.proof_tree.proofs.Opening.{AreCounted-expanded}
use Rattle.proof_tree.proofs.Reading.{node_at-row, roots_from-are}
use Rattle.proof_tree.proofs.SoundForests.{IsSound-learnt, IsSound-expanded, IsOpening}
use Rattle.proof_tree.proofs.Updates.{change, changed-forest, AreLinked-same, IsMeaning-change}

-- ---- roots

pub map-tops : (xs ys : List Node) (h : Node → Node) (tops : List ℕ)
    → ((i : ℕ) → i < length tops → node_in ys (get_or tops i 0) ≡ h (node_in xs (get_or tops i 0)))
    → map (node_in ys) tops ≡ map h (map (node_in xs) tops)
map-tops xs ys h [] each = refl
map-tops xs ys h (r ∷ tops) each = λ i. (each 0 (omega arith)) i ∷ (map-tops xs ys h tops (λ k l. each (suc k) (omega arith))) i

if_root-same : (p q : Option ℕ) (j : ℕ) (xs ys : List ℕ) → p ≡ q → xs ≡ ys → if_root p j xs ≡ if_root q j ys
if_root-same p q j xs ys e f = λ i. if_root (e i) j (f i)

pub roots_from-same : (j : ℕ) (rows after : List NodeRow) → length after ≡ length rows
    → ((k : ℕ) → k < length rows → (row_at after k).parent ≡ (row_at rows k).parent) → roots_from j after ≡ roots_from j rows
roots_from-same j [] [] e same = refl
roots_from-same j [] (a ∷ after) e same = absurd (omega arith)
roots_from-same j (r ∷ rows) [] e same = absurd (omega arith)
roots_from-same j (r ∷ rows) (a ∷ after) e same =
    if_root-same a.parent r.parent j _ _ (same 0 (omega arith))
    (roots_from-same (suc j) rows after (omega arith) (λ k l. same (suc k) (omega arith)))

-- each root is a row without a parent
pub tops-are : (rows : List NodeRow) (tops : List ℕ) → tops ≡ roots_from 0 rows → (i : ℕ) → i < length tops
    → (get_or tops i 0 < length rows) × ((row_at rows (get_or tops i 0)).parent ≡ None)
tops-are rows tops is i l =
    subst (λ (ts : List ℕ). i < length ts → (get_or ts i 0 < length rows) × ((row_at rows (get_or ts i 0)).parent ≡ None)) (sym is)
    (λ l'.
    let r = roots_from-are 0 rows i l' in
    let w = r.within in
    let z : get_or (roots_from 0 rows) i 0 - 0 ≡ get_or (roots_from 0 rows) i 0 = omega arith in
    (omega (arith, w), ap (λ (k : ℕ). (row_at rows k).parent) (sym z) ∙ r.parent)) l

no_roots : (j n : ℕ) (after : List NodeRow) → ((k : ℕ) → k < length after → (row_at after k).parent ≡ Some n) → roots_from j after ≡ []
no_roots j n [] h = refl
no_roots j n (a ∷ after) h = if_root-same a.parent (Some n) j _ _ (h 0 (omega arith)) (no_roots (suc j) n after (λ k l. h (suc k) (omega arith)))

pub roots_from-longer : (j n m : ℕ) (rows after : List NodeRow) → length after ≡ length rows + m
    → ((k : ℕ) → k < length rows → (row_at after k).parent ≡ (row_at rows k).parent)
    → ((i : ℕ) → i < m → (row_at after (length rows + i)).parent ≡ Some n) → roots_from j after ≡ roots_from j rows
roots_from-longer j n m [] after e same new =
    no_roots j n after (λ k l. ap (λ (i : ℕ). (row_at after i).parent) (let z : k ≡ 0 + k = omega arith in z) ∙ new k (omega arith))
roots_from-longer j n m (r ∷ rows) [] e same new = absurd (omega arith)
roots_from-longer j n m (r ∷ rows) (a ∷ after) e same new =
    if_root-same a.parent r.parent j _ _ (same 0 (omega arith))
    (roots_from-longer (suc j) n m rows after (omega arith) (λ k l. same (suc k) (omega arith))
    (λ i l. ap (λ (q : ℕ). (row_at (a ∷ after) q).parent) (let z : suc (length rows + i) ≡ suc (length rows) + i = omega arith in z) ∙ new i l))

-- the positions of these rows
pub positions-same : (rows after : List NodeRow) (tops : List ℕ)
    → ((i : ℕ) → i < length tops → (row_at after (get_or tops i 0)).position ≡ (row_at rows (get_or tops i 0)).position)
    → map (λ k. (row_at rows k).position) tops ≡ map (λ k. (row_at after k).position) tops
positions-same rows after [] same = refl
positions-same rows after (r ∷ tops) same =
    λ i. sym (same 0 (omega arith)) i ∷ positions-same rows after tops (λ k l. same (suc k) (omega arith)) i

abbrev pub seen : List NodeRow → List (Board × ℕ) → ℕ → TreeState
seen rows entries spare = record { forest = forest_of rows (values_of entries); spare = spare }

pub if_some-map : {A : Type 0} (P Q : A → Type 0) → ((x : A) → P x → Q x) → (o : Option A) → IfSome o P → IfSome o Q
if_some-map P Q h None p = tt
if_some-map P Q h (Some x) p = h x p

pub is_some-from : {A : Type 0} (o : Option A) (P : A → Type 0) → IsSomeAnd o P → IsSome o
is_some-from None P h = absurd h
is_some-from (Some x) P h = refl

-- what is said of the node that is to be expanded
pub opening-from : (children : List Child) (o : Option Node) → IsSomeAnd o (λ x. x.own.mark ≡ Unexpanded)
    → IfSome o (λ x. map (λ c. c.position) children ≡ successors_of x.own.position) → IfSome o (IsOpening children)
opening-from children None h s = tt
opening-from children (Some x) h s = record { unexpanded = h; successors = s }

pub leaf_is : (o : Option Node) (m : Mark) → IsSome o → IfSome o (λ x. m ≡ x.own.mark) → m ≡ Unexpanded → IsSomeAnd o (λ x. x.own.mark ≡ Unexpanded)
leaf_is None m h e u = absurd (false≢true h)
leaf_is (Some x) m h e u = sym e ∙ u

pub leaf_not : (o : Option Node) (m : Mark) → IfSome o (λ x. m ≡ x.own.mark) → (m ≡ Unexpanded → ⊥) → IsSomeAnd o (λ x. x.own.mark ≡ Unexpanded) → ⊥
leaf_not None m e n h = absurd h
leaf_not (Some x) m e n h = n (e ∙ h)

pub length-roots : (rows : List NodeRow) (entries : List (Board × ℕ)) → length (nodes (forest_of rows (values_of entries))) ≡ length entries
length-roots rows entries =
    ap length (nodes-forest (map (node_in (nodes_from 0 rows)) (values_of entries)))
    ∙ length-map (values_of entries) (node_in (nodes_from 0 rows))
    ∙ length-map entries (λ e. e.1)

-- ---- a node and its row

module _ (rows : List NodeRow) (entries : List (Board × ℕ)) (space root_space spare : ℕ) (tree : IsTree rows entries space root_space spare) (g : TreeState)
    (is : seen rows entries spare ≡ g) (n : ℕ) where
  forest-is : forest_of rows (values_of entries) ≡ g.forest
  forest-is = ap (λ (h : TreeState). h.forest) is

  pub sound-now : IsSoundForest g.forest
  sound-now = subst IsSoundForest forest-is tree.sound

  pub row_of : (x : Node) → node_at n g.forest ≡ Some x → (n < length rows) × (x ≡ node_of n (row_at rows n) (nodes_from 0 rows))
  row_of x e = node_at-row rows tree.linked (values_of entries) tree.roots n x (ap (node_at n) forest-is ∙ e)

  some_row : (o : Option Node) → node_at n g.forest ≡ o → IsSome o → n < length rows
  some_row None e h = absurd (false≢true h)
  some_row (Some x) e h = (row_of x e).0

  pub there : IsSome (node_at n g.forest) → n < length rows
  there h = some_row (node_at n g.forest) refl h

  unfoldable pub the_node : Node
  the_node = node_of n (row_at rows n) (nodes_from 0 rows)

  found : (o : Option Node) → node_at n g.forest ≡ o → IsSome o → node_at n g.forest ≡ Some the_node
  unfolding the_node
  found None e h = absurd (false≢true h)
  found (Some x) e h = e ∙ ap Some (row_of x e).1

  pub found-there : IsSome (node_at n g.forest) → node_at n g.forest ≡ Some the_node
  found-there h = found (node_at n g.forest) refl h

  pub sound-node : IsSome (node_at n g.forest) → (above : List Board) × IsSoundNode above the_node
  sound-node h = let s = sound-now in EachNode-at IsSoundNode n [] g.forest the_node s.each (found-there h)

  numbers-kept : (goal : Side) → n < length rows → kept_numbers goal (row_at rows n) ≡ node_numbers goal (node_of n (row_at rows n) (nodes_from 0 rows))
  numbers-kept goal l =
      let xs = nodes_from 0 rows in
      let fit = IsMeaning-nodes rows tree.linked in
      kept-is rows tree.linked xs fit goal 0 (λ k from l'. fits_for rows goal k (tree.fits k l')) n (omega arith) l ∙ ap (node_numbers goal) (fit.at n l)

  kids : List Node
  kids = slice_of (row_at rows n) (nodes_from 0 rows)

  many : n < length rows → length kids ≡ (row_at rows n).count
  unfolding kids
  many l =
      let row = row_at rows n in
      let within = tree.linked.within n l in
      let long = (IsMeaning-nodes rows tree.linked).as_long in
      length-take-le row.count (drop row.first (nodes_from 0 rows)) (omega (arith, length-drop row.first (nodes_from 0 rows), long, within))

  child_number : n < length rows → (i : ℕ) → i < (row_at rows n).count → (node_in kids i).own.number ≡ (row_at rows n).first + i
  unfolding kids
  child_number l i l' =
      let row = row_at rows n in
      let within = tree.linked.within n l in
      let xs = nodes_from 0 rows in
      ap (λ (x : Node). x.own.number)
      (get_or-take row.count (drop row.first xs) i blank_node l'
      ∙ get_or-drop row.first xs i blank_node
      ∙ (IsMeaning-nodes rows tree.linked).at (row.first + i) (omega (arith, within, l')))

  children-are : nodes the_node.children ≡ kids
  unfolding the_node kids
  children-are = nodes-forest (slice_of (row_at rows n) (nodes_from 0 rows))

  pub row-is : n < length rows → IsRowOf n (row_at rows n) the_node
  unfolding the_node
  row-is l =
      let within = tree.linked.within n l in
      let few = tree.few in
      record {
        own = refl;
        black = numbers-kept Black l;
        white = numbers-kept White l;
        children = sym (ap length children-are ∙ many l);
        child = λ i l'.
            subst (λ (xs : List Node). IfSome (slice_get xs i) (λ child. child.own.number ≡ (row_at rows n).first + i)) (sym children-are)
            (by_place kids i (omega (arith, many l, l')) (child_number l i l'));
        within = omega (arith, within, few);
      } where
        by_place : (xs : List Node) (i : ℕ) → i < length xs → (node_in xs i).own.number ≡ (row_at rows n).first + i
            → IfSome (slice_get xs i) (λ child. child.own.number ≡ (row_at rows n).first + i)
        by_place xs i l e =
            subst (λ (o : Option Node). IfSome o (λ child. child.own.number ≡ (row_at rows n).first + i)) (sym (slice_get-get_or xs i blank_node l)) e

  pub read-row : IsSome (node_at n g.forest) → (row : NodeRow) → row ≡ get_or rows n row → IfSome (node_at n g.forest) (IsRowOf n row)
  read-row h row e =
      let l = there h in
      subst (λ (o : Option Node). IfSome o (IsRowOf n row)) (sym (found-there h))
      (subst (λ (r : NodeRow). IsRowOf n r the_node) (sym (get_or_read rows n row l e blank)) (row-is l))

  -- an unexpanded node has no children
  pub leaf_there : IsSomeAnd (node_at n g.forest) (λ x. x.own.mark ≡ Unexpanded) → (n < length rows) × ((row_at rows n).count ≡ 0)
  unfolding the_node
  leaf_there h =
      let some = is_some-from (node_at n g.forest) (λ x. x.own.mark ≡ Unexpanded) h in
      let l = there some in
      let s = (sound-node some).1 in
      let mark : (row_at rows n).mark ≡ Unexpanded = subst (λ (o : Option Node). IsSomeAnd o (λ x. x.own.mark ≡ Unexpanded)) (found-there some) h in
      let none : the_node.children ≡ no_node = s.childless (λ e. let no : Unexpanded ≡ Expanded = sym mark ∙ e in absurd cc) in
      let r = row-is l in
      (l, r.children ∙ ap (λ (t : Forest). length (nodes t)) none)

  pub spare_is : g.spare ≡ spare
  spare_is = sym (ap (λ (h : TreeState). h.spare) is)

  -- what is said of the node is said of its row
  pub said-of-row : (P : Node → Type 0) → IsSome (node_at n g.forest) → IfSome (node_at n g.forest) P → P the_node
  said-of-row P some h = subst (λ (o : Option Node). IfSome o P) (found-there some) h

-- ---- facts

module _ (rows : List NodeRow) (entries : List (Board × ℕ)) (space root_space spare : ℕ) (tree : IsTree rows entries space root_space spare) (g : TreeState)
    (is : seen rows entries spare ≡ g) (n : ℕ) (after : List NodeRow) (facts : Known)
    (some : IsSome (node_at n g.forest)) (agree : IfSome (node_at n g.forest) (λ x. IsConsistent (joined x.own.facts facts))) (same : HaveSameLinks rows after)
    (owns : (k : ℕ) → own_of k (row_at after k) ≡ learn n facts (own_of k (row_at rows k))) where
  pub forests-learnt : forest_of after (values_of entries) ≡ with_facts n facts (forest_of rows (values_of entries))
  forests-learnt =
      let tops = values_of entries in
      let xs = nodes_from 0 rows in
      let fit = IsMeaning-nodes rows tree.linked in
      let f = learn n facts in
      let ys : List Node = map (change f) xs in
      let new : nodes_from 0 after ≡ ys =
      nodes_from-is after ys (AreLinked-same rows after same tree.linked) (IsMeaning-change rows after f same (λ k l'. owns k) xs fit) in
      let tops_change : map (node_in ys) tops ≡ map (change f) (map (node_in xs) tops) =
      map-tops xs ys (change f) tops
      (λ i l'. get_or-map (change f) xs (get_or tops i 0) blank_node blank_node (let t = tops-are rows tops tree.roots i l' in omega (arith, t.0, fit.as_long))) in
      ap (λ (zs : List Node). forest (map (node_in zs) tops)) new ∙ ap forest tops_change ∙ sym (changed-forest f (map (node_in xs) tops))

  pub with_facts-is : seen after entries spare ≡ record g { forest = with_facts n facts g.forest }
  with_facts-is =
      (λ i. record { forest = forests-learnt i; spare = spare }) ∙ ap (λ (h : TreeState). record { forest = with_facts n facts h.forest; spare = h.spare }) is

  position-told : (k : ℕ) → (row_at after k).position ≡ (row_at rows k).position
  position-told k = ap (λ (o : Own). o.position) (owns k) ∙ told (eqb k n) (own_of k (row_at rows k)) where
    told : (b : Bool) (own : Own) → (cond b (record own { facts = joined own.facts facts }) own).position ≡ own.position
    told true own = refl
    told false own = refl

  sound-learnt : IsSoundForest (forest_of after (values_of entries))
  sound-learnt =
      subst IsSoundForest (sym forests-learnt)
      (IsSound-learnt n facts (forest_of rows (values_of entries)) (the_node rows entries space root_space spare tree g is n) tree.sound
      (ap (λ (h : TreeState). node_at n h.forest) is ∙ found-there rows entries space root_space spare tree g is n some)
      (said-of-row rows entries space root_space spare tree g is n (λ x. IsConsistent (joined x.own.facts facts)) some agree))

  pub IsTree-learnt : (space' : ℕ) → space ≤ space' → ((k : ℕ) → k < length after → Fits after k) → IsTree after entries space' root_space spare
  IsTree-learnt space' more fits =
      record {
        linked = AreLinked-same rows after same tree.linked;
        fits = fits;
        counted = λ k l.
            same.moves k ∙ tree.counted k (omega (arith, l, same.as_long)) ∙ sym (ap mobility (position-told k));
        roots = tree.roots ∙ sym (roots_from-same 0 rows after same.as_long (λ k l. same.parent k));
        keys = tree.keys ∙ positions-same rows after (values_of entries) (λ i l. position-told (get_or (values_of entries) i 0));
        sound = sound-learnt;
        few = let h = tree.few in omega (arith, h, same.as_long);
        few_roots = tree.few_roots;
        room = let h = tree.room in omega (arith, h, same.as_long, more);
        root_room = tree.root_room;
      }

-- ---- children

module _ (rows : List NodeRow) (entries : List (Board × ℕ)) (space root_space spare : ℕ) (tree : IsTree rows entries space root_space spare) (g : TreeState)
    (is : seen rows entries spare ≡ g) (n : ℕ) (children : List Child) (after : List NodeRow) (inside : n < length rows)
    (none : (row_at rows n).count ≡ 0) (some : IsSome (node_at n g.forest)) (opening : IfSome (node_at n g.forest) (IsOpening children))
    (step : AreExpanded rows after n children) where
  next_is : length rows ≡ size (forest_of rows (values_of entries))
  next_is = sym (ap (λ (ts : List ℕ). size (forest_of rows ts)) tree.roots ∙ size-forest rows tree.linked)

  links_now : AreLinked after
  links_now = AreLinked-expanded rows after n children tree.linked inside step (nodes_from 0 rows) (IsMeaning-nodes rows tree.linked) none

  pub forests-expanded : forest_of after (values_of entries) ≡ with_children n children (forest_of rows (values_of entries))
  forests-expanded =
      let tops = values_of entries in
      let xs = nodes_from 0 rows in
      let fit = IsMeaning-nodes rows tree.linked in
      let ys : List Node = nodes_after rows after n children tree.linked inside step xs fit in
      let new : nodes_from 0 after ≡ ys = nodes_from-is after ys links_now (IsMeaning-expanded rows after n children tree.linked inside step xs fit) in
      let h : Node → Node = grow n children (length rows) [] in
      let tops_change : map (node_in ys) tops ≡ map h (map (node_in xs) tops) =
      map-tops xs ys h tops
      (λ i l.
      let r = get_or tops i 0 in
      let t = tops-are rows tops tree.roots i l in
      at_old rows after n children tree.linked inside step xs fit r t.0
      ∙ ap (λ (p : Option ℕ). grow n children (length rows) (path rows p) (node_of r (row_at rows r) xs)) t.1
      ∙ ap (λ (ps : List Board). grow n children (length rows) ps (node_of r (row_at rows r) xs)) (path-none rows)
      ∙ ap h (sym (fit.at r t.0))) in
      ap (λ (zs : List Node). forest (map (node_in zs) tops)) new
      ∙ ap forest tops_change
      ∙ sym (expanded-forest n children (length rows) [] (map (node_in xs) tops))
      ∙ ap (λ (k : ℕ). expanded n children k [] (forest_of rows tops)) next_is

  pub with_children-is : (left : ℕ) → left ≡ spare - length children
      → seen after entries left ≡ record { forest = with_children n children g.forest; spare = g.spare - length children }
  with_children-is left e =
      (λ i. record { forest = forests-expanded i; spare = e i })
      ∙ ap (λ (q : TreeState). record { forest = with_children n children q.forest; spare = q.spare - length children }) is

  position-grown : (b : Bool) (own : Own) → (cond b (record own { mark = Expanded }) own).position ≡ own.position
  position-grown true own = refl
  position-grown false own = refl

  position-old : (k : ℕ) → k < length rows → (row_at after k).position ≡ (row_at rows k).position
  position-old k l = by (cases_eq k n) where
    by : (k ≡ n) ⊎ (k ≢ n) → (row_at after k).position ≡ (row_at rows k).position
    by (inl e) =
        subst (λ j. (row_at after j).position ≡ (row_at rows j).position) (sym e)
        (ap (λ (o : Own). o.position) step.own ∙ position-grown (eqb n n) (own_of n (row_at rows n)))
    by (inr h) = ap (λ (o : Own). o.position) (step.old_own k l h)

  sound-expanded : IsSoundForest (forest_of after (values_of entries))
  sound-expanded =
      let x = the_node rows entries space root_space spare tree g is n in
      let s = (sound-node rows entries space root_space spare tree g is n some).1 in
      subst IsSoundForest (sym forests-expanded)
      (IsSound-expanded n children (forest_of rows (values_of entries)) x tree.sound
      (ap (λ (h : TreeState). node_at n h.forest) is ∙ found-there rows entries space root_space spare tree g is n some)
      (said-of-row rows entries space root_space spare tree g is n (IsOpening children) some opening) s.lawful)

  pub IsTree-expanded : length children ≤ spare → (space' : ℕ) → space ≤ space' → ((k : ℕ) → k < length after → Fits after k)
      → (left : ℕ) → left ≡ spare - length children → IsTree after entries space' root_space left
  IsTree-expanded enough space' more fits left e =
      record {
        linked = links_now;
        fits = fits;
        counted = AreCounted-expanded rows after n children inside step tree.counted;
        roots = tree.roots ∙ sym (roots_from-longer 0 n (length children) rows after step.as_long step.parent step.parents);
        keys =
            tree.keys
            ∙ positions-same rows after (values_of entries)
            (λ i l. let t = tops-are rows (values_of entries) tree.roots i l in position-old (get_or (values_of entries) i 0) t.0);
        sound = sound-expanded;
        few = let h = tree.few in let a = step.as_long in omega (arith, h, a, e, enough);
        few_roots = tree.few_roots;
        room = let h = tree.room in let a = step.as_long in omega (arith, h, a, e, enough, more);
        root_room = let h = tree.root_room in omega (arith, h, e);
      }

-- ---- the roots

module _ (rows : List NodeRow) (entries : List (Board × ℕ)) (space root_space spare : ℕ) (tree : IsTree rows entries space root_space spare) (g : TreeState)
    (is : seen rows entries spare ≡ g) where
  roots-are : nodes g.forest ≡ map (node_in (nodes_from 0 rows)) (values_of entries)
  roots-are = sym (ap (λ (h : TreeState). nodes h.forest) is) ∙ nodes-forest (map (node_in (nodes_from 0 rows)) (values_of entries))

  pub roots-many : length (nodes g.forest) ≡ length entries
  roots-many = ap length roots-are ∙ length-map (values_of entries) (node_in (nodes_from 0 rows)) ∙ length-map entries (λ e. e.1)

  pub size-is : size g.forest ≡ length rows
  size-is =
      sym (ap (λ (h : TreeState). size h.forest) is)
      ∙ ap (λ (ts : List ℕ). size (forest_of rows ts)) tree.roots
      ∙ size-forest rows tree.linked

  positions-of : (tops : List ℕ) → ((i : ℕ) → i < length tops → get_or tops i 0 < length rows)
      → map (λ (x : Node). x.own.position) (map (node_in (nodes_from 0 rows)) tops) ≡ map (λ k. (row_at rows k).position) tops
  positions-of [] h = refl
  positions-of (r ∷ tops) h =
      let fit = IsMeaning-nodes rows tree.linked in
      λ i. ap (λ (x : Node). x.own.position) (fit.at r (h 0 (omega arith))) i ∷ positions-of tops (λ k l. h (suc k) (omega arith)) i

  pub positions-are : root_positions g.forest ≡ keys_of entries
  positions-are =
      ap (map (λ (x : Node). x.own.position)) roots-are
      ∙ positions-of (values_of entries) (λ i l. (tops-are rows (values_of entries) tree.roots i l).0)
      ∙ sym tree.keys

  -- the root at this place
  pub root-at : (i : ℕ) → i < length entries → slice_get (nodes g.forest) i ≡ Some (node_in (nodes_from 0 rows) (get_or (values_of entries) i 0))
  root-at i l =
      ap (λ (xs : List Node). slice_get xs i) roots-are
      ∙ slice-map (node_in (nodes_from 0 rows)) (values_of entries) i (omega (arith, length-map entries (λ e. e.1), l))

  pub root-inside : (i : ℕ) → i < length entries → get_or (values_of entries) i 0 < length rows
  root-inside i l = (tops-are rows (values_of entries) tree.roots i (omega (arith, length-map entries (λ e. e.1), l))).0

  root_number : (i : ℕ) → i < length entries → IfSome (slice_get (nodes g.forest) i) (λ x. get_or (values_of entries) i 0 ≡ x.own.number)
  root_number i l =
      let k = get_or (values_of entries) i 0 in
      subst (λ (o : Option Node). IfSome o (λ x. k ≡ x.own.number)) (sym (root-at i l))
      (sym (ap (λ (x : Node). x.own.number) ((IsMeaning-nodes rows tree.linked).at k (root-inside i l))))

  pub root-number : (i : ℕ) → i < length entries → (r : ℕ) → r ≡ get_or (values_of entries) i 0 → IfSome (slice_get (nodes g.forest) i) (λ x. r ≡ x.own.number)
  root-number i l r e = subst (λ (k : ℕ). IfSome (slice_get (nodes g.forest) i) (λ x. k ≡ x.own.number)) (sym e) (root_number i l)

  root_kept : (goal : Side) (k : ℕ) → k < length rows → kept_numbers goal (row_at rows k) ≡ node_numbers goal (node_in (nodes_from 0 rows) k)
  root_kept goal k l =
      kept-is rows tree.linked (nodes_from 0 rows) (IsMeaning-nodes rows tree.linked) goal 0 (λ j from l'. fits_for rows goal j (tree.fits j l')) k (omega arith) l

  pub root-value : (i : ℕ) (l : i < length entries) (r : ℕ) → r ≡ get_or (values_of entries) i 0 → (row : NodeRow) → row ≡ get_or rows r row → (v : Option Value)
      → v ≡ value_by (kept_numbers Black row) (kept_numbers White row) → IfSome (slice_get (nodes g.forest) i) (λ x. v ≡ value_of x)
  root-value i l r e row read v is =
      let k = get_or (values_of entries) i 0 in
      let inside = root-inside i l in
      let same : row ≡ row_at rows k = get_or_read rows k row inside (read ∙ ap (λ (j : ℕ). get_or rows j row) e) blank in
      subst (λ (o : Option Node). IfSome o (λ x. v ≡ value_of x)) (sym (root-at i l))
      (is
      ∙ (λ j. value_by (kept_numbers Black (same j)) (kept_numbers White (same j)))
      ∙ (λ j. value_by (root_kept Black k inside j) (root_kept White k inside j)))

  pub valid : IsTreeState g
  valid =
      let few = tree.few in
      let same = ap (λ (h : TreeState). h.spare) is in
      record {
        sound = subst IsSoundForest (ap (λ (h : TreeState). h.forest) is) tree.sound;
        few = omega (arith, few, same, size-is);
        few_roots = let m = tree.few_roots in omega (arith, m, roots-many);
      }

  some_by : (n : ℕ) (o : Option Node) → node_at n g.forest ≡ o → n < length rows → IsSome o
  some_by n (Some x) e l = refl
  some_by n None e l =
      let s = valid in
      let sound = s.sound in
      let none = missing_occurs n g.forest e in
      let one = sound.numbered n in
      absurd (zero_one n (size g.forest) (occurrences n g.forest) one none (omega (arith, l, size-is))) where
        zero_one : (n s o : ℕ) → o ≡ cond (ltb n s) 1 0 → o ≡ 0 → n < s → ⊥
        zero_one n s o e z l = grind (arith, nat_tests, e, z, l)

  pub is_there : (n : ℕ) → n < length rows → IsSome (node_at n g.forest)
  is_there n l = some_by n (node_at n g.forest) refl l
