-- Rows for the children of a row are the node with these children.
use Rattle.std.proofs.Common.{◌≡◌, ◌≢◌, ℕ, zero, suc, ◌+◌, ◌-◌, ◌<◌, ◌≤◌, true, false, eqb, cond, List, [], ◌∷◌, ◌++◌, map, length, take, drop, Some, refl, sym, ap, ◌∙◌, subst, arith, length-drop, get_or-drop, get_or-take, length-append, ⊎_elim}
use Rattle.std.proofs.lemmas.List.{get_or-map, length-map, drop-append-le, take-append-le, drop_at, take_all, get_or_append_left, get_or-append-add, length-take-le}
use Rattle.std.proofs.lemmas.Bool.{cases_eq, cases_lt}
use Rattle.draughts_board.specs.Board.{Board}
use Rattle.proof_numbers.specs.declared.leaves.Child.{Child}
use Rattle.proof_tree.specs.declared.rows.NodeRow.{NodeRow}
use Rattle.proof_tree.specs.declared.rows.Mark.TheVariants.{Expanded}
use Rattle.proof_numbers.specs.Numbers.{mobility}
use Rattle.proof_tree.specs.Forest.{Own, Node, no_node, node, forest}
use Rattle.proof_tree.specs.Changes.{expanded, expand_own, new_nodes}
use Rattle.proof_tree.specs.Rows.{row_at, own_of, blank_node, node_in, slice_of, AreLinked, AreRekept, AreExpanded, path}
use Rattle.proof_tree.proofs.Meaning.{node_of, IsMeaning}
use Rattle.proof_tree.proofs.KeptNumbers.{map-slice}
use Rattle.proof_tree.proofs.Lines.{path-at}

-- one node after the expansion of node n, below this path
abbrev pub grow : ℕ → List Child → ℕ → List Board → Node → Node
grow n children next above x =
    record {
      own = expand_own n x.own;
      children = cond (eqb x.own.number n) (forest (new_nodes (x.own.position ∷ above) next children)) (expanded n children next (x.own.position ∷ above) x.children);
    }

pub expanded-forest : (n : ℕ) (children : List Child) (next : ℕ) (above : List Board) (xs : List Node)
    → expanded n children next above (forest xs) ≡ forest (map (grow n children next above) xs)
expanded-forest n children next above [] = refl
expanded-forest n children next above (x ∷ xs) =
    let first = grow n children next above x in
    ap (node first.own first.children) (expanded-forest n children next above xs)

pub length-new_nodes : (above : List Board) (next : ℕ) (children : List Child) → length (new_nodes above next children) ≡ length children
length-new_nodes above next [] = refl
length-new_nodes above next (c ∷ children) = ap suc (length-new_nodes above (suc next) children)

pub new_nodes-leaf : (above : List Board) (next : ℕ) (children : List Child) (i : ℕ) → (node_in (new_nodes above next children) i).children ≡ no_node
new_nodes-leaf above next [] i = refl
new_nodes-leaf above next (c ∷ children) zero = refl
new_nodes-leaf above next (c ∷ children) (suc i) = new_nodes-leaf above (suc next) children i

map-agree : (f g : Node → Node) (xs : List Node) → ((i : ℕ) → i < length xs → f (node_in xs i) ≡ g (node_in xs i)) → map f xs ≡ map g xs
map-agree f g [] h = refl
map-agree f g (x ∷ xs) h = λ i. (h 0 (omega arith)) i ∷ (map-agree f g xs (λ k l. h (suc k) (omega arith))) i

test_true : (m n : ℕ) → m ≡ n → eqb m n ≡ true
test_true m n e = grind arith

test_false : (m n : ℕ) → m ≢ n → eqb m n ≡ false
test_false m n e = grind arith

module _ (rows after : List NodeRow) (n : ℕ) (children : List Child) (links : AreLinked rows) (inside : n < length rows)
    (step : AreExpanded rows after n children) (xs : List Node) (fit : IsMeaning rows xs) where
  abbrev pub grown : Node → Node
  grown x = grow n children (length rows) (path rows (row_at rows x.own.number).parent) x

  abbrev pub new : List Node
  new = new_nodes (path rows (Some n)) (length rows) children

  abbrev pub nodes_after : List Node
  nodes_after = map grown xs ++ new

  long : length (map grown xs) ≡ length rows
  long = length-map xs grown ∙ fit.as_long

  -- children of an old row that stay
  stays : (k : ℕ) → k < length rows
      → expanded n children (length rows) ((row_at rows k).position ∷ path rows (row_at rows k).parent) (forest (slice_of (row_at rows k) xs))
      ≡ forest (slice_of (row_at rows k) nodes_after)
  stays k l =
      let row = row_at rows k in
      let kids : List Node = slice_of row xs in
      let within : row.first + row.count ≤ length rows = links.within k l in
      let many : length kids ≡ row.count =
      length-take-le row.count (drop row.first xs) (omega (arith, length-drop row.first xs, fit.as_long)) in
      expanded-forest n children (length rows) (row.position ∷ path rows row.parent) kids
      ∙ ap forest
      (map-agree (grow n children (length rows) (row.position ∷ path rows row.parent)) grown kids
      (λ i l'.
      let at : node_in kids i ≡ node_in xs (row.first + i) =
      get_or-take row.count (drop row.first xs) i blank_node (omega (arith, many)) ∙ get_or-drop row.first xs i blank_node in
      let number : (node_in kids i).own.number ≡ row.first + i =
      ap (λ (x : Node). x.own.number) (at ∙ fit.at (row.first + i) (omega (arith, many))) in
      let above : row.position ∷ path rows row.parent ≡ path rows (row_at rows (node_in kids i).own.number).parent =
      sym (path-at rows links k l)
      ∙ ap (path rows) (sym (ap (λ (j : ℕ). (row_at rows j).parent) number ∙ links.parents k i l (omega (arith, many)))) in
      ap (λ (ps : List Board). grow n children (length rows) ps (node_in kids i)) above)
      ∙ map-slice grown row.count row.first xs
      ∙ sym (take-append-le row.count (drop row.first (map grown xs)) new
      (omega (arith, length-drop row.first (map grown xs), long)))
      ∙ ap (take row.count) (sym (drop-append-le row.first (map grown xs) new (omega (arith, long)))))

  pub at_old : (k : ℕ) → k < length rows → node_in nodes_after k ≡ grown (node_of k (row_at rows k) xs)
  at_old k l =
      get_or_append_left (map grown xs) new blank_node k (omega (arith, long))
      ∙ get_or-map grown xs k blank_node blank_node (omega (arith, fit.as_long))
      ∙ ap grown (fit.at k l)

  at_other : (k : ℕ) → k < length rows → k ≢ n → node_in nodes_after k ≡ node_of k (row_at after k) nodes_after
  at_other k l other =
      let row = row_at rows k in
      let test : eqb k n ≡ false = test_false k n other in
      let own : own_of k row ≡ own_of k (row_at after k) = sym (step.old_own k l other) in
      let first : row.first ≡ (row_at after k).first = sym (step.old_first k l other) in
      let count : row.count ≡ (row_at after k).count = sym (step.old_count k l other) in
      at_old k l
      ∙ (λ i.
      record {
        own = cond (test i) (record (own_of k row) { mark = Expanded }) (own_of k row);
        children = cond (test i) (forest (new_nodes (row.position ∷ path rows row.parent) (length rows) children)) (stays k l i);
      })
      ∙ (λ i. record { own = own i; children = forest (take (count i) (drop (first i) nodes_after)) })

  at_n : node_in nodes_after n ≡ node_of n (row_at after n) nodes_after
  at_n =
      let row = row_at rows n in
      let test : eqb n n ≡ true = test_true n n refl in
      let below : forest new ≡ forest (slice_of (row_at after n) nodes_after) =
      ap forest
      (sym (take_all (length children) new (omega (arith, length-new_nodes (path rows (Some n)) (length rows) children)))
      ∙ (λ i. take ((sym step.count) i) (sym (drop_at (map grown xs) new (length rows) long) i))
      ∙ ap (λ (d : ℕ). take (row_at after n).count (drop d nodes_after)) (sym step.first)) in
      at_old n inside
      ∙ (λ i.
      record {
        own = expand_own n (own_of n row);
        children = cond (test i) (forest (new_nodes ((sym (path-at rows links n inside)) i) (length rows) children))
            (expanded n children (length rows) (row.position ∷ path rows row.parent) (forest (slice_of row xs)));
      })
      ∙ (λ i. record { own = (sym step.own) i; children = below i })

  at_new : (i : ℕ) → i < length children → node_in nodes_after (length rows + i) ≡ node_of (length rows + i) (row_at after (length rows + i)) nodes_after
  at_new i l =
      let row = row_at after (length rows + i) in
      let none : forest (slice_of row nodes_after) ≡ no_node = ap (λ (c : ℕ). forest (take c (drop row.first nodes_after))) (step.leaf i l) in
      ap (λ (d : ℕ). node_in nodes_after (d + i)) (sym long)
      ∙ get_or-append-add (map grown xs) new i blank_node
      ∙ (λ j. record { own = (sym (step.new i l)) j; children = (new_nodes-leaf (path rows (Some n)) (length rows) children i ∙ sym none) j })

  FitsNode : ℕ → Type 0
  FitsNode k = node_in nodes_after k ≡ node_of k (row_at after k) nodes_after

  at_any_old : (k : ℕ) → k < length rows → FitsNode k
  unfolding FitsNode
  at_any_old k l = ⊎_elim (λ e. subst FitsNode (sym e) at_n) (at_other k l) (cases_eq k n)

  at_any : (k : ℕ) → k < length after → FitsNode k
  unfolding FitsNode
  at_any k l =
      ⊎_elim (at_any_old k)
      (λ past.
      subst FitsNode (let back : length rows + (k - length rows) ≡ k = omega arith in back)
      (at_new (k - length rows) (omega (arith, step.as_long))))
      (cases_lt k (length rows))

  pub IsMeaning-expanded : IsMeaning after nodes_after
  unfolding FitsNode
  IsMeaning-expanded =
      record {
        as_long = length-append (map grown xs) new
            ∙ (λ i. long i + length-new_nodes (path rows (Some n)) (length rows) children i)
            ∙ sym step.as_long;
        at = at_any;
      }

  -- what holds of n, of each other old row, and of each new row, holds of each row
  pub each : (P : ℕ → Type 0) → P n → ((k : ℕ) → k < length rows → k ≢ n → P k) → ((i : ℕ) → i < length children → P (length rows + i))
      → (k : ℕ) → k < length after → P k
  each P here other fresh k l =
      ⊎_elim
      (λ old. ⊎_elim (λ e. subst P (sym e) here) (other k old) (cases_eq k n))
      (λ past.
      subst P (let back : length rows + (k - length rows) ≡ k = omega arith in back)
      (fresh (k - length rows) (omega (arith, step.as_long))))
      (cases_lt k (length rows))

  HasParents : ℕ → Type 0
  HasParents k = (i : ℕ) → i < (row_at after k).count → (row_at after ((row_at after k).first + i)).parent ≡ Some k

  parents_other : (k : ℕ) → k < length rows → k ≢ n → HasParents k
  unfolding HasParents
  parents_other k l other i h =
      let row = row_at rows k in
      let first : (row_at after k).first ≡ row.first = step.old_first k l other in
      let count : (row_at after k).count ≡ row.count = step.old_count k l other in
      ap (λ (j : ℕ). (row_at after (j + i)).parent) first
      ∙ step.parent (row.first + i) (let w = links.within k l in omega (arith, w, h, count))
      ∙ links.parents k i l (omega (arith, h, count))

  parents_n : HasParents n
  unfolding HasParents
  parents_n i h = ap (λ (j : ℕ). (row_at after (j + i)).parent) step.first ∙ step.parents i (omega (arith, h, step.count))

  parents_new : (i : ℕ) → i < length children → HasParents (length rows + i)
  unfolding HasParents
  parents_new i l j h = absurd (omega (arith, h, step.leaf i l))

  IsUnder : ℕ → ℕ → Type 0
  IsUnder k p = (p < k) × ((row_at after p).first ≤ k) × (k < (row_at after p).first + (row_at after p).count)

  under_old : (k p : ℕ) → k < length rows → (row_at rows n).count ≡ 0 → (row_at rows k).parent ≡ Some p → IsUnder k p
  unfolding IsUnder
  under_old k p l none h =
      let old = links.children k p l h in
      ⊎_elim
      (λ e.
      let count : (row_at rows p).count ≡ 0 = ap (λ (j : ℕ). (row_at rows j).count) e ∙ none in
      absurd (omega (arith, old.1, old.2, count)))
      (λ other.
      let first : (row_at after p).first ≡ (row_at rows p).first = step.old_first p (omega (arith, old.0)) other in
      let count : (row_at after p).count ≡ (row_at rows p).count = step.old_count p (omega (arith, old.0)) other in
      (old.0, omega (arith, old.1, first), omega (arith, old.2, first, count)))
      (cases_eq p n)

  under_new : (i p : ℕ) → i < length children → Some n ≡ Some p → IsUnder (length rows + i) p
  unfolding IsUnder
  under_new i p l e =
      let same : n ≡ p = cc in
      subst (IsUnder (length rows + i)) same (omega arith, omega (arith, step.first), omega (arith, step.first, step.count))

  -- the links of the rows after, where node n had no children
  pub AreLinked-expanded : (row_at rows n).count ≡ 0 → AreLinked after
  unfolding HasParents IsUnder
  AreLinked-expanded none =
      record {
        behind =
            each (λ k. k < (row_at after k).first) (omega (arith, step.first))
            (λ k l other.
            let old = links.behind k l in
            let first : (row_at after k).first ≡ (row_at rows k).first = step.old_first k l other in
            omega (arith, old, first))
            (λ i l. let b = step.behind i l in omega (arith, b));
        within =
            each (λ k. (row_at after k).first + (row_at after k).count ≤ length after) (omega (arith, step.first, step.count, step.as_long))
            (λ k l other.
            let old = links.within k l in
            let first : (row_at after k).first ≡ (row_at rows k).first = step.old_first k l other in
            let count : (row_at after k).count ≡ (row_at rows k).count = step.old_count k l other in
            omega (arith, old, first, count, step.as_long))
            (λ i l. let b = step.behind i l in let c = step.leaf i l in omega (arith, b, c, step.as_long));
        parents = λ k i l. each HasParents parents_n parents_other parents_new k l i;
        children = λ k p l h.
            each (λ j. (row_at after j).parent ≡ Some p → IsUnder j p) (λ e. under_old n p inside none (sym (step.parent n inside) ∙ e))
            (λ j l' other e. under_old j p l' none (sym (step.parent j l') ∙ e))
            (λ i l' e. under_new i p l' (sym (step.parents i l') ∙ e)) k l h;
      }

-- mending changes nothing of this
pub AreExpanded-rekept : (rows after mended : List NodeRow) (n : ℕ) (children : List Child) → n < length rows → AreExpanded rows after n children
    → AreRekept after mended → AreExpanded rows mended n children
AreExpanded-rekept rows after mended n children l step same =
    record {
      as_long = same.links.as_long ∙ step.as_long;
      old_own = λ k l' h. same.own k ∙ step.old_own k l' h;
      old_first = λ k l' h. same.links.first k ∙ step.old_first k l' h;
      old_count = λ k l' h. same.links.count k ∙ step.old_count k l' h;
      own = same.own n ∙ step.own;
      first = same.links.first n ∙ step.first;
      count = same.links.count n ∙ step.count;
      parent = λ k l'. same.links.parent k ∙ step.parent k l';
      new = λ i l'. same.own (length rows + i) ∙ step.new i l';
      leaf = λ i l'. same.links.count (length rows + i) ∙ step.leaf i l';
      behind = λ i l'. same.links.first (length rows + i) ∙ step.behind i l';
      parents = λ i l'. same.links.parent (length rows + i) ∙ step.parents i l';
      moves = λ k l'. same.links.moves k ∙ step.moves k l';
      counted = λ i l'.
          same.links.moves (length rows + i) ∙ step.counted i l' ∙ sym (ap (λ (o : Own). mobility o.position) (same.own (length rows + i)));
    }
