-- One row more, without a parent: one root more.
use Rattle.std.proofs.Common.{◌≡◌, ℕ, suc, ◌+◌, ◌-◌, ◌<◌, ◌≤◌, false, List, [], ◌∷◌, ◌++◌, map, length, take, drop, get_or, Option, Some, None, refl, sym, ap, ◌∙◌, subst, arith, ⊎_elim, length-drop}
use Rattle.std.proofs.lemmas.List.{get_or_append_left, get_or-append-add, take-append-le, drop-append-le, map-append, map-id, length_push}
use Rattle.std.proofs.lemmas.Bool.{cases_lt}
use Rattle.std.specs.Prelude.{Contains}
use Rattle.std.specs.Map.{keys_of, values_of}
use Rattle.draughts_board.specs.Board.{Board, IsLawful, other}
use Rattle.draughts_board.specs.declared.pieces.Side.{Side}
use Rattle.draughts_board.specs.declared.pieces.Side.TheVariants.{Black, White}
use Rattle.proof_numbers.specs.declared.leaves.Child.{Child}
use Rattle.proof_numbers.specs.Facts.{known}
use Rattle.proof_numbers.specs.Known.{knows_win, knows_hold}
use Rattle.proof_numbers.specs.declared.numbers.Numbers.{Numbers}
use Rattle.proof_numbers.specs.Numbers.{mobility}
use Rattle.proof_tree.specs.declared.rows.NodeRow.{NodeRow}
use Rattle.proof_tree.specs.declared.rows.Mark.TheVariants.{Unexpanded}
use Rattle.proof_tree.specs.Forest.{Node, no_node, node, forest, size, numbers_at}
use Rattle.proof_tree.specs.Changes.{appended, with_root}
use Rattle.proof_tree.specs.Sound.{IsSoundForest, TreeState, root_positions}
use Rattle.proof_tree.specs.Rows.{blank, row_at, own_of, blank_node, node_in, slice_of, nodes_from, forest_of, kept_numbers, if_root, roots_from, AreLinked, AreCounted, IsCounted, Fits, FitsRow, IsTree, root_row}
use Rattle.proof_tree.proofs.Meaning.{node_of, IsMeaning, IsMeaning-nodes, nodes_from-is}
use Rattle.proof_tree.proofs.Learning.{kept_slice}
use Rattle.proof_tree.proofs.Counting.{size-forest}
use Rattle.proof_tree.proofs.Opening.{leaf_cases}
use Rattle.proof_tree.proofs.SoundForests.{IsSound-root}
use Rattle.proof_tree.proofs.Trees.{seen, map-tops, tops-are, positions-same}

forest-append : (xs ys : List Node) → forest (xs ++ ys) ≡ appended (forest xs) (forest ys)
forest-append [] ys = refl
forest-append (x ∷ xs) ys = ap (node x.own x.children) (forest-append xs ys)

roots_from-push : (j : ℕ) (rows : List NodeRow) (r : NodeRow) → r.parent ≡ None → roots_from j (rows ++ r ∷ []) ≡ roots_from j rows ++ (j + length rows) ∷ []
roots_from-push j [] r e =
    ap (λ (p : Option ℕ). if_root p j []) e ∙ ap (λ (n : ℕ). n ∷ []) (let z : j ≡ j + 0 = omega arith in z)
roots_from-push j (s ∷ rows) r e =
    ap (if_root s.parent j) (roots_from-push (suc j) rows r e)
    ∙ in_front s.parent j (roots_from (suc j) rows) (suc j + length rows)
    ∙ ap (λ (n : ℕ). if_root s.parent j (roots_from (suc j) rows) ++ n ∷ []) (let z : suc j + length rows ≡ j + suc (length rows) = omega arith in z) where
      in_front : (p : Option ℕ) (j : ℕ) (ks : List ℕ) (n : ℕ) → if_root p j (ks ++ n ∷ []) ≡ if_root p j ks ++ n ∷ []
      in_front None j ks n = refl
      in_front (Some p) j ks n = refl

module _ (rows : List NodeRow) (links : AreLinked rows) (root : Child) where
  abbrev pub row : NodeRow
  row = root_row (length rows) root

  abbrev pub added : List NodeRow
  added = rows ++ row ∷ []

  long : length added ≡ length rows + 1
  long = length_push rows row

  old : (k : ℕ) → k < length rows → row_at added k ≡ row_at rows k
  old k l = get_or_append_left rows (row ∷ []) blank k l

  new : row_at added (length rows) ≡ row
  new = ap (row_at added) (let z : length rows ≡ length rows + 0 = omega arith in z) ∙ get_or-append-add rows (row ∷ []) 0 blank

  each : (P : ℕ → Type 0) → ((k : ℕ) → k < length rows → P k) → P (length rows) → (k : ℕ) → k < length added → P k
  each P before here k l =
      ⊎_elim (before k) (λ h. subst P (let e : length rows ≡ k = omega (arith, h, long) in e) here) (cases_lt k (length rows))

  old_parent : (k : ℕ) → k < length rows → (row_at added k).parent ≡ (row_at rows k).parent
  old_parent k l = ap (λ (r : NodeRow). r.parent) (old k l)

  first_old : (k : ℕ) → k < length rows → (row_at added k).first ≡ (row_at rows k).first
  first_old k l = ap (λ (r : NodeRow). r.first) (old k l)

  count_old : (k : ℕ) → k < length rows → (row_at added k).count ≡ (row_at rows k).count
  count_old k l = ap (λ (r : NodeRow). r.count) (old k l)

  first_new : (row_at added (length rows)).first ≡ suc (length rows)
  first_new = ap (λ (r : NodeRow). r.first) new

  count_new : (row_at added (length rows)).count ≡ 0
  count_new = ap (λ (r : NodeRow). r.count) new

  pub AreLinked-added : AreLinked added
  AreLinked-added =
      record {
        behind = each (λ k. k < (row_at added k).first) (λ k l. let b = links.behind k l in let f = first_old k l in omega (arith, b, f)) (let f = first_new in omega (arith, f));
        within =
            each (λ k. (row_at added k).first + (row_at added k).count ≤ length added)
            (λ k l. let b = links.within k l in let f = first_old k l in let c = count_old k l in omega (arith, b, f, c, long))
            (let f = first_new in let c = count_new in omega (arith, f, c, long));
        parents = λ k i l.
            each (λ j. i < (row_at added j).count → (row_at added ((row_at added j).first + i)).parent ≡ Some j)
            (λ j l' h.
            let f = first_old j l' in
            let c = count_old j l' in
            let w = links.within j l' in
            ap (λ (n : ℕ). (row_at added (n + i)).parent) f ∙ old_parent ((row_at rows j).first + i) (omega (arith, h, c, w)) ∙ links.parents j i l' (omega (arith, h, c)))
            (λ h. absurd (let c = count_new in omega (arith, h, c))) k l;
        children = λ k q l.
            each (λ j. (row_at added j).parent ≡ Some q → (q < j) × ((row_at added q).first ≤ j) × (j < (row_at added q).first + (row_at added q).count))
            (λ j l' e.
            let c = links.children j q l' (sym (old_parent j l') ∙ e) in
            let low = c.0 in
            let mid = c.1 in
            let high = c.2 in
            let f = first_old q (omega (arith, low, l')) in
            let n = count_old q (omega (arith, low, l')) in
            (low, omega (arith, mid, f), omega (arith, high, f, n)))
            (λ e. absurd (let no : None ≡ Some q = sym (ap (λ (r : NodeRow). r.parent) new) ∙ e in cc)) k l;
      }

  kept_old : (goal : Side) (k : ℕ) → k < length rows → kept_numbers goal (row_at added k) ≡ kept_numbers goal (row_at rows k)
  kept_old goal k l = ap (kept_numbers goal) (old k l)

  fits_old : (goal : Side) (k : ℕ) → k < length rows → FitsRow rows goal k → FitsRow added goal k
  fits_old goal k l fit =
      kept_old goal k l
      ∙ fit
      ∙ ap (numbers_at goal (own_of k (row_at rows k))) (sym (kept_slice rows added goal (row_at rows k) (links.within k l) (omega (arith, long)) (kept_old goal)))
      ∙ ap (λ (r : NodeRow). numbers_at goal (own_of k r) (map (kept_numbers goal) (slice_of r added))) (sym (old k l))

  fits_row : (goal : Side) (k : ℕ) (below : List Numbers) → kept_numbers goal row ≡ numbers_at goal (own_of k row) below
  fits_row Black k below =
      leaf_cases Black root.position root.moves root.counted (knows_win Black (known root.facts)) (knows_hold (other Black) (known root.facts)) false below
  fits_row White k below =
      leaf_cases White root.position root.moves root.counted (knows_win White (known root.facts)) (knows_hold (other White) (known root.facts)) false below

  fits_new : (goal : Side) → FitsRow added goal (length rows)
  fits_new goal =
      subst (λ (r : NodeRow). kept_numbers goal r ≡ numbers_at goal (own_of (length rows) r) (map (kept_numbers goal) (slice_of r added))) (sym new)
      (fits_row goal (length rows) (map (kept_numbers goal) (slice_of row added)))

  pub Fits-added : ((k : ℕ) → k < length rows → Fits rows k) → (k : ℕ) → k < length added → Fits added k
  Fits-added fits =
      each (Fits added) (λ k l. let f = fits k l in record { black = fits_old Black k l f.black; white = fits_old White k l f.white })
      (record { black = fits_new Black; white = fits_new White })

  abbrev new_node : Node
  new_node = record { own = own_of (length rows) row; children = no_node }

  IsMeaning-added : (xs : List Node) → IsMeaning rows xs → IsMeaning added (xs ++ new_node ∷ [])
  IsMeaning-added xs fit =
      record {
        as_long = length_push xs new_node ∙ ap (λ (n : ℕ). n + 1) fit.as_long ∙ sym long;
        at =
            each (λ k. node_in (xs ++ new_node ∷ []) k ≡ node_of k (row_at added k) (xs ++ new_node ∷ []))
            (λ k l.
            let r = row_at rows k in
            let w = links.within k l in
            get_or_append_left xs (new_node ∷ []) blank_node k (omega (arith, fit.as_long))
            ∙ fit.at k l
            ∙ ap (λ (ys : List Node). record { own = own_of k r; children = forest ys })
            (sym (take-append-le r.count (drop r.first xs) (new_node ∷ []) (omega (arith, w, fit.as_long, length-drop r.first xs)))
            ∙ ap (take r.count) (sym (drop-append-le r.first xs (new_node ∷ []) (omega (arith, w, fit.as_long)))))
            ∙ ap (λ (q : NodeRow). node_of k q (xs ++ new_node ∷ [])) (sym (old k l)))
            (ap (node_in (xs ++ new_node ∷ [])) (let z : length rows ≡ length xs + 0 = omega (arith, fit.as_long) in z)
            ∙ get_or-append-add xs (new_node ∷ []) 0 blank_node
            ∙ ap (λ (q : NodeRow). node_of (length rows) q (xs ++ new_node ∷ [])) (sym new));
      }

pub AreCounted-added : (rows : List NodeRow) (links : AreLinked rows) (root : Child) → AreCounted rows → AreCounted (added rows links root)
AreCounted-added rows links root counted =
    each rows links root (IsCounted (added rows links root))
    (λ k l. subst (λ (r : NodeRow). r.moves ≡ mobility r.position) (sym (old rows links root k l)) (counted k l))
    (subst (λ (r : NodeRow). r.moves ≡ mobility r.position) (sym (new rows links root)) root.counted)

module _ (rows : List NodeRow) (entries : List (Board × ℕ)) (space root_space spare : ℕ) (tree : IsTree rows entries space root_space spare) (g : TreeState)
    (is : seen rows entries spare ≡ g) (root : Child) where
  abbrev pub more : List NodeRow
  more = rows ++ root_row (length rows) root ∷ []

  abbrev pub more_entries : List (Board × ℕ)
  more_entries = entries ++ (root.position, length rows) ∷ []

  tops-more : values_of more_entries ≡ values_of entries ++ length rows ∷ []
  tops-more = map-append (λ e. e.1) entries ((root.position, length rows) ∷ [])

  keys-more : keys_of more_entries ≡ keys_of entries ++ root.position ∷ []
  keys-more = map-append (λ e. e.0) entries ((root.position, length rows) ∷ [])

  next_is : length rows ≡ size (forest_of rows (values_of entries))
  next_is = sym (ap (λ (ts : List ℕ). size (forest_of rows ts)) tree.roots ∙ size-forest rows tree.linked)

  pub forests-more : forest_of more (values_of more_entries) ≡ with_root root.position (known root.facts) (forest_of rows (values_of entries))
  forests-more =
      let tops = values_of entries in
      let xs = nodes_from 0 rows in
      let fit = IsMeaning-nodes rows tree.linked in
      let one : Node = new_node rows tree.linked root in
      let ys : List Node = xs ++ one ∷ [] in
      let meaning = IsMeaning-added rows tree.linked root xs fit in
      let new : nodes_from 0 more ≡ ys = nodes_from-is more ys (AreLinked-added rows tree.linked root) meaning in
      let old_tops : map (node_in ys) tops ≡ map (node_in xs) tops =
      map-tops xs ys (λ (x : Node). x) tops
      (λ i l. let t = tops-are rows tops tree.roots i l in get_or_append_left xs (one ∷ []) blank_node (get_or tops i 0) (omega (arith, t.0, fit.as_long)))
      ∙ map-id (map (node_in xs) tops) in
      let at_end : node_in ys (length rows) ≡ one =
      ap (node_in ys) (let z : length rows ≡ length xs + 0 = omega (arith, fit.as_long) in z) ∙ get_or-append-add xs (one ∷ []) 0 blank_node in
      let all_tops : map (node_in ys) (tops ++ length rows ∷ []) ≡ map (node_in xs) tops ++ one ∷ [] =
      map-append (node_in ys) tops (length rows ∷ []) ∙ (λ i. old_tops i ++ at_end i ∷ []) in
      ap (forest_of more) tops-more
      ∙ ap (λ (zs : List Node). forest (map (node_in zs) (tops ++ length rows ∷ []))) new
      ∙ ap forest all_tops
      ∙ forest-append (map (node_in xs) tops) (one ∷ [])
      ∙ ap (λ (n : ℕ). appended (forest_of rows tops) (node (record { number = n; position = root.position; facts = known root.facts; mark = Unexpanded }) no_node no_node)) next_is

  pub with_root-is : (left : ℕ) → left ≡ spare - 1
      → seen more more_entries left ≡ record { forest = with_root root.position (known root.facts) g.forest; spare = g.spare - 1 }
  with_root-is left e =
      (λ i. record { forest = forests-more i; spare = e i })
      ∙ ap (λ (q : TreeState). record { forest = with_root root.position (known root.facts) q.forest; spare = q.spare - 1 }) is

  position-old : (i : ℕ) → i < length (values_of entries)
      → (row_at more (get_or (values_of entries) i 0)).position ≡ (row_at rows (get_or (values_of entries) i 0)).position
  position-old i l =
      let t = tops-are rows (values_of entries) tree.roots i l in
      ap (λ (r : NodeRow). r.position) (old rows tree.linked root (get_or (values_of entries) i 0) t.0)

  keys-now : keys_of more_entries ≡ map (λ k. (row_at more k).position) (values_of more_entries)
  keys-now =
      let here : root.position ≡ (row_at more (length rows)).position = sym (ap (λ (r : NodeRow). r.position) (new rows tree.linked root)) in
      keys-more
      ∙ (λ i. (tree.keys ∙ positions-same rows more (values_of entries) position-old) i ++ here i ∷ [])
      ∙ sym (map-append (λ k. (row_at more k).position) (values_of entries) (length rows ∷ []))
      ∙ ap (map (λ k. (row_at more k).position)) (sym tops-more)

  pub IsTree-added : 1 ≤ g.spare → length entries < 65536 → IsLawful root.position → ¬ Contains (root_positions g.forest) root.position
      → (space' root_space' : ℕ) → space ≤ space' → root_space ≤ root_space' + 1 → (left : ℕ) → left ≡ spare - 1
      → IsTree more more_entries space' root_space' left
  IsTree-added enough fewer lawful absent space' root_space' wider longer left e =
      let same : g.spare ≡ spare = sym (ap (λ (q : TreeState). q.spare) is) in
      let rows_long = length_push rows (root_row (length rows) root) in
      let entries_long = length_push entries (root.position, length rows) in
      record {
        linked = AreLinked-added rows tree.linked root;
        fits = Fits-added rows tree.linked root tree.fits;
        counted = AreCounted-added rows tree.linked root tree.counted;
        roots =
            tops-more
            ∙ ap (λ (ts : List ℕ). ts ++ length rows ∷ []) tree.roots
            ∙ ap (λ (n : ℕ). roots_from 0 rows ++ n ∷ []) (let z : length rows ≡ 0 + length rows = omega arith in z)
            ∙ sym (roots_from-push 0 rows (root_row (length rows) root) refl);
        keys = keys-now;
        sound =
            subst IsSoundForest (sym forests-more)
            (IsSound-root root (forest_of rows (values_of entries)) tree.sound lawful
            (subst (λ (h : TreeState). ¬ Contains (root_positions h.forest) root.position) (sym is) absent));
        few = let h = tree.few in omega (arith, h, rows_long, e, enough, same);
        few_roots = omega (arith, entries_long, fewer);
        room = let h = tree.room in omega (arith, h, rows_long, e, enough, same, wider);
        root_room = let h = tree.root_room in omega (arith, h, entries_long, e, enough, same, fewer, longer);
      }
