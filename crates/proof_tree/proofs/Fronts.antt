-- How many settled roots stand at the front, where the rows of a tree change.
use Rattle.std.proofs.Common.{◌≡◌, ℕ, ◌+◌, ◌-◌, ◌<◌, ◌≤◌, ◌++◌, ◌∷◌, [], List, length, Option, Some, None, IsSome, IfSome, IsSomeAnd, refl, sym, ap, ◌∙◌, subst, arith}
use Rattle.std.specs.Prelude.{Contains}
use Rattle.std.specs.Map.{values_of}
use Rattle.draughts_board.specs.Board.{Board, IsLawful}
use Rattle.proof_numbers.specs.declared.leaves.Child.{Child}
use Rattle.proof_numbers.specs.Facts.{known}
use Rattle.proof_numbers.specs.Known.{Known, joined, IsConsistent}
use Rattle.proof_tree.specs.declared.rows.NodeRow.{NodeRow}
use Rattle.proof_tree.specs.declared.rows.Mark.TheVariants.{Unexpanded}
use Rattle.proof_tree.specs.Changes.{learn, with_facts, with_children, with_root}
use Rattle.proof_tree.specs.Forest.{Node, Forest, nodes, node_at}
use Rattle.proof_tree.specs.Rows.{row_at, own_of, forest_of, settled_front, AreNoted, root_row, HaveSameLinks, AreExpanded, Fits, IsTree}
use Rattle.proof_tree.specs.Sound.{TreeState, root_positions}
use Rattle.proof_tree.proofs.Adding.{more, more_entries, forests-more, IsTree-added}
use Rattle.proof_tree.proofs.Settled.{AllStay, still_noted, front_with_root, front_with_facts, front_with_children, all_with_root, all_with_facts, all_with_children}
use Rattle.proof_tree.proofs.SoundForests.{IsOpening}
use Rattle.proof_tree.proofs.Trees.{seen, the_node, found-there, said-of-row, is_some-from, leaf_there, spare_is, roots-many, forests-learnt, forests-expanded, IsTree-learnt, IsTree-expanded}

said_if : {A : Type 0} (P : A → Type 0) (o : Option A) → IsSomeAnd o P → IfSome o P
said_if P None h = tt
said_if P (Some x) h = h

-- `front` were at the front of the old forest, and so no fewer are at that of the new one
at_front : (front : ℕ) (old new after : Forest) → front ≡ settled_front (nodes old) → settled_front (nodes old) ≤ settled_front (nodes new) → after ≡ new
    → front ≤ settled_front (nodes after)
at_front front old new after is le same = subst (λ (t : Forest). front ≤ settled_front (nodes t)) (sym same) (omega (arith, is, le))

-- the rows of a tree after a change, with at least `front` settled roots at the front
pub record IsNext (before : Forest) (after : List NodeRow) (entries : List (Board × ℕ)) (space root_space spare front : ℕ) : Type 0 where
  pub tree : IsTree after entries space root_space spare
  pub settled : front ≤ settled_front (nodes (forest_of after (values_of entries)))
  pub noted : (ends starts : List ℕ) → AreNoted (nodes before) ends starts → AreNoted (nodes (forest_of after (values_of entries))) ends starts

noted_in : (old new after : Forest) → AllStay (nodes old) (nodes new) → after ≡ new → (ends starts : List ℕ) → AreNoted (nodes old) ends starts → AreNoted (nodes after) ends starts
noted_in old new after all same ends starts noted = subst (λ (t : Forest). AreNoted (nodes t) ends starts) (sym same) (still_noted (nodes old) (nodes new) ends starts all noted)

pub owns-from : (n num : ℕ) (facts : Known) (rows before after : List NodeRow) → before ≡ rows → num ≡ n
    → ((k : ℕ) → own_of k (row_at after k) ≡ learn num facts (own_of k (row_at before k)))
    → (k : ℕ) → own_of k (row_at after k) ≡ learn n facts (own_of k (row_at rows k))
owns-from n num facts rows before after same_rows same_num owns k = owns k ∙ (λ i. learn (same_num i) facts (own_of k (row_at (same_rows i) k)))

module _ (rows : List NodeRow) (entries : List (Board × ℕ)) (space root_space spare : ℕ) (tree : IsTree rows entries space root_space spare) (g : TreeState)
    (is : seen rows entries spare ≡ g) (front : ℕ) (front_is : front ≡ settled_front (nodes (forest_of rows (values_of entries)))) where
  module _ (n : ℕ) (leaf : IsSomeAnd (node_at n g.forest) (λ x. x.own.mark ≡ Unexpanded)) where
    some : IsSome (node_at n g.forest)
    some = is_some-from (node_at n g.forest) (λ x. x.own.mark ≡ Unexpanded) leaf

    x : Node
    x = the_node rows entries space root_space spare tree g is n

    here : node_at n (forest_of rows (values_of entries)) ≡ Some x
    unfolding x
    here = ap (λ (h : TreeState). node_at n h.forest) is ∙ found-there rows entries space root_space spare tree g is n some

    unexpanded : x.own.mark ≡ Unexpanded
    unfolding x
    unexpanded =
        said-of-row rows entries space root_space spare tree g is n (λ y. y.own.mark ≡ Unexpanded) some
        (said_if (λ y. y.own.mark ≡ Unexpanded) (node_at n g.forest) leaf)

    pub next-learnt : (facts : Known) (agree : IfSome (node_at n g.forest) (λ y. IsConsistent (joined y.own.facts facts))) (before after : List NodeRow) → before ≡ rows
        → (num : ℕ) → num ≡ n → HaveSameLinks before after → ((k : ℕ) → own_of k (row_at after k) ≡ learn num facts (own_of k (row_at before k)))
        → ((k : ℕ) → k < length after → Fits after k) → IsNext (forest_of rows (values_of entries)) after entries space root_space spare front
    unfolding x
    next-learnt facts agree before after same_rows num same_num links owns fits =
        let old = forest_of rows (values_of entries) in
        let agrees = said-of-row rows entries space root_space spare tree g is n (λ y. IsConsistent (joined y.own.facts facts)) some agree in
        let same = subst (λ (xs : List NodeRow). HaveSameLinks xs after) same_rows links in
        let told = owns-from n num facts rows before after same_rows same_num owns in
        record {
          tree = IsTree-learnt rows entries space root_space spare tree g is n after facts some agree same told space (omega arith) fits;
          settled = at_front front old (with_facts n facts old) (forest_of after (values_of entries)) front_is
              (front_with_facts old n x tree.sound here unexpanded facts agrees)
              (forests-learnt rows entries space root_space spare tree g is n after facts some agree same told);
          noted = noted_in old (with_facts n facts old) (forest_of after (values_of entries)) (all_with_facts old n x tree.sound here unexpanded facts agrees)
              (forests-learnt rows entries space root_space spare tree g is n after facts some agree same told);
        }

    pub next-expanded : (children : List Child) (after : List NodeRow) (opening : IfSome (node_at n g.forest) (IsOpening children)) (num : ℕ) → num ≡ n
        → AreExpanded rows after num children → length children ≤ g.spare → (space' : ℕ) → space ≤ space' → ((k : ℕ) → k < length after → Fits after k)
        → IsNext (forest_of rows (values_of entries)) after entries space' root_space (spare - length children) front
    next-expanded children after opening num same_num stepped enough space' wider fits =
        let old = forest_of rows (values_of entries) in
        let at = leaf_there rows entries space root_space spare tree g is n leaf in
        let step = subst (λ (k : ℕ). AreExpanded rows after k children) same_num stepped in
        let left = spare_is rows entries space root_space spare tree g is n in
        record {
          tree = IsTree-expanded rows entries space root_space spare tree g is n children after at.0 at.1 some opening step (omega (arith, enough, left)) space' wider fits
              (spare - length children) refl;
          settled = at_front front old (with_children n children old) (forest_of after (values_of entries)) front_is
              (front_with_children old n x tree.sound here unexpanded children)
              (forests-expanded rows entries space root_space spare tree g is n children after at.0 at.1 some opening step);
          noted = noted_in old (with_children n children old) (forest_of after (values_of entries)) (all_with_children old n x tree.sound here unexpanded children)
              (forests-expanded rows entries space root_space spare tree g is n children after at.0 at.1 some opening step);
        }

  pub next-added : (root : Child) → 1 ≤ g.spare → length (nodes g.forest) < 65536 → IsLawful root.position → ¬ Contains (root_positions g.forest) root.position
      → (after : List NodeRow) (new : List (Board × ℕ)) (number : ℕ) → after ≡ rows ++ root_row (length rows) root ∷ [] → new ≡ entries ++ (root.position, number) ∷ []
      → number ≡ length rows → (space' root_space' : ℕ) → space ≤ space' → root_space ≤ root_space' + 1 → IsNext (forest_of rows (values_of entries)) after new space' root_space' (spare - 1) front
  next-added root room few lawful absent after new number rows_are entries_are number_is space' root_space' wider longer =
      let old = forest_of rows (values_of entries) in
      let many = roots-many rows entries space root_space spare tree g is in
      let entries_now : new ≡ entries ++ (root.position, length rows) ∷ [] = entries_are ∙ ap (λ (k : ℕ). entries ++ (root.position, k) ∷ []) number_is in
      subst (λ (xs : List NodeRow). IsNext (forest_of rows (values_of entries)) xs new space' root_space' (spare - 1) front) (sym rows_are)
      (subst (λ (es : List (Board × ℕ)). IsNext (forest_of rows (values_of entries)) (rows ++ root_row (length rows) root ∷ []) es space' root_space' (spare - 1) front) (sym entries_now)
      (record {
        tree = IsTree-added rows entries space root_space spare tree g is root room (omega (arith, many, few)) lawful absent space' root_space' wider longer (spare - 1) refl;
        settled = at_front front old (with_root root.position (known root.facts) old)
            (forest_of (more rows entries space root_space spare tree g is root) (values_of (more_entries rows entries space root_space spare tree g is root))) front_is
            (front_with_root root.position (known root.facts) old) (forests-more rows entries space root_space spare tree g is root);
        noted = noted_in old (with_root root.position (known root.facts) old)
            (forest_of (more rows entries space root_space spare tree g is root) (values_of (more_entries rows entries space root_space spare tree g is root)))
            (all_with_root root.position (known root.facts) old) (forests-more rows entries space root_space spare tree g is root);
      }))
