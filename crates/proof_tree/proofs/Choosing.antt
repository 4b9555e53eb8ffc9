-- The root at which the walk begins.
use Rattle.std.proofs.Common.{◌≡◌, ℕ, zero, suc, ◌+◌, ◌<◌, ◌≤◌, Bool, true, false, List, [], ◌∷◌, map, length, drop, get_or, slice_get, Option, Some, None, is_some, refl, sym, ap, ◌∙◌, arith}
use Rattle.std.proofs.lemmas.Bool.{false≢true}
use Rattle.std.proofs.lemmas.List.{drop_more, drop_all, get_or_default}
use Rattle.draughts_board.specs.declared.pieces.Side.{Side}
use Rattle.draughts_board.specs.declared.pieces.Side.TheVariants.{Black, White}
use Rattle.draughts_board.specs.declared.pieces.Value.{Value}
use Rattle.proof_numbers.specs.declared.numbers.Numbers.{Numbers}
use Rattle.proof_tree.specs.declared.rows.NodeRow.{NodeRow}
use Rattle.proof_tree.specs.Forest.{Node, forest, nodes, node_numbers, goal_by, value_by, value_of, or_else}
use Rattle.proof_tree.specs.Picking.{leaf_below, pick_by, pick_at, pick_from}
use Rattle.proof_tree.specs.Rows.{blank, node_in, nodes_from, AreLinked, Fits}
use Rattle.proof_tree.proofs.Meaning.{IsMeaning-nodes}
use Rattle.proof_tree.proofs.KeptNumbers.{kept-is}

pub nodes-forest : (xs : List Node) → nodes (forest xs) ≡ xs
nodes-forest [] = refl
nodes-forest (x ∷ xs) = ap (λ (ys : List Node). x ∷ ys) (nodes-forest xs)

module _ (rows : List NodeRow) (links : AreLinked rows) (fits : (k : ℕ) → k < length rows → Fits rows k) (taken : ℕ → Bool) (root : ℕ)
    (inside : root < length rows) (d e : NodeRow) where
  x : Node
  x = node_in (nodes_from 0 rows) root

  black : Numbers
  black = (get_or rows root d).black

  white : Numbers
  white = (get_or rows root e).white

  black-is : black ≡ node_numbers Black x
  unfolding black x
  black-is =
      ap (λ (r : NodeRow). r.black) (get_or_default rows root d blank inside)
      ∙ kept-is rows links (nodes_from 0 rows) (IsMeaning-nodes rows links) Black 0 (λ k from l. (fits k l).black) root (omega arith) inside

  white-is : white ≡ node_numbers White x
  unfolding white x
  white-is =
      ap (λ (r : NodeRow). r.white) (get_or_default rows root e blank inside)
      ∙ kept-is rows links (nodes_from 0 rows) (IsMeaning-nodes rows links) White 0 (λ k from l. (fits k l).white) root (omega arith) inside

  pub value-kept : value_by (get_or rows root d).black (get_or rows root e).white ≡ value_of (node_in (nodes_from 0 rows) root)
  unfolding black white x
  value-kept = λ i. value_by (black-is i) (white-is i)

  at-is : pick_by (value_by black white) (leaf_below (goal_by black) taken x) (goal_by black) ≡ pick_at taken x
  at-is = λ i. pick_by (value_by (black-is i) (white-is i)) (leaf_below (goal_by (black-is i)) taken x) (goal_by (black-is i))

  settled : (v : Option Value) (o : Option ℕ) (g : Side) → is_some v ≡ true → None ≡ pick_by v o g
  settled (Some w) o g t = refl
  settled None o g t = absurd (false≢true t)

  -- by the value and the leaf that the code finds
  unsettled : (v : Option Value) (o : Option ℕ) (g : Side) → is_some v ≡ false → pick_by v o g ≡ pick_by None o g
  unsettled None o g t = refl
  unsettled (Some w) o g t = absurd (false≢true (sym t))

  pub pick-settled : (v : Option Value) → v ≡ value_by (get_or rows root d).black (get_or rows root e).white → is_some v ≡ true
      → None ≡ pick_at taken (node_in (nodes_from 0 rows) root)
  unfolding black white x
  pick-settled v is t = settled v _ _ t ∙ ap (λ (w : Option Value). pick_by w (leaf_below (goal_by black) taken x) (goal_by black)) is ∙ at-is

  pub pick-open : (v : Option Value) → v ≡ value_by (get_or rows root d).black (get_or rows root e).white → is_some v ≡ false
      → (g : Side) → g ≡ goal_by (get_or rows root d).black → (o : Option ℕ) → o ≡ leaf_below g taken (node_in (nodes_from 0 rows) root)
      → pick_by None o g ≡ pick_at taken (node_in (nodes_from 0 rows) root)
  unfolding black white x
  pick-open v is t g gis o ois =
      (λ i. pick_by None (ois i) g)
      ∙ (λ i. pick_by None (leaf_below (gis i) taken x) (gis i))
      ∙ sym (unsettled v (leaf_below (goal_by black) taken x) (goal_by black) t)
      ∙ ap (λ (w : Option Value). pick_by w (leaf_below (goal_by black) taken x) (goal_by black)) is
      ∙ at-is

-- ---- one root further

module _ (f : ℕ → Node) (roots : List ℕ) (taken : ℕ → Bool) (i : ℕ) where
  pub roots-more : i < length roots → pick_from taken (map f (drop i roots)) ≡ or_else (pick_at taken (f (get_or roots i 0))) (pick_from taken (map f (drop (i + 1) roots)))
  roots-more l = ap (λ (rs : List ℕ). pick_from taken (map f rs)) (drop_more roots i 0 l)

  pub roots-none : i < length roots → None ≡ pick_at taken (f (get_or roots i 0)) → pick_from taken (map f (drop i roots)) ≡ pick_from taken (map f (drop (i + 1) roots))
  roots-none l e = roots-more l ∙ ap (λ (o : Option (ℕ × Side)). or_else o (pick_from taken (map f (drop (i + 1) roots)))) (sym e)

  pub roots-some : i < length roots → (found : ℕ × Side) → Some found ≡ pick_at taken (f (get_or roots i 0)) → pick_from taken (map f (drop i roots)) ≡ Some found
  roots-some l found e = roots-more l ∙ ap (λ (o : Option (ℕ × Side)). or_else o (pick_from taken (map f (drop (i + 1) roots)))) (sym e)

  pub roots-end : length roots ≤ i → pick_from taken (map f (drop i roots)) ≡ None
  roots-end h = ap (λ (rs : List ℕ). pick_from taken (map f rs)) (drop_all i roots h)

pub slice-map : (f : ℕ → Node) (roots : List ℕ) (k : ℕ) → k < length roots → slice_get (map f roots) k ≡ Some (f (get_or roots k 0))
slice-map f [] k l = absurd (omega arith)
slice-map f (r ∷ roots) zero l = refl
slice-map f (r ∷ roots) (suc k) l = slice-map f roots k (omega arith)
