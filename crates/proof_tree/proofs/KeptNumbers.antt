-- Where the numbers that each row keeps fit those of its children, they are the numbers of its node.
use Rattle.std.proofs.Common.{◌≡◌, ℕ, zero, suc, ◌+◌, ◌-◌, ◌<◌, ◌≤◌, List, [], ◌∷◌, map, length, take, drop, refl, sym, ap, ◌∙◌, arith, length-drop, get_or-drop}
use Rattle.std.proofs.lemmas.List.{ext_get_or, take-map, drop-map, get_or-map, length-map}
use Rattle.draughts_board.specs.declared.pieces.Side.{Side}
use Rattle.proof_numbers.specs.declared.numbers.Numbers.{Numbers}
use Rattle.proof_numbers.specs.Numbers.{refuted}
use Rattle.proof_tree.specs.declared.rows.NodeRow.{NodeRow}
use Rattle.proof_tree.specs.Forest.{Node, forest, numbers, numbers_at, node_numbers}
use Rattle.proof_tree.specs.Rows.{blank, row_at, own_of, blank_node, node_in, slice_of, kept_numbers, AreLinked, FitsRow}
use Rattle.proof_tree.proofs.Meaning.{IsMeaning}

pub numbers-forest : (goal : Side) (xs : List Node) → numbers goal (forest xs) ≡ map (node_numbers goal) xs
numbers-forest goal [] = refl
numbers-forest goal (x ∷ xs) = ap (λ (ns : List Numbers). node_numbers goal x ∷ ns) (numbers-forest goal xs)

pub map-slice : {A B : Type 0} (f : A → B) (c d : ℕ) (xs : List A) → map f (take c (drop d xs)) ≡ take c (drop d (map f xs))
map-slice f c d xs = sym (take-map f c (drop d xs)) ∙ ap (take c) (sym (drop-map f d xs))

module _ (rows : List NodeRow) (links : AreLinked rows) (xs : List Node) (fit : IsMeaning rows xs) (goal : Side) where
  -- where each row behind keeps its node's numbers, the children of row k keep theirs
  pub slice-is : (k : ℕ) → k < length rows
      → ((j : ℕ) → k < j → j < length rows → kept_numbers goal (row_at rows j) ≡ node_numbers goal (node_in xs j))
      → map (kept_numbers goal) (slice_of (row_at rows k) rows) ≡ numbers goal (forest (slice_of (row_at rows k) xs))
  slice-is k l later =
      let row = row_at rows k in
      let behind : k < row.first = links.behind k l in
      let keeps : List Numbers = map (kept_numbers goal) rows in
      let means : List Numbers = map (node_numbers goal) xs in
      let long : length keeps ≡ length rows = length-map rows (kept_numbers goal) in
      let longer : length means ≡ length rows = length-map xs (node_numbers goal) ∙ fit.as_long in
      let rest : drop row.first keeps ≡ drop row.first means =
      ext_get_or refuted (drop row.first keeps) (drop row.first means)
      (length-drop row.first keeps ∙ ap (λ (n : ℕ). n - row.first) (long ∙ sym longer) ∙ sym (length-drop row.first means))
      (λ i l'.
      let short : i < length keeps - row.first = omega (arith, l', length-drop row.first keeps) in
      let inside : row.first + i < length rows = omega arith in
      get_or-drop row.first keeps i refuted
      ∙ get_or-map (kept_numbers goal) rows (row.first + i) blank refuted inside
      ∙ later (row.first + i) (omega arith) inside
      ∙ sym (get_or-map (node_numbers goal) xs (row.first + i) blank_node refuted (omega (arith, fit.as_long)))
      ∙ sym (get_or-drop row.first means i refuted)) in
      map-slice (kept_numbers goal) row.count row.first rows
      ∙ ap (take row.count) rest
      ∙ sym (map-slice (node_numbers goal) row.count row.first xs)
      ∙ sym (numbers-forest goal (slice_of row xs))

module _ (rows : List NodeRow) (links : AreLinked rows) (xs : List Node) (fit : IsMeaning rows xs) (goal : Side)
    (low : ℕ) (fits : (k : ℕ) → low ≤ k → k < length rows → FitsRow rows goal k) where
  below : (m k : ℕ) → length rows - k ≤ m → low ≤ k → k < length rows → kept_numbers goal (row_at rows k) ≡ node_numbers goal (node_in xs k)
  below zero k h from l = absurd (omega arith)
  below (suc m) k h from l =
      fits k from l
      ∙ ap (numbers_at goal (own_of k (row_at rows k)))
      (slice-is rows links xs fit goal k l (λ j after l'. below m j (omega arith) (omega arith) l'))
      ∙ sym (ap (node_numbers goal) (fit.at k l))

  -- from row `low` on
  pub kept-is : (k : ℕ) → low ≤ k → k < length rows → kept_numbers goal (row_at rows k) ≡ node_numbers goal (node_in xs k)
  kept-is k from l = below (length rows) k (omega arith) from l
