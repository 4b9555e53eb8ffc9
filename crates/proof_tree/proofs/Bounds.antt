-- The numbers of a node are no greater than 64 times the number of nodes, so they have room.
use Rattle.std.proofs.Common.{◌≡◌, ℕ, suc, ◌+◌, ◌-◌, ◌*◌, ◌<◌, ◌≤◌, ◌^◌, min, Bool, true, false, not, cond, eqb, ◌||◌, List, [], ◌∷◌, map, length, take, drop, get_or, refl, sym, ap, ◌∙◌, subst, arith, ⊎_elim}
use Rattle.draughts_board.specs.declared.pieces.Side.{Side}
use Rattle.draughts_board.specs.declared.pieces.Side.TheVariants.{Black, White}
use Rattle.draughts_board.specs.Board.{Board, other, same_side}
use Rattle.draughts_board.specs.Play.{successors_of}
use Rattle.proof_numbers.specs.declared.numbers.Number.{Number}
use Rattle.proof_numbers.specs.declared.numbers.Number.TheVariants.{Finite, Infinite}
use Rattle.proof_numbers.specs.declared.numbers.Numbers.{Numbers}
use Rattle.proof_numbers.specs.Known.{Known, knows_win, knows_hold}
use Rattle.proof_numbers.specs.Numbers.{least, least_of, total_of, proved, refuted, unknown, mobility, leaf_numbers}
use Rattle.proof_tree.specs.Sums.{finite_sum, finite_part, IsKeepable}
use Rattle.proof_tree.specs.declared.rows.NodeRow.{NodeRow}
use Rattle.proof_tree.specs.declared.rows.Mark.{Mark}
use Rattle.proof_tree.specs.declared.rows.Mark.TheVariants.{Unexpanded, Expanded, Repeats}
use Rattle.proof_tree.specs.Forest.{Own, Node, Forest, no_node, node, forest, size, numbers, numbers_at, numbers_by_mark, folded}
use Rattle.proof_tree.specs.Picking.{left_to_show}
use Rattle.proof_tree.specs.Rows.{blank, row_at, slice_of, nodes_from, kept_numbers, AreLinked, AreSmall, Fits, FitsRow}
use Rattle.proof_tree.proofs.Meaning.{IsMeaning-nodes}
use Rattle.proof_tree.proofs.KeptNumbers.{slice-is, kept-is}
use Rattle.proof_tree.proofs.Loops.{total_cases}
use Rattle.std.proofs.lemmas.List.{get_or_read}
use Rattle.std.proofs.lemmas.Bool.{false≢true}

least_small : (m : ℕ) (t : Number) (s : ℕ) → finite_part t ≤ s → finite_part (least (Finite m) t) ≤ m + s
least_small m Infinite s h = omega arith
least_small m (Finite n) s h = omega arith

least_of_small : (xs : List Number) → finite_part (least_of xs) ≤ finite_sum xs
least_of_small [] = omega arith
least_of_small (Infinite ∷ xs) = omega (arith, least_of_small xs)
least_of_small (Finite m ∷ xs) = least_small m (least_of xs) (finite_sum xs) (least_of_small xs)

total_of_small : (xs : List Number) → finite_part (total_of xs) ≤ finite_sum xs
total_of_small xs =
    ⊎_elim (λ e. let z : finite_part (total_of xs) ≡ 0 = ap finite_part e in omega (arith, z))
    (λ e. let z : finite_part (total_of xs) ≡ finite_sum xs = ap finite_part e in omega (arith, z)) (total_cases xs)

-- both numbers are at most 64 more than this
IsAtMost : ℕ → Numbers → Type 0
IsAtMost m x = (finite_part x.proof ≤ 64 + m) × (finite_part x.disproof ≤ 64 + m)

counted_by : (n : ℕ) (b : Bool) → cond b 1 (min n 64) ≤ 64
counted_by n true = omega arith
counted_by n false = omega arith

pub mobility-most : (p : Board) → mobility p ≤ 64
mobility-most p = counted_by (length (successors_of p)) (eqb (length (successors_of p)) 0)

unknown_small : (m moves : ℕ) (b : Bool) → moves ≤ 64
    → IsAtMost m (cond b (record { proof = Finite 1; disproof = Finite moves }) (record { proof = Finite moves; disproof = Finite 1 }))
unfolding IsAtMost
unknown_small m moves true h = (omega arith, omega arith)
unknown_small m moves false h = (omega arith, omega arith)

folded_small : (m : ℕ) (moves : Bool) (below : List Numbers) → finite_sum (map (λ x. x.proof) below) ≤ m
    → finite_sum (map (λ x. x.disproof) below) ≤ m → IsAtMost m (folded moves below)
unfolding IsAtMost
folded_small m true below p d =
    (let h = least_of_small (map (λ x. x.proof) below) in omega (arith, h), let h = total_of_small (map (λ x. x.disproof) below) in omega (arith, h))
folded_small m false below p d =
    (let h = total_of_small (map (λ x. x.proof) below) in omega (arith, h), let h = least_of_small (map (λ x. x.disproof) below) in omega (arith, h))

by_mark : (m : ℕ) (goal : Side) (mark : Mark) (p : Board) (below : List Numbers) → finite_sum (map (λ x. x.proof) below) ≤ m
    → finite_sum (map (λ x. x.disproof) below) ≤ m → IsAtMost m (numbers_by_mark goal mark p below)
unfolding IsAtMost
by_mark m goal Repeats p below a d = (omega arith, omega arith)
by_mark m goal Unexpanded p below a d = unknown_small m (mobility p) (same_side goal p.to_move) (mobility-most p)
by_mark m goal Expanded p below a d = folded_small m (same_side goal p.to_move) below a d

by_tests : (m : ℕ) (b c : Bool) (x : Numbers) → IsAtMost m x → IsAtMost m (cond b proved (cond c refuted x))
unfolding IsAtMost
by_tests m true c x h = (omega arith, omega arith)
by_tests m false true x h = (omega arith, omega arith)
by_tests m false false x h = h

at_small : (goal : Side) (own : Own) (below : List Numbers) (m : ℕ) → finite_sum (map (λ x. x.proof) below) ≤ m
    → finite_sum (map (λ x. x.disproof) below) ≤ m → IsAtMost m (numbers_at goal own below)
at_small goal own below m p d =
    by_tests m (knows_win goal own.facts) (knows_hold (other goal) own.facts)
    (numbers_by_mark goal own.mark own.position below)
    (by_mark m goal own.mark own.position below p d)

pub numbers_small : (goal : Side) (f : Forest)
    → (finite_sum (map (λ x. x.proof) (numbers goal f)) ≤ 64 * size f) × (finite_sum (map (λ x. x.disproof) (numbers goal f)) ≤ 64 * size f)
unfolding IsAtMost
numbers_small goal no_node = (omega arith, omega arith)
numbers_small goal (node own below others) =
    let b = numbers_small goal below in
    let o = numbers_small goal others in
    let h = at_small goal own (numbers goal below) (64 * size below) b.0 b.1 in
    (omega (arith, h.0, o.0), omega (arith, h.1, o.1))

pub map-shown : (by_proof : Bool) (goal : Side) (xs : List NodeRow)
    → map (λ (r : NodeRow). left_to_show by_proof (kept_numbers goal r)) xs ≡ map (left_to_show by_proof) (map (kept_numbers goal) xs)
map-shown by_proof goal [] = refl
map-shown by_proof goal (x ∷ xs) = ap (λ (ns : List Number). left_to_show by_proof (kept_numbers goal x) ∷ ns) (map-shown by_proof goal xs)

pub fits_for : (rows : List NodeRow) (goal : Side) (k : ℕ) → Fits rows k → FitsRow rows goal k
fits_for rows Black k h = h.black
fits_for rows White k h = h.white

unknown_keepable : (moves : ℕ) (b : Bool) → moves < 256
    → IsKeepable (cond b (record { proof = Finite 1; disproof = Finite moves }) (record { proof = Finite moves; disproof = Finite 1 }))
unknown_keepable moves true h = record { proof = omega arith; disproof = omega arith }
unknown_keepable moves false h = record { proof = omega arith; disproof = omega arith }

leaf_by : (w h : Bool) (x : Numbers) → IsKeepable x → IsKeepable (cond w proved (cond h refuted x))
leaf_by true h x k = record { proof = omega arith; disproof = tt }
leaf_by false true x k = record { proof = tt; disproof = omega arith }
leaf_by false false x k = k

-- a leaf's numbers have room
pub leaf-keepable : (goal : Side) (facts : Known) (repeats : Bool) (mover : Side) (moves : ℕ) → moves < 256
    → IsKeepable (leaf_numbers goal facts repeats mover moves)
leaf-keepable goal facts repeats mover moves h =
    leaf_by (knows_win goal facts) (knows_hold (other goal) facts || repeats) (unknown goal mover moves)
    (unknown_keepable moves (same_side goal mover) h)

-- there is room for the sum of what a row's children keep, and for the row's own numbers, where all rows behind it fit
module _ (rows : List NodeRow) (links : AreLinked rows) (small : AreSmall rows) (at : ℕ) (inside : at < length rows)
    (fits : (k : ℕ) → at < k → k < length rows → Fits rows k) (goal : Side) where
  room_for : (xs : List Numbers) → (finite_sum (map (λ x. x.proof) xs) < 2 ^ 32 - 1) × (finite_sum (map (λ x. x.disproof) xs) < 2 ^ 32 - 1)
      → (by_proof : Bool) → finite_sum (map (left_to_show by_proof) xs) < 2 ^ 32 - 1
  room_for xs h true = h.0
  room_for xs h false = h.1

  children : Forest
  children = forest (slice_of (row_at rows at) (nodes_from 0 rows))

  few : 1 + size children < 2 ^ 26
  unfolding children
  few = subst (λ (x : Node). 1 + size x.children < 2 ^ 26) ((IsMeaning-nodes rows links).at at inside) (small at inside)

  kept-children : map (kept_numbers goal) (slice_of (row_at rows at) rows) ≡ numbers goal children
  unfolding children
  kept-children =
      let xs = nodes_from 0 rows in
      let fit = IsMeaning-nodes rows links in
      slice-is rows links xs fit goal at inside
      (λ j after l. kept-is rows links xs fit goal (suc at) (λ k from l'. fits_for rows goal k (fits k from l')) j after l)

  pub room : (by_proof : Bool) → finite_sum (map (λ (r : NodeRow). left_to_show by_proof (kept_numbers goal r)) (slice_of (row_at rows at) rows)) < 2 ^ 32 - 1
  room by_proof =
      let n = numbers_small goal children in
      let f = few in
      rw (map-shown by_proof goal (slice_of (row_at rows at) rows))
      (rw kept-children (room_for (numbers goal children) (omega (arith, n.0, f), omega (arith, n.1, f)) by_proof))

  pub room_in : (row : NodeRow) → row ≡ get_or rows at row → (by_proof : Bool)
      → finite_sum (map (λ (r : NodeRow). left_to_show by_proof (kept_numbers goal r)) (take (row.first + row.count - row.first) (drop row.first rows))) < 2 ^ 32 - 1
  room_in row e by_proof =
      let same : row ≡ row_at rows at = get_or_read rows at row inside e blank in
      let count : row.first + row.count - row.first ≡ row.count = omega arith in
      rw count
      (subst (λ (r : NodeRow). finite_sum (map (λ (q : NodeRow). left_to_show by_proof (kept_numbers goal q)) (slice_of r rows)) < 2 ^ 32 - 1) (sym same) (room by_proof))

shown : (fold : List Number → Number) (by_proof : Bool) (goal : Side) (xs : List NodeRow) (a : Number)
    → a ≡ fold (map (λ (r : NodeRow). left_to_show by_proof (kept_numbers goal r)) xs) → a ≡ fold (map (left_to_show by_proof) (map (kept_numbers goal) xs))
shown fold by_proof goal xs a e = e ∙ ap fold (map-shown by_proof goal xs)

-- what a node's children keep, folded by the least of what its mover needs and by the sum of the other
pub below_moving : (goal : Side) (moves : Bool) (xs : List NodeRow) (best sum : Number) → moves ≡ true
    → best ≡ least_of (map (λ (r : NodeRow). left_to_show moves (kept_numbers goal r)) xs) → sum ≡ total_of (map (λ (r : NodeRow). left_to_show (not moves) (kept_numbers goal r)) xs)
    → record { proof = best; disproof = sum } ≡ folded moves (map (kept_numbers goal) xs)
below_moving goal true xs best sum t b s = λ i. record { proof = (shown least_of true goal xs best b) i; disproof = (shown total_of false goal xs sum s) i }
below_moving goal false xs best sum t b s = absurd (false≢true t)

pub below_waiting : (goal : Side) (moves : Bool) (xs : List NodeRow) (best sum : Number) → moves ≡ false
    → best ≡ least_of (map (λ (r : NodeRow). left_to_show moves (kept_numbers goal r)) xs) → sum ≡ total_of (map (λ (r : NodeRow). left_to_show (not moves) (kept_numbers goal r)) xs)
    → record { proof = sum; disproof = best } ≡ folded moves (map (kept_numbers goal) xs)
below_waiting goal false xs best sum t b s = λ i. record { proof = (shown total_of true goal xs sum s) i; disproof = (shown least_of false goal xs best b) i }
below_waiting goal true xs best sum t b s = absurd (false≢true (sym t))
