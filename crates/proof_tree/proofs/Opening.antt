-- The rows with the children of row n behind them, and row n marked as expanded.
use Rattle.std.proofs.Common.{◌≡◌, ◌≢◌, ℕ, zero, suc, ◌+◌, ◌-◌, ◌<◌, Bool, true, false, cond, eqb, ◌||◌, List, [], ◌∷◌, ◌++◌, map, length, Some, refl, sym, ap, ◌∙◌, subst, arith, ⊎_elim, length-append, length-set, get_or-set_same, get_or-set_other}
use Rattle.std.proofs.lemmas.List.{get_or_append_left, get_or-append-add}
use Rattle.std.proofs.lemmas.Bool.{cases_eq, cases_lt}
use Rattle.draughts_board.specs.Board.{Board, other}
use Rattle.draughts_board.specs.declared.pieces.Side.{Side}
use Rattle.draughts_board.specs.declared.pieces.Side.TheVariants.{Black, White}
use Rattle.proof_numbers.specs.declared.leaves.Child.{Child}
use Rattle.proof_numbers.specs.declared.numbers.Numbers.{Numbers}
use Rattle.proof_numbers.specs.Facts.{known}
use Rattle.proof_numbers.specs.Known.{knows_win, knows_hold}
use Rattle.proof_numbers.specs.Numbers.{proved, refuted, unknown, mobility, leaf_numbers}
use Rattle.proof_tree.specs.declared.rows.NodeRow.{NodeRow}
use Rattle.proof_tree.specs.declared.rows.Mark.TheVariants.{Unexpanded, Expanded, Repeats}
use Rattle.proof_tree.specs.Forest.{Own, numbers_at, numbers_by_mark}
use Rattle.proof_tree.specs.Changes.{new_nodes, stands_on}
use Rattle.proof_tree.specs.Rows.{blank, row_at, own_of, node_in, slice_of, nodes_from, kept_numbers, AreLinked, AreExpanded, Fits, FitsRow, AreCounted, IsCounted, path, new_row, new_rows, opened}
use Rattle.proof_tree.proofs.Meaning.{IsMeaning-nodes}
use Rattle.proof_tree.proofs.Expanding.{AreLinked-expanded}
use Rattle.proof_tree.proofs.Learning.{kept_slice}
use Rattle.proof_tree.proofs.Pushing.{length-new_rows}

pub leaf_cases : (goal : Side) (p : Board) (moves : ℕ) → moves ≡ mobility p → (w h b : Bool) (below : List Numbers)
    → cond w proved (cond (h || b) refuted (unknown goal p.to_move moves))
    ≡ cond w proved (cond h refuted (numbers_by_mark goal (cond b Repeats Unexpanded) p below))
leaf_cases goal p moves e true h b below = refl
leaf_cases goal p moves e false true b below = refl
leaf_cases goal p moves e false false true below = refl
leaf_cases goal p moves e false false false below = ap (unknown goal p.to_move) e

leaf_fits : (goal : Side) (above : List Board) (parent number k : ℕ) (child : Child) (below : List Numbers)
    → leaf_numbers goal (known child.facts) (stands_on above child.position) child.position.to_move child.moves
    ≡ numbers_at goal (own_of k (new_row above parent number child)) below
leaf_fits goal above parent number k child below =
    leaf_cases goal child.position child.moves child.counted (knows_win goal (known child.facts)) (knows_hold (other goal) (known child.facts))
    (stands_on above child.position) below

kept_new : (goal : Side) (above : List Board) (parent number : ℕ) (child : Child)
    → kept_numbers goal (new_row above parent number child)
    ≡ leaf_numbers goal (known child.facts) (stands_on above child.position) child.position.to_move child.moves
kept_new Black above parent number child = refl
kept_new White above parent number child = refl

-- a new row
pub record IsNew (above : List Board) (parent next : ℕ) (children : List Child) (i : ℕ) (row : NodeRow) : Type 0 where
  pub own : own_of (next + i) row ≡ (node_in (new_nodes above next children) i).own
  pub leaf : row.count ≡ 0
  pub behind : row.first ≡ suc (next + i)
  pub parent_is : row.parent ≡ Some parent
  pub keeps : (goal : Side) (below : List Numbers) → kept_numbers goal row ≡ numbers_at goal (own_of (next + i) row) below
  pub counted : row.moves ≡ mobility row.position

new_rows-at : (above : List Board) (parent next : ℕ) (children : List Child) (i : ℕ) → i < length children
    → IsNew above parent next children i (row_at (new_rows above parent next children) i)
new_rows-at above parent next [] i l = absurd (omega arith)
new_rows-at above parent next (c ∷ children) zero l =
    let z : next + 0 ≡ next = omega arith in
    record {
      own = ap (λ (k : ℕ). own_of k (new_row above parent next c)) z;
      leaf = refl;
      behind = ap suc (sym z);
      parent_is = refl;
      keeps = λ goal below. kept_new goal above parent next c ∙ leaf_fits goal above parent next (next + 0) c below;
      counted = c.counted;
    }
new_rows-at above parent next (c ∷ children) (suc i) l =
    let z : suc next + i ≡ next + suc i = omega arith in
    let rest = new_rows-at above parent (suc next) children i (omega arith) in
    let row = row_at (new_rows above parent (suc next) children) i in
    record {
      own = ap (λ (k : ℕ). own_of k row) (sym z) ∙ rest.own;
      leaf = rest.leaf;
      behind = rest.behind ∙ ap suc z;
      parent_is = rest.parent_is;
      keeps = λ goal below. rest.keeps goal below ∙ ap (λ (k : ℕ). numbers_at goal (own_of k row) below) z;
      counted = rest.counted;
    }

module _ (rows : List NodeRow) (n : ℕ) (children : List Child) (links : AreLinked rows) (inside : n < length rows) (none : (row_at rows n).count ≡ 0) where
  abbrev pub pushed : List NodeRow
  pushed = rows ++ new_rows (path rows (Some n)) n (length rows) children

  abbrev pub after : List NodeRow
  after = opened pushed n (row_at pushed n) (length rows) (length children)

  abbrev new_n : NodeRow
  new_n = record (row_at pushed n) { mark = Expanded; first = length rows; count = length children }

  pub pushed-long : length pushed ≡ length rows + length children
  pushed-long = length-append rows _ ∙ ap (λ (k : ℕ). length rows + k) (length-new_rows (path rows (Some n)) n (length rows) children)

  pushed_old : (k : ℕ) → k < length rows → row_at pushed k ≡ row_at rows k
  pushed_old k l = get_or_append_left rows _ blank k l

  after_n : row_at after n ≡ new_n
  after_n = get_or-set_same pushed n new_n blank (omega (arith, pushed-long))

  after_other : (k : ℕ) → k ≢ n → row_at after k ≡ row_at pushed k
  after_other k h = get_or-set_other pushed n k new_n blank h

  after_old : (k : ℕ) → k < length rows → k ≢ n → row_at after k ≡ row_at rows k
  after_old k l h = after_other k h ∙ pushed_old k l

  after_new : (i : ℕ) → i < length children → IsNew (path rows (Some n)) n (length rows) children i (row_at after (length rows + i))
  after_new i l =
      let other : length rows + i ≢ n = omega arith in
      subst (IsNew (path rows (Some n)) n (length rows) children i)
      (sym (after_other (length rows + i) other ∙ get_or-append-add rows _ i blank))
      (new_rows-at (path rows (Some n)) n (length rows) children i l)

  test : eqb n n ≡ true
  test = grind arith

  old_each : {A : Type 0} (f : NodeRow → A) → f new_n ≡ f (row_at pushed n) → (k : ℕ) → k < length rows → f (row_at after k) ≡ f (row_at rows k)
  old_each f e k l =
      ⊎_elim
      (λ s. subst (λ i. f (row_at after i) ≡ f (row_at rows i)) (sym s) (ap f after_n ∙ e ∙ ap f (pushed_old n inside)))
      (λ h. ap f (after_old k l h)) (cases_eq k n)

  pub AreExpanded-after : AreExpanded rows after n children
  AreExpanded-after =
      record {
        as_long = length-set pushed n new_n ∙ pushed-long;
        old_own = λ k l h. ap (own_of k) (after_old k l h);
        old_first = λ k l h. ap (λ (r : NodeRow). r.first) (after_old k l h);
        old_count = λ k l h. ap (λ (r : NodeRow). r.count) (after_old k l h);
        own =
            ap (own_of n) after_n
            ∙ ap (λ (r : NodeRow). record (own_of n r) { mark = Expanded }) (pushed_old n inside)
            ∙ sym (ap (λ (b : Bool). cond b (record (own_of n (row_at rows n)) { mark = Expanded }) (own_of n (row_at rows n))) test);
        first = ap (λ (r : NodeRow). r.first) after_n;
        count = ap (λ (r : NodeRow). r.count) after_n;
        parent = old_each (λ r. r.parent) refl;
        new = λ i l. (after_new i l).own;
        leaf = λ i l. (after_new i l).leaf;
        behind = λ i l. (after_new i l).behind;
        parents = λ i l. (after_new i l).parent_is;
        moves = old_each (λ r. r.moves) refl;
        counted = λ i l. (after_new i l).counted;
      }

  pub links_after : AreLinked after
  links_after = AreLinked-expanded rows after n children links inside AreExpanded-after (nodes_from 0 rows) (IsMeaning-nodes rows links) none

  kept_old : (goal : Side) (k : ℕ) → k < length rows → kept_numbers goal (row_at after k) ≡ kept_numbers goal (row_at rows k)
  kept_old Black k l = old_each (λ r. r.black) refl k l
  kept_old White k l = old_each (λ r. r.white) refl k l

  fits_old : (goal : Side) (k : ℕ) → k < length rows → k ≢ n → FitsRow rows goal k → FitsRow after goal k
  fits_old goal k l h old =
      let a = AreExpanded-after.as_long in
      ap (kept_numbers goal) (after_old k l h)
      ∙ old
      ∙ ap (numbers_at goal (own_of k (row_at rows k)))
      (sym (kept_slice rows after goal (row_at rows k) (links.within k l) (omega (arith, a)) (kept_old goal)))
      ∙ ap (λ (r : NodeRow). numbers_at goal (own_of k r) (map (kept_numbers goal) (slice_of r after))) (sym (after_old k l h))

  fits_new : (goal : Side) (i : ℕ) → i < length children → FitsRow after goal (length rows + i)
  fits_new goal i l = (after_new i l).keeps goal (map (kept_numbers goal) (slice_of (row_at after (length rows + i)) after))

  pub Fits-after : ((k : ℕ) → k < length rows → Fits rows k) → (k : ℕ) → k < length pushed → k ≢ n → Fits after k
  Fits-after fits k l h =
      ⊎_elim
      (λ old. let f = fits k old in record { black = fits_old Black k old h f.black; white = fits_old White k old h f.white })
      (λ past.
      let i : ℕ = k - length rows in
      let back : length rows + i ≡ k = omega arith in
      let few : i < length children = omega (arith, pushed-long) in
      subst (Fits after) back (record { black = fits_new Black i few; white = fits_new White i few }))
      (cases_lt k (length rows))

position-expand : (b : Bool) (own : Own) → (cond b (record own { mark = Expanded }) own).position ≡ own.position
position-expand true own = refl
position-expand false own = refl

-- where these rows keep the mobility of their positions, so do the rows after
pub AreCounted-expanded : (rows after : List NodeRow) (n : ℕ) (children : List Child) → n < length rows → AreExpanded rows after n children
    → AreCounted rows → AreCounted after
AreCounted-expanded rows after n children inside step counted k l =
    ⊎_elim
    (λ old. ⊎_elim (λ e. subst (IsCounted after) (sym e) (step.moves n inside ∙ counted n inside ∙ sym (ap (λ (o : Own). mobility o.position) step.own ∙ ap mobility (position-expand (eqb n n) (own_of n (row_at rows n))))))
    (λ other. step.moves k old ∙ counted k old ∙ sym (ap (λ (o : Own). mobility o.position) (step.old_own k old other))) (cases_eq k n))
    (λ past.
    let i : ℕ = k - length rows in
    let back : length rows + i ≡ k = omega arith in
    subst (IsCounted after) back (step.counted i (omega (arith, step.as_long))))
    (cases_lt k (length rows))
