-- Mending what one row keeps, on the way up to its root.
use Rattle.std.proofs.Common.{◌≡◌, ◌≢◌, ℕ, ◌+◌, ◌-◌, ◌<◌, ◌≤◌, ◌^◌, List, map, length, take, drop, get_or, set, Option, Some, None, refl, sym, ap, ◌∙◌, subst, arith, ◌⊎◌, inl, inr, ⊎_elim, length-set, get_or-set_same, get_or-set_other}
use Rattle.std.proofs.lemmas.List.{drop-set-lt, drop-set-add, take-set-le, get_or_default}
use Rattle.std.proofs.lemmas.Bool.{cases_eq, cases_lt}
use Rattle.draughts_board.specs.declared.pieces.Side.{Side}
use Rattle.draughts_board.specs.declared.pieces.Side.TheVariants.{Black, White}
use Rattle.proof_numbers.specs.declared.numbers.Numbers.{Numbers}
use Rattle.proof_tree.specs.declared.rows.NodeRow.{NodeRow}
use Rattle.proof_numbers.specs.Numbers.{mobility}
use Rattle.proof_tree.specs.Forest.{Own, Node, size, numbers_at}
use Rattle.proof_tree.specs.Rows.{blank, row_at, own_of, node_in, slice_of, nodes_from, kept_numbers, AreLinked, AreSmall, AreRekept, Fits, FitsRow, AreCounted, IsCounted}
use Rattle.proof_tree.proofs.Meaning.{IsMeaning-nodes, nodes_from-is}
use Rattle.proof_tree.proofs.Updates.{AreLinked-same, IsMeaning-kept}

pub AreRekept-refl : (rows : List NodeRow) → AreRekept rows rows
AreRekept-refl rows =
    record {
      links = record { as_long = refl; first = λ k. refl; count = λ k. refl; parent = λ k. refl; moves = λ k. refl };
      own = λ k. refl;
    }

pub AreRekept-trans : (a b c : List NodeRow) → AreRekept a b → AreRekept b c → AreRekept a c
AreRekept-trans a b c f g =
    record {
      links =
          record {
            as_long = g.links.as_long ∙ f.links.as_long;
            first = λ k. g.links.first k ∙ f.links.first k;
            count = λ k. g.links.count k ∙ f.links.count k;
            parent = λ k. g.links.parent k ∙ f.links.parent k;
            moves = λ k. g.links.moves k ∙ f.links.moves k;
          };
      own = λ k. g.own k ∙ f.own k;
    }

-- the nodes stay
pub nodes_from-rekept : (rows after : List NodeRow) → AreLinked rows → AreRekept rows after → nodes_from 0 after ≡ nodes_from 0 rows
nodes_from-rekept rows after links same =
    nodes_from-is after (nodes_from 0 rows) (AreLinked-same rows after same.links links)
    (IsMeaning-kept rows after same.links (λ k l. same.own k) (nodes_from 0 rows) (IsMeaning-nodes rows links))

pub AreSmall-rekept : (rows after : List NodeRow) → AreLinked rows → AreRekept rows after → AreSmall rows → AreSmall after
AreSmall-rekept rows after links same small k l =
    subst (λ (xs : List Node). 1 + size (node_in xs k).children < 2 ^ 26) (sym (nodes_from-rekept rows after links same))
    (small k (omega (arith, same.links.as_long)))

slice_set : (r : NodeRow) (rows : List NodeRow) (k : ℕ) (x : NodeRow) → (k < r.first) ⊎ (r.first + r.count ≤ k) → slice_of r (set rows k x) ≡ slice_of r rows
slice_set r rows k x (inl before) = ap (take r.count) (drop-set-lt r.first rows k x before)
slice_set r rows k x (inr behind) =
    let back : k ≡ r.first + (k - r.first) = omega arith in
    ap (λ (j : ℕ). take r.count (drop r.first (set rows j x))) back
    ∙ ap (take r.count) (drop-set-add r.first rows (k - r.first) x)
    ∙ take-set-le r.count (drop r.first rows) (k - r.first) x (omega arith)

-- the row with these numbers kept
abbrev pub rekept : NodeRow → Numbers → Numbers → NodeRow
rekept row black white = record row { black = black; white = white }

abbrev pub new_kept : Side → Numbers → Numbers → Numbers
new_kept Black black white = black
new_kept White black white = white

kept-rekept : (goal : Side) (row : NodeRow) (black white : Numbers) → kept_numbers goal (rekept row black white) ≡ new_kept goal black white
kept-rekept Black row black white = refl
kept-rekept White row black white = refl

module _ (rows : List NodeRow) (links : AreLinked rows) (k : ℕ) (inside : k < length rows) (black white : Numbers) where
  abbrev row : NodeRow
  row = row_at rows k

  abbrev pub mended : List NodeRow
  mended = set rows k (rekept row black white)

  here : row_at mended k ≡ rekept row black white
  here = get_or-set_same rows k (rekept row black white) blank inside

  other : (j : ℕ) → j ≢ k → row_at mended j ≡ row_at rows j
  other j h = get_or-set_other rows k j (rekept row black white) blank h

  each : {A : Type 0} (f : NodeRow → A) → f (rekept row black white) ≡ f row → (j : ℕ) → f (row_at mended j) ≡ f (row_at rows j)
  each f e j = ⊎_elim (λ s. subst (λ i. f (row_at mended i) ≡ f (row_at rows i)) (sym s) (ap f here ∙ e)) (λ h. ap f (other j h)) (cases_eq j k)

  pub AreRekept-mended : AreRekept rows mended
  AreRekept-mended =
      record {
        links =
            record {
              as_long = length-set rows k (rekept row black white);
              first = each (λ r. r.first) refl;
              count = each (λ r. r.count) refl;
              parent = each (λ r. r.parent) refl;
              moves = each (λ r. r.moves) refl;
            };
        own = λ j. each (own_of j) refl j;
      }

  -- row k fits, for its new numbers are made of what its children keep
  fits_here : (goal : Side) → new_kept goal black white ≡ numbers_at goal (own_of k row) (map (kept_numbers goal) (slice_of row rows)) → FitsRow mended goal k
  fits_here goal e =
      let behind : k < row.first = links.behind k inside in
      let same : slice_of row mended ≡ slice_of row rows = slice_set row rows k (rekept row black white) (inl behind) in
      ap (kept_numbers goal) here
      ∙ kept-rekept goal row black white
      ∙ e
      ∙ ap (λ (xs : List NodeRow). numbers_at goal (own_of k row) (map (kept_numbers goal) xs)) (sym same)
      ∙ ap (λ (r : NodeRow). numbers_at goal (own_of k r) (map (kept_numbers goal) (slice_of r mended))) (sym here)

  -- another row that is not its parent fits as before
  apart : (j : ℕ) → j < length rows → (row.parent ≡ Some j → ⊥) → (k < (row_at rows j).first) ⊎ ((row_at rows j).first + (row_at rows j).count ≤ k)
  apart j l none =
      let r = row_at rows j in
      ⊎_elim (λ before. inl before)
      (λ past.
      ⊎_elim
      (λ within.
      let i : ℕ = k - r.first in
      let parent = links.parents j i l (omega arith) in
      let back : r.first + i ≡ k = omega arith in
      absurd (none (sym (ap (λ (n : ℕ). (row_at rows n).parent) back) ∙ parent)))
      (λ behind. inr behind) (cases_lt k (r.first + r.count)))
      (cases_lt k r.first)

  fits_other : (goal : Side) (j : ℕ) → j < length rows → j ≢ k → (row.parent ≡ Some j → ⊥) → FitsRow rows goal j → FitsRow mended goal j
  fits_other goal j l h none old =
      let r = row_at rows j in
      let same : slice_of r mended ≡ slice_of r rows = slice_set r rows k (rekept row black white) (apart j l none) in
      ap (kept_numbers goal) (other j h)
      ∙ old
      ∙ ap (λ (xs : List NodeRow). numbers_at goal (own_of j r) (map (kept_numbers goal) xs)) (sym same)
      ∙ ap (λ (q : NodeRow). numbers_at goal (own_of j q) (map (kept_numbers goal) (slice_of q mended))) (sym (other j h))

  pub Fits-mended : ((j : ℕ) → j < length rows → j ≢ k → Fits rows j)
      → black ≡ numbers_at Black (own_of k row) (map (kept_numbers Black) (slice_of row rows))
      → white ≡ numbers_at White (own_of k row) (map (kept_numbers White) (slice_of row rows))
      → (j : ℕ) → j < length mended → (row.parent ≡ Some j → ⊥) → Fits mended j
  Fits-mended fits b w j l none =
      let inside' : j < length rows = omega (arith, l, length-set rows k (rekept row black white)) in
      ⊎_elim
      (λ e. subst (Fits mended) (sym e) (record { black = fits_here Black b; white = fits_here White w }))
      (λ h.
      let old = fits j inside' h in
      record { black = fits_other Black j inside' h none old.black; white = fits_other White j inside' h none old.white })
      (cases_eq j k)

-- ---- the loop

abbrev pub steps_left : Option ℕ → ℕ
steps_left None = 0
steps_left (Some k) = k + 1

-- all rows but the one to be mended next fit
pub record IsMending (start rows : List NodeRow) (at : Option ℕ) : Type 0 where
  pub same : AreRekept start rows
  pub inside : (k : ℕ) → at ≡ Some k → k < length rows
  pub fits : (k : ℕ) → k < length rows → (at ≡ Some k → ⊥) → Fits rows k

module _ (start rows : List NodeRow) (links : AreLinked start) (at : Option ℕ) (k : ℕ) (is : at ≡ Some k) (so : IsMending start rows at) where
  pub links_now : AreLinked rows
  links_now = AreLinked-same start rows so.same.links links

  pub few_now : length start < 2 ^ 26 → length rows < 2 ^ 26
  few_now few = let e = so.same.links.as_long in omega (arith, few, e)

  inside_now : k < length rows
  inside_now = so.inside k is

  pub counted_now : AreCounted start → IsCounted rows k
  counted_now counted =
      let first = counted k (let e = so.same.links.as_long in omega (arith, inside_now, e)) in
      so.same.links.moves k ∙ first ∙ sym (ap (λ (o : Own). mobility o.position) (so.same.own k))

  parent_below : (p : Option ℕ) → (row_at rows k).parent ≡ p → steps_left p < k + 1
  parent_below None e = omega arith
  parent_below (Some p) e = let c = links_now.children k p inside_now e in omega (arith, c.0)

  pub falls : (d : NodeRow) → steps_left (get_or rows k d).parent < steps_left at
  falls d =
      let row = get_or_default rows k d blank inside_now in
      let now : steps_left at ≡ k + 1 = ap steps_left is in
      omega (arith, now, parent_below (get_or rows k d).parent (sym (ap (λ (r : NodeRow). r.parent) row)))

  pub mending_step : (d : NodeRow) (black white : Numbers)
      → black ≡ numbers_at Black (own_of k (row_at rows k)) (map (kept_numbers Black) (slice_of (row_at rows k) rows))
      → white ≡ numbers_at White (own_of k (row_at rows k)) (map (kept_numbers White) (slice_of (row_at rows k) rows))
      → IsMending start (set rows k (rekept (get_or rows k d) black white)) (get_or rows k d).parent
  mending_step d black white b w =
      let row : row_at rows k ≡ get_or rows k d = sym (get_or_default rows k d blank inside_now) in
      subst (λ (r : NodeRow). IsMending start (set rows k (rekept r black white)) r.parent) row
      (record {
        same = AreRekept-trans start rows _ so.same (AreRekept-mended rows links_now k inside_now black white);
        inside = λ p e.
            let c = links_now.children k p inside_now e in
            omega (arith, c.0, inside_now, length-set rows k (rekept (row_at rows k) black white));
        fits = λ j l none.
            Fits-mended rows links_now k inside_now black white (λ i l' h. so.fits i l' (λ e. h (let same : i ≡ k = cc in same))) b w j l none;
      })
