-- Facts for one row.
use Rattle.std.proofs.Common.{◌≡◌, ◌≢◌, ℕ, ◌+◌, ◌<◌, ◌≤◌, Bool, true, false, cond, eqb, List, map, length, take, drop, get_or, set, refl, sym, ap, ◌∙◌, subst, arith, ⊎_elim, length-set, length-drop, get_or-drop, get_or-take, get_or-set_same, get_or-set_other}
use Rattle.std.proofs.lemmas.List.{get_or_default, ext_get_or, get_or-map, length-map, length-take-le}
use Rattle.std.proofs.lemmas.Bool.{cases_eq}
use Rattle.draughts_board.specs.declared.pieces.Side.{Side}
use Rattle.draughts_board.specs.declared.pieces.Side.TheVariants.{Black, White}
use Rattle.proof_numbers.specs.declared.facts.Facts.{Facts}
use Rattle.proof_numbers.specs.Facts.{known}
use Rattle.proof_numbers.specs.Known.{Known, joined}
use Rattle.proof_numbers.specs.Numbers.{refuted, mobility}
use Rattle.proof_tree.specs.declared.rows.NodeRow.{NodeRow}
use Rattle.proof_tree.specs.Forest.{Own, numbers_at}
use Rattle.proof_tree.specs.Changes.{learn}
use Rattle.proof_tree.specs.Rows.{blank, row_at, own_of, slice_of, kept_numbers, AreLinked, HaveSameLinks, AreRekept, Fits, FitsRow, AreCounted}
use Rattle.proof_tree.proofs.KeptNumbers.{map-slice}
use Rattle.proof_tree.proofs.Updates.{AreLinked-same}

-- what a row's children keep, where those of both rows keep the same
pub kept_slice : (rows after : List NodeRow) (goal : Side) (r : NodeRow) → r.first + r.count ≤ length rows → length rows ≤ length after
    → ((i : ℕ) → i < length rows → kept_numbers goal (row_at after i) ≡ kept_numbers goal (row_at rows i))
    → map (kept_numbers goal) (slice_of r after) ≡ map (kept_numbers goal) (slice_of r rows)
kept_slice rows after goal r within longer same =
    let old = map (kept_numbers goal) rows in
    let new = map (kept_numbers goal) after in
    let long : length old ≡ length rows = length-map rows (kept_numbers goal) in
    let long' : length new ≡ length after = length-map after (kept_numbers goal) in
    map-slice (kept_numbers goal) r.count r.first after
    ∙ ext_get_or refuted (take r.count (drop r.first new)) (take r.count (drop r.first old))
    (length-take-le r.count (drop r.first new) (omega (arith, length-drop r.first new, long'))
    ∙ sym (length-take-le r.count (drop r.first old) (omega (arith, length-drop r.first old, long))))
    (λ i l.
    let few : i < r.count =
    omega (arith, l, length-take-le r.count (drop r.first new) (omega (arith, length-drop r.first new, long'))) in
    let inside : r.first + i < length rows = omega arith in
    get_or-take r.count (drop r.first new) i refuted few
    ∙ get_or-drop r.first new i refuted
    ∙ get_or-map (kept_numbers goal) after (r.first + i) blank refuted (omega arith)
    ∙ same (r.first + i) inside
    ∙ sym (get_or-map (kept_numbers goal) rows (r.first + i) blank refuted inside)
    ∙ sym (get_or-drop r.first old i refuted)
    ∙ sym (get_or-take r.count (drop r.first old) i refuted few))
    ∙ sym (map-slice (kept_numbers goal) r.count r.first rows)

test_same : (n : ℕ) → eqb n n ≡ true
test_same n = grind arith

test_other : (m n : ℕ) → m ≢ n → eqb m n ≡ false
test_other m n e = grind arith

module _ (rows : List NodeRow) (n : ℕ) (inside : n < length rows) (facts : Known) (d : NodeRow) (all : Facts)
    (are : known all ≡ joined (known (get_or rows n d).facts) facts) where
  abbrev pub told : List NodeRow
  told = set rows n (record (get_or rows n d) { facts = all })

  now_row : row_at told n ≡ record (row_at rows n) { facts = all }
  now_row =
      get_or-set_same rows n (record (get_or rows n d) { facts = all }) blank inside
      ∙ ap (λ (r : NodeRow). record r { facts = all }) (get_or_default rows n d blank inside)

  known_row : known all ≡ joined (known (row_at rows n).facts) facts
  known_row = are ∙ ap (λ (r : NodeRow). joined (known r.facts) facts) (get_or_default rows n d blank inside)

  other_row : (k : ℕ) → k ≢ n → row_at told k ≡ row_at rows k
  other_row k h = get_or-set_other rows n k (record (get_or rows n d) { facts = all }) blank h

  each : {A : Type 0} (f : NodeRow → A) → f (record (row_at rows n) { facts = all }) ≡ f (row_at rows n) → (k : ℕ) → f (row_at told k) ≡ f (row_at rows k)
  each f e k = ⊎_elim (λ s. subst (λ i. f (row_at told i) ≡ f (row_at rows i)) (sym s) (ap f now_row ∙ e)) (λ h. ap f (other_row k h)) (cases_eq k n)

  pub HaveSameLinks-told : HaveSameLinks rows told
  HaveSameLinks-told =
      record {
        as_long = length-set rows n (record (get_or rows n d) { facts = all });
        first = each (λ r. r.first) refl;
        count = each (λ r. r.count) refl;
        parent = each (λ r. r.parent) refl;
        moves = each (λ r. r.moves) refl;
      }

  told_own : (own : Own) → own.number ≡ n → learn n facts own ≡ record own { facts = joined own.facts facts }
  told_own own e = ap (λ (b : Bool). cond b (record own { facts = joined own.facts facts }) own) (ap (λ (m : ℕ). eqb m n) e ∙ test_same n)

  kept_own : (own : Own) → own.number ≢ n → learn n facts own ≡ own
  kept_own own h = ap (λ (b : Bool). cond b (record own { facts = joined own.facts facts }) own) (test_other own.number n h)

  pub own-told : (k : ℕ) → own_of k (row_at told k) ≡ learn n facts (own_of k (row_at rows k))
  own-told k =
      ⊎_elim
      (λ e.
      subst (λ i. own_of i (row_at told i) ≡ learn n facts (own_of i (row_at rows i))) (sym e)
      (ap (own_of n) now_row ∙ ap (λ (k : Known). record (own_of n (row_at rows n)) { facts = k }) known_row ∙ sym (told_own (own_of n (row_at rows n)) refl)))
      (λ h. ap (own_of k) (other_row k h) ∙ sym (kept_own (own_of k (row_at rows k)) h)) (cases_eq k n)

  kept_told : (goal : Side) (k : ℕ) → kept_numbers goal (row_at told k) ≡ kept_numbers goal (row_at rows k)
  kept_told Black k = each (λ r. r.black) refl k
  kept_told White k = each (λ r. r.white) refl k

  fits_told : AreLinked rows → (goal : Side) (k : ℕ) → k < length rows → k ≢ n → FitsRow rows goal k → FitsRow told goal k
  fits_told links goal k l h old =
      ap (kept_numbers goal) (other_row k h)
      ∙ old
      ∙ ap (numbers_at goal (own_of k (row_at rows k)))
      (sym (kept_slice rows told goal (row_at rows k) (links.within k l) (omega (arith, HaveSameLinks-told.as_long)) (λ i l'. kept_told goal i)))
      ∙ ap (λ (r : NodeRow). numbers_at goal (own_of k r) (map (kept_numbers goal) (slice_of r told))) (sym (other_row k h))

  pub Fits-told : AreLinked rows → ((k : ℕ) → k < length rows → Fits rows k) → (k : ℕ) → k < length told → k ≢ n → Fits told k
  Fits-told links fits k l h =
      let inside' : k < length rows = omega (arith, HaveSameLinks-told.as_long) in
      let old = fits k inside' in
      record { black = fits_told links Black k inside' h old.black; white = fits_told links White k inside' h old.white }

  pub links_told : AreLinked rows → AreLinked told
  links_told links = AreLinked-same rows told HaveSameLinks-told links

  pub counted_told : AreCounted rows → AreCounted told
  counted_told counted k l =
      let first = counted k (omega (arith, l, HaveSameLinks-told.as_long)) in
      HaveSameLinks-told.moves k ∙ first ∙ sym (ap mobility (each (λ r. r.position) refl k))

  pub links_after : (after : List NodeRow) → AreRekept told after → HaveSameLinks rows after
  links_after after same =
      let a = same.links in
      let b = HaveSameLinks-told in
      record {
        as_long = a.as_long ∙ b.as_long;
        first = λ k. a.first k ∙ b.first k;
        count = λ k. a.count k ∙ b.count k;
        parent = λ k. a.parent k ∙ b.parent k;
        moves = λ k. a.moves k ∙ b.moves k;
      }

  pub own_after : (after : List NodeRow) → AreRekept told after → (k : ℕ) → own_of k (row_at after k) ≡ learn n facts (own_of k (row_at rows k))
  own_after after same k = same.own k ∙ own-told k
