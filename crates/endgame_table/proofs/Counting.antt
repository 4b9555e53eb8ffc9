-- How many indices are undecided, and the numbers in the middle of a search.
use Rattle.std.proofs.Common.{◌≡◌, ◌≢◌, ℕ, suc, ◌+◌, ◌*◌, ◌<◌, ◌≤◌, Bool, true, false, cond, eqb, List, [], ◌∷◌, length, refl, sym, ◌∙◌, subst, inl, inr, arith}
use Rattle.std.specs.Prelude.{slice_index, slice_index_or}
use Rattle.std.proofs.lemmas.Bool.{eqb-false, ne_eqb}
use Rattle.std.proofs.lemmas.List.Sums.{sum_by-cons, count_by-le-length}
use Rattle.endgame_table.specs.Numbers.{no_position, AreBelow}
use Rattle.endgame_table.specs.Rounds.{win, undecided, IsAfterWins, stays, won, waits, AddsLosses, AddsWins, AreRows, IsStart, IsFilled}
use Rattle.endgame_table.proofs.Known.{AllKnown, known-first, known-between, known-after, KeepsPlaces, places-losses, places-wins, filled, numbers-below, below-more}

-- ---- how many are undecided

undecided-most : (numbers : List ℕ) → undecided numbers ≤ length numbers
undecided-most numbers = count_by-le-length (λ n. eqb n 0) numbers

abbrev one_if : Bool → ℕ
one_if b = cond b 1 0

undecided-cons : (n : ℕ) (numbers : List ℕ) → undecided (n ∷ numbers) ≡ one_if (eqb n 0) + undecided numbers
undecided-cons n numbers = sum_by-cons (λ n. one_if (eqb n 0)) n numbers

at_most_one : (b : Bool) → one_if b ≤ 1
at_most_one true = omega arith
at_most_one false = omega arith

one-less : (x y : ℕ) → (x ≢ 0 → y ≢ 0) → one_if (eqb y 0) ≤ one_if (eqb x 0)
one-less x y keeps = by (eqb x 0) refl
  where
    by : (b : Bool) → eqb x 0 ≡ b → one_if (eqb y 0) ≤ one_if b
    by true is = at_most_one (eqb y 0)
    by false is = subst (λ b. one_if b ≤ 0) (sym (ne_eqb y 0 (keeps (eqb-false x 0 is)))) (omega arith)

-- where what was decided is decided still, no more are undecided
pub undecided-less : (old new : List ℕ) → length new ≡ length old → ((i : ℕ) → i < length old → slice_index old i ≢ 0 → slice_index new i ≢ 0)
    → undecided new ≤ undecided old
undecided-less [] [] same keeps = omega arith
undecided-less [] (y ∷ new) same keeps = absurd (omega arith)
undecided-less (x ∷ old) [] same keeps = absurd (omega arith)
undecided-less (x ∷ old) (y ∷ new) same keeps =
    let before = undecided-cons x old in
    let after = undecided-cons y new in
    let head = one-less x y (keeps 0 (omega arith)) in
    let tail = undecided-less old new (omega arith) (λ i below. keeps (suc i) (omega arith)) in
    omega arith

pub wins-decide : (rank : ℕ) (rows : List (List ℕ)) (old new : List ℕ) → length old ≡ length rows → length new ≡ length old → AddsWins rank rows old new
    → undecided new ≤ undecided old
wins-decide rank rows old new each same wins = undecided-less old new same (λ i below. nonzero i (wins i (omega arith)))
  where
    nonzero : (i : ℕ) → IsAfterWins rank old (slice_index_or rows i []) (slice_index old i) (slice_index new i) → slice_index old i ≢ 0 → slice_index new i ≢ 0
    nonzero i (stays some is) h = λ e. h (sym is ∙ e)
    nonzero i (won is_zero _ _) h = absurd (h is_zero)
    nonzero i (waits is_zero _ _) h = absurd (h is_zero)

-- ---- between the rounds

-- before the round of this rank
pub record Before (rank : ℕ) (rows : List (List ℕ)) (first numbers : List ℕ) : Type 0 where
  pub start : IsStart rows first
  pub each : length numbers ≡ length rows
  pub known : AllKnown rank rows numbers
  pub places : KeepsPlaces rows first numbers
  pub few : rank + 2 * undecided numbers ≤ 2 * length rows

pub are_rows : (rank : ℕ) (rows : List (List ℕ)) (first numbers : List ℕ) → Before rank rows first numbers → AreRows rows numbers
are_rows rank rows first numbers before = record { each = before.each; targets = before.start.are_rows.targets }

pub before-first : (rows : List (List ℕ)) (numbers : List ℕ) → IsStart rows numbers → Before 0 rows numbers numbers
before-first rows numbers start =
    record {
      start = start;
      each = start.are_rows.each;
      known = known-first rows numbers start;
      places = λ i below. elim (start.begins i below) [ inl is_zero ↦ inr (is_zero, omega arith) | inr is ↦ inl (is, is) ];
      few = let most = undecided-most numbers in let same = start.are_rows.each in omega arith;
    }

pub before-more : (rank : ℕ) (rows : List (List ℕ)) (first old middle new : List ℕ) → 4 * length rows + 4 < no_position → Before rank rows first old
    → length middle ≡ length old → length new ≡ length middle → AddsLosses rank rows old middle → AddsWins (rank + 1) rows middle new
    → undecided middle < undecided old → undecided new ≤ undecided middle → Before (rank + 2) rows first new
before-more rank rows first old middle new small before same_middle same_new losses wins less no_more =
    let few = before.few in
    let next : rank + 1 ≡ suc rank = omega arith in
    let wins' = subst (λ r. AddsWins r rows middle new) next wins in
    let places = places-losses rank rows first old middle (omega arith) losses before.places in
    record {
      start = before.start;
      each = same_new ∙ (same_middle ∙ before.each);
      known = subst (λ r. AllKnown r rows new) (let e : suc (suc rank) ≡ rank + 2 = omega arith in e)
          (known-after rank rows first middle new before.start places wins' (known-between rank rows old middle (are_rows rank rows first old before) losses before.known));
      places = places-wins (suc rank) rows first middle new (omega arith) wins' places;
      few = omega arith;
    }

pub filled-last : (rank : ℕ) (rows : List (List ℕ)) (first old new : List ℕ) → 4 * length rows + 4 < no_position → Before rank rows first old
    → AddsLosses rank rows old new → new ≡ old → IsFilled rows first new
filled-last rank rows first old new small before losses same =
    let few = before.few in
    filled rank rows first new (omega arith) before.start
    (places-losses rank rows first old new (omega arith) losses before.places)
    (subst (AllKnown rank rows) (sym same) before.known)
    (known-between rank rows old new (are_rows rank rows first old before) losses before.known)

pub small-last : (rank : ℕ) (rows : List (List ℕ)) (first old new : List ℕ) → Before rank rows first old → new ≡ old → AreBelow (4 * length rows + 4) new
small-last rank rows first old new before same =
    let few = before.few in
    subst (AreBelow (4 * length rows + 4)) (sym same)
    (below-more (win rank) (4 * length rows + 4) old (omega arith) (numbers-below rank rows old before.each before.known))
