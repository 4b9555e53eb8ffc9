-- A walk along a strategy: what one step makes of it, and what it has come to where every place was
-- gone on from.
use Rattle.std.proofs.Common.{◌≡◌, ◌<◌, ◌≤◌, ◌+◌, ℕ, zero, suc, inl, inr, ⊎_elim, List, [], ◌∷◌, ◌++◌, Option, Some, Bool, true, false, cond, eqb, refl, sym, ◌∙◌, ap, subst, slice_get, length, get_or, arith, append_assoc}
use Rattle.std.specs.Prelude.{Contains}
use Rattle.std.specs.List.{IsDistinct, list_any}
use Rattle.std.specs.List.Sorted.{IsSorted, IsPermutation}
use Rattle.std.specs.Ordering.{nat_cmp}
use Rattle.std.proofs.lemmas.Bool.{eqb-true, cases_lt}
use Rattle.std.proofs.lemmas.List.{append-nil}
use Rattle.std.proofs.lemmas.List.Elements.{Contains-append_left, Contains-append_cases, Contains-get_or, Contains-push, Contains-push_cases}
use Rattle.std.proofs.lemmas.List.Sorted.{Contains-permutation, IsPermutation-sym, IsNonDecreasingBy-from_sort}
use Rattle.std.proofs.lemmas.Map.Keys.{IsStrictlyIncreasing-from_distinct}
use Rattle.std.proofs.lemmas.Map.Steps.{length-le_from_distinct_below}
use Rattle.std.proofs.lemmas.Map.Views.{Contains-from_any}
use Rattle.std.proofs.lemmas.Option.{get_or_from_slice_get, slice_get_within, slice_get-get_or, same_Some}
use Rattle.draughts_board.specs.Board.{Board}
use Rattle.draughts_board.proofs.Members.{Contains-nil, Contains-head, only_one}
use Rattle.strategy_certificate.specs.Parts.{HasDistinctPositions}
use Rattle.strategy_certificate.specs.Places.{StandsAt}
use Rattle.strategy_certificate.specs.Certificates.{due_positions}
use Rattle.strategy_certificate.proofs.PlaceLemmas.{contains_at}
use Rattle.proved_book.specs.Trimming.{Strategy, GoesOn, LeadsIn, Leads}
use Rattle.proved_book.specs.Walking.{Notes, IsWalk, ArePlacesLedTo}
use Rattle.proved_book.proofs.TrimLaws.{leads_here, leads_on}
use Rattle.proved_book.proofs.PlaceLemmas.{place_of_entry, same_there, entry_there}

-- ---- lists

get-append : (xs ys : List ℕ) (k : ℕ) → k < length xs → slice_get (xs ++ ys) k ≡ slice_get xs k
get-append [] ys k within = absurd (omega arith)
get-append (x ∷ xs) ys zero within = refl
get-append (x ∷ xs) ys (suc k) within = get-append xs ys k (omega arith)

-- a number of the list stands at some place
pub stands_in : (xs : List ℕ) (i : ℕ) → Contains xs i → (k : ℕ) × ((k < length xs) × (slice_get xs k ≡ Some i))
stands_in xs i (k, within, is) = (k, (within, slice_get-get_or xs k i within ∙ ap Some is))

pub in_list : (xs : List ℕ) (k i : ℕ) → slice_get xs k ≡ Some i → Contains xs i
in_list xs k i at = let within = slice_get_within xs k i at in (k, within, get_or_from_slice_get xs k i i at)

-- ---- noting

module _ (rows : Strategy) where
  pub notes_none : (seen : List ℕ) → Notes rows [] seen seen
  notes_none seen = record {
    added = [];
    is = sym (append-nil seen);
    fresh = λ i there. absurd (Contains-nil i there);
    each = λ r i due at. absurd (Contains-nil r due);
  }

  -- some of them, and then one more
  pub notes_more : (before : List Board) (q : Board) (a b c : List ℕ) → Notes rows before a b → Notes rows (q ∷ []) b c → Notes rows (before ++ q ∷ []) a c
  notes_more before q a b c first then = record {
    added = first.added ++ then.added;
    is = then.is ∙ (ap (λ (xs : List ℕ). xs ++ then.added) first.is ∙ append_assoc a first.added then.added);
    fresh = λ i there. ⊎_elim
        (λ early. (let new = first.fresh i early in (new.0, (Contains-append_left before (q ∷ []) new.0 new.1.0, new.1.1))))
        (λ late. (let new = then.fresh i late in (new.0, (subst (Contains (before ++ q ∷ [])) (only_one q new.0 new.1.0) (Contains-push before q), new.1.1))))
        (Contains-append_cases first.added then.added i there);
    each = λ r i due at. ⊎_elim
        (λ early. subst (λ (xs : List ℕ). Contains xs i) (sym then.is) (Contains-append_left b then.added i (first.each r i early at)))
        (λ same. then.each r i (subst (Contains (q ∷ [])) same (Contains-head q [])) at)
        (Contains-push_cases before q r due);
  }

  -- a position that has no place
  pub notes_absent : (q : Board) (seen : List ℕ) → ((i : ℕ) → StandsAt rows i q → ⊥) → Notes rows (q ∷ []) seen seen
  notes_absent q seen absent = record {
    added = [];
    is = sym (append-nil seen);
    fresh = λ i there. absurd (Contains-nil i there);
    each = λ r i due at. absurd (absent i (subst (StandsAt rows i) (sym (only_one q r due)) at));
  }

  -- one that has its place here
  pub notes_place : (q : Board) (place : ℕ) (seen seen' : List ℕ) → StandsAt rows place q → ((i : ℕ) → StandsAt rows i q → i ≡ place)
      → seen' ≡ cond (list_any (eqb place) seen) seen (seen ++ place ∷ []) → Notes rows (q ∷ []) seen seen'
  notes_place q place seen seen' at one is = by (list_any (eqb place) seen) refl is
    where
      there_again : (r : Board) (i : ℕ) → Contains (q ∷ []) r → StandsAt rows i r → place ≡ i
      there_again r i due stands = sym (one i (subst (StandsAt rows i) (sym (only_one q r due)) stands))

      by : (b : Bool) → list_any (eqb place) seen ≡ b → seen' ≡ cond b seen (seen ++ place ∷ []) → Notes rows (q ∷ []) seen seen'
      by true found same = record {
        added = [];
        is = same ∙ sym (append-nil seen);
        fresh = λ i there. absurd (Contains-nil i there);
        each = λ r i due stands.
            subst (Contains seen') (there_again r i due stands)
            (subst (λ (xs : List ℕ). Contains xs place) (sym same) (Contains-from_any eqb-true place seen found));
      }
      by false new same = record {
        added = place ∷ [];
        is = same;
        fresh = λ i there. (q, (Contains-head q [], subst (λ j. StandsAt rows j q) (only_one place i there) at));
        each = λ r i due stands.
            subst (Contains seen') (there_again r i due stands) (subst (λ (xs : List ℕ). Contains xs place) (sym same) (Contains-push seen place));
      }

  -- ---- walking

  pub walk_begins : (p : Board) (seen : List ℕ) → Notes rows (p ∷ []) [] seen → IsWalk rows p seen 0
  walk_begins p seen noted = record {
    sound = λ i there.
        let new = noted.fresh i (subst (λ (xs : List ℕ). Contains xs i) noted.is there) in
        let at : StandsAt rows i p = subst (StandsAt rows i) (sym (only_one p new.0 new.1.0)) new.1.1 in
        (p, (at, leads_here rows p (at.0, contains_at rows i p at.0 at.1)));
    start = λ i at. noted.each p i (Contains-head p []) at;
    closed = λ k i before. absurd (omega arith);
  }

  -- every place that is seen is one of the strategy's, so there are no more of them
  pub seen_within : (p : Board) (seen : List ℕ) (done i : ℕ) → IsWalk rows p seen done → Contains seen i → i < length rows
  seen_within p seen done i walk there = let at = (walk.sound i there).1.0 in slice_get_within rows i ((walk.sound i there).0, at.0) at.1

  pub seen_few : (p : Board) (seen : List ℕ) (done : ℕ) → IsWalk rows p seen done → IsDistinct eqb seen → length seen ≤ length rows
  seen_few p seen done walk distinct =
      length-le_from_distinct_below seen (length rows) distinct (λ i found. seen_within p seen done i walk (Contains-from_any eqb-true i seen found))

  -- a step: from the next place
  pub walk_goes_on : (p : Board) → HasDistinctPositions rows → (place done : ℕ) (q : Board) (chosen : Option (List ℕ)) → slice_get rows place ≡ Some (q, chosen)
      → (seen seen' : List ℕ) → slice_get seen done ≡ Some place → IsWalk rows p seen done → Notes rows (due_positions q chosen) seen seen' → IsWalk rows p seen' (done + 1)
  walk_goes_on p distinct place done q chosen at seen seen' next walk noted = record { sound = sound; start = λ i there. still i (walk.start i there); closed = closed }
    where
      still : (i : ℕ) → Contains seen i → Contains seen' i
      still i there = subst (λ (xs : List ℕ). Contains xs i) (sym noted.is) (Contains-append_left seen noted.added i there)

      led : Leads rows p q
      led = let from = walk.sound place (in_list seen done place next) in subst (Leads rows p) (same_there rows place from.0 q from.1.0 (chosen, at)) from.1.1

      sound : (i : ℕ) → Contains seen' i → (r : Board) × (StandsAt rows i r × Leads rows p r)
      sound i there = ⊎_elim
          (λ early. walk.sound i early)
          (λ late.
          let new = noted.fresh i late in
          let r = new.0 in
          let stands = new.1.1 in
          let on : GoesOn rows q r = record { chosen = chosen; entry = contains_at rows place q chosen at; due = new.1.0; there = (stands.0, contains_at rows i r stands.0 stands.1) } in
          (r, (stands, leads_on rows p q r led on)))
          (Contains-append_cases seen noted.added i (subst (λ (xs : List ℕ). Contains xs i) noted.is there))

      as_before : (k : ℕ) → k < length seen → slice_get seen' k ≡ slice_get seen k
      as_before k within = ap (λ (xs : List ℕ). slice_get xs k) noted.is ∙ get-append seen noted.added k within

      closed : (k i : ℕ) → k < done + 1 → slice_get seen' k ≡ Some i → (s r : Board) (j : ℕ) → StandsAt rows i s → GoesOn rows s r → StandsAt rows j r → Contains seen' j
      closed k i before is s r j there on to =
          let all = slice_get_within seen done place next in
          elim (cases_lt k done) [
            | inl early ↦ still j (walk.closed k i early (sym (as_before k (omega arith)) ∙ is) s r j there on to)
            | inr late ↦ (
                let this : k ≡ done = omega arith in
                let here : place ≡ i = same_Some place i (sym next ∙ (sym (as_before done all) ∙ (ap (slice_get seen') (sym this) ∙ is))) in
                let same : q ≡ s = same_there rows i q s (subst (λ n. StandsAt rows n q) here (chosen, at)) there in
                let entry : Contains rows (q, on.chosen) = subst (λ (b : Board). Contains rows (b, on.chosen)) (sym same) on.entry in
                let move : chosen ≡ on.chosen = entry_there rows distinct place q chosen on.chosen at entry in
                let due : Contains (due_positions q chosen) r = subst (λ (b : Board). Contains (due_positions b chosen) r) (sym same) (subst (λ (m : Option (List ℕ)). Contains (due_positions s m) r) (sym move) on.due) in
                noted.each r j due to)
          ]

  -- ---- the end: all is seen to which p leads

  module _ (p : Board) (seen : List ℕ) (done : ℕ) (walk : IsWalk rows p seen done) (past : length seen ≤ done) where
    all_seen : (n i : ℕ) (q : Board) → StandsAt rows i q → LeadsIn rows p n q → Contains seen i
    all_seen zero i q at (same, there) = walk.start i (subst (StandsAt rows i) (sym same) at)
    all_seen (suc n) i q at (m, (way, on)) =
        let from = place_of_entry rows m on.chosen on.entry in
        let before = stands_in seen from.0 (all_seen n from.0 m (on.chosen, from.1) way) in
        walk.closed before.0 from.0 (let lt = before.1.0 in omega arith) before.1.1 m q i (on.chosen, from.1) on at

    led_to : (i : ℕ) (q : Board) → StandsAt rows i q → Contains seen i → Leads rows p q
    led_to i q at there = let from = walk.sound i there in subst (Leads rows p) (same_there rows i from.0 q from.1.0 at) from.1.1

    pub walk_ends : (places : List ℕ) → IsDistinct eqb places → IsPermutation seen places → IsSorted nat_cmp places → ArePlacesLedTo rows p places
    walk_ends places distinct moved sorted = record {
      rising = IsStrictlyIncreasing-from_distinct places (IsNonDecreasingBy-from_sort (λ x. x) places sorted) distinct;
      within = λ k d inside. seen_within p seen done (get_or places k d) walk (back (get_or places k d) (Contains-get_or places k d inside));
      exact = λ i q at. (
        (λ there. led_to i q at (back i there)),
        (λ led. Contains-permutation seen places i moved (all_seen led.0 i q at led.1)),
      );
    }
      where
        back : (i : ℕ) → Contains places i → Contains seen i
        back i there = Contains-permutation places seen i (IsPermutation-sym seen places moved) there
