-- A round: from what is known before it, and what its two halves mark, to what is known before the next.
use Rattle.std.proofs.Common.{◌≡◌, ◌≢◌, ℕ, suc, ◌+◌, ◌-◌, ◌*◌, ◌<◌, ◌≤◌, Bool, true, false, not, eqb, List, [], ◌∷◌, length, refl, sym, ◌∙◌, ap, subst, inl, inr, arith}
use Rattle.std.specs.Prelude.{All, Contains, count_by, flat_map, slice_index, slice_index_or}
use Rattle.std.proofs.lemmas.Bool.{cases_Bool, cases_lt, eqb-true, eqb-false, eq-eqb, ne_eqb, false≢true, true≢false}
use Rattle.std.proofs.lemmas.List.{get_or_past, ext_get_or}
use Rattle.std.proofs.lemmas.List.Elements.{All-nil, All-append}
use Rattle.endgame_table.specs.declared.origins.Origins.{Origins}
use Rattle.endgame_table.specs.Numbers.{no_position, AreBelow}
use Rattle.endgame_table.specs.Origins.{origins_at, AreOrigins, TurnsRound}
use Rattle.endgame_table.specs.Marking.{one_if, times, marked, newly, Marks, lowered, marked_last, newly_last, MarksLast}
use Rattle.endgame_table.specs.Rounds.{win, loss, is_won, IsNotWon, IsNotLost, SomeTarget, EachTarget, undecided, IsAfterLosses, kept, lost, left, IsAfterWins, stays, won, waits, AddsLosses, AddsWins, IsBegun, IsFilled}
use Rattle.endgame_table.proofs.Known.{IsKnown, outside, known_win, known_loss, unknown, IsKnownBetween, outside', known_win', known_loss', unknown', AllKnownBetween, known-between, KeepsPlaces, places-losses, targets-inside, target-below}
use Rattle.endgame_table.proofs.Counting.{Before, are_rows, before-first, before-more, filled-last, small-last}
use Rattle.endgame_table.proofs.Decisions.{won-test, test-won}
use Rattle.endgame_table.proofs.MarkLemmas.{IsMarked, settled, reached, untouched, marked-at, undecided-marked, length-marked, newly-inside}
use Rattle.endgame_table.proofs.MarkLastLemmas.{IsMarkedLast, settled', ripe, later, lowered-at, length-lowered, marked_last-at, undecided-marked_last, length-marked_last, newly_last-inside}
use Rattle.endgame_table.proofs.TouchLemmas.{touched-times, count-none, count-some, count-contains, count-split, count-same, count-all}

-- what holds between the losses and the wins of a round
pub record InRound (rank : ℕ) (rows : List (List ℕ)) (first : List ℕ) (o : Origins) (numbers waiting lost_ones : List ℕ) : Type 0 where
  pub old : List ℕ
  pub before : Before rank rows first old
  pub origins : AreOrigins o (length rows)
  pub turned : TurnsRound rows o
  pub losses : AddsLosses rank rows old numbers
  pub each : length numbers ≡ length rows
  pub waiting_count : length waiting ≡ length rows
  pub inside : All (λ t. t < length rows) lost_ones
  pub listed : (t : ℕ) → times t lost_ones ≡ one_if (eqb (slice_index numbers t) (loss rank))
  pub found : undecided numbers + length lost_ones ≡ undecided old
  pub open_targets : (i : ℕ) → i < length rows → slice_index waiting i ≡ count_by (λ t. not (is_won (slice_index numbers t))) (slice_index_or rows i [])

-- and before its end, between the wins and the losses of the next one
pub record InTurn (rank : ℕ) (rows : List (List ℕ)) (first : List ℕ) (o : Origins) (numbers waiting won_ones : List ℕ) : Type 0 where
  pub before : Before rank rows first numbers
  pub origins : AreOrigins o (length rows)
  pub turned : TurnsRound rows o
  pub some : 1 ≤ rank
  pub waiting_count : length waiting ≡ length rows
  pub inside : All (λ t. t < length rows) won_ones
  pub listed : (t : ℕ) → times t won_ones ≡ one_if (eqb (slice_index numbers t) (win (rank - 1)))
  pub open_targets : (i : ℕ) → i < length rows
      → slice_index waiting i ≡ count_by (λ t. eqb (slice_index numbers t) (win (rank - 1))) (slice_index_or rows i []) + count_by (λ t. not (is_won (slice_index numbers t))) (slice_index_or rows i [])

-- ---- small facts

past : (xs : List ℕ) (t : ℕ) → length xs ≤ t → slice_index xs t ≡ 0
past xs t over = get_or_past xs t 0 over

not_won-zero : (n : ℕ) → n ≡ 0 → not (is_won n) ≡ true
not_won-zero n z = subst (λ n. not (is_won n) ≡ true) (sym z) refl

not_won-loss : (n r : ℕ) → n ≡ loss r → is_won n ≡ false
not_won-loss n r is = elim (cases_Bool (is_won n)) [ inl w ↦ (let m = won-test n w in let e = m.1 in absurd (omega arith)) | inr f ↦ f ]

not_so : (b : Bool) → not b ≡ false → b ≡ true
not_so true e = refl
not_so false e = absurd (true≢false e)

not_true : (b : Bool) → not b ≡ true → b ≡ false
not_true true e = absurd (false≢true e)
not_true false e = refl

flat-inside : (o : Origins) (count : ℕ) (targets : List ℕ) → ((t : ℕ) → All (λ i. i < count) (origins_at o t)) → All (λ i. i < count) (flat_map (origins_at o) targets)
flat-inside o count [] each = All-nil (λ i. i < count)
flat-inside o count (t ∷ targets) each = All-append (λ i. i < count) (origins_at o t) (flat_map (origins_at o) targets) (each t) (flat-inside o count targets each)

-- no number of a round is known before it
lost-before : (rank : ℕ) (numbers row : List ℕ) (n : ℕ) → win rank < no_position → IsKnown rank numbers row n → n ≢ loss rank
lost-before rank numbers row n fits (outside is) e = omega arith
lost-before rank numbers row n fits (known_win l below is first) e = omega arith
lost-before rank numbers row n fits (known_loss r below is all) e = omega arith
lost-before rank numbers row n fits (unknown is none some) e = omega arith

won-between : (rank : ℕ) (numbers row : List ℕ) (n : ℕ) → win (suc rank) < no_position → IsKnownBetween rank numbers row n → n ≢ win (suc rank)
won-between rank numbers row n fits (outside' is) e = omega arith
won-between rank numbers row n fits (known_win' l below is first) e = omega arith
won-between rank numbers row n fits (known_loss' r below is all) e = omega arith
won-between rank numbers row n fits (unknown' is none some) e = omega arith

-- what is lost is lost at most at this rank
lost-most : (rank : ℕ) (numbers row : List ℕ) (n l : ℕ) → n ≢ no_position → IsKnownBetween rank numbers row n → n ≡ loss l → l ≤ rank
lost-most rank numbers row n l inside (outside' is) e = absurd (inside is)
lost-most rank numbers row n l inside (known_win' m below is first) e = absurd (omega arith)
lost-most rank numbers row n l inside (known_loss' r below is all) e = omega arith
lost-most rank numbers row n l inside (unknown' is none some) e = absurd (omega arith)

-- and what is won is won below this rank
won-most : (rank : ℕ) (numbers row : List ℕ) (n m : ℕ) → n ≢ no_position → IsKnown rank numbers row n → n ≡ win m → m < rank
won-most rank numbers row n m inside (outside is) e = absurd (inside is)
won-most rank numbers row n m inside (known_win l below is first) e = omega arith
won-most rank numbers row n m inside (known_loss r below is all) e = absurd (omega arith)
won-most rank numbers row n m inside (unknown is none some) e = absurd (omega arith)

listed-by : (number before k after n : ℕ) → number ≢ 0 → before ≢ number → IsMarked number before k after n → n ≡ one_if (eqb after number)
listed-by number before k after n some other (settled _ same none) = none ∙ sym (ap (λ b. one_if b) (ne_eqb after number (λ e. other (sym same ∙ e))))
listed-by number before k after n some other (reached _ _ is one) = one ∙ sym (ap (λ b. one_if b) (eq-eqb after number is))
listed-by number before k after n some other (untouched _ _ is none) = none ∙ sym (ap (λ b. one_if b) (ne_eqb after number (λ e. some (sym e ∙ is))))

listed-by_last : (number before k w after n : ℕ) → number ≢ 0 → before ≢ number → IsMarkedLast number before k w after n → n ≡ one_if (eqb after number)
listed-by_last number before k w after n some other (settled' _ same none) = none ∙ sym (ap (λ b. one_if b) (ne_eqb after number (λ e. other (sym same ∙ e))))
listed-by_last number before k w after n some other (ripe _ _ _ is one) = one ∙ sym (ap (λ b. one_if b) (eq-eqb after number is))
listed-by_last number before k w after n some other (later _ _ is none) = none ∙ sym (ap (λ b. one_if b) (ne_eqb after number (λ e. some (sym e ∙ is))))

-- ---- the wins of a round

module _ (rank : ℕ) (rows : List (List ℕ)) (first : List ℕ) (o : Origins) (numbers waiting lost_ones mid won_ones : List ℕ) (small : 4 * length rows + 4 < no_position)
    (now : InRound rank rows first o numbers waiting lost_ones) (some_lost : length lost_ones ≢ 0)
    (marks : Marks (win (suc rank)) (flat_map (origins_at o) lost_ones) numbers mid [] won_ones) where
  fits : win (suc rank) < no_position
  fits = let few = now.before.few in let found = now.found in omega arith

  all_touched : All (λ i. i < length numbers) (flat_map (origins_at o) lost_ones)
  all_touched = flat-inside o (length numbers) lost_ones (λ t. subst (λ n. All (λ i. i < n) (origins_at o t)) (sym now.each) (now.origins.inside t))

  known : AllKnownBetween rank rows numbers
  known = known-between rank rows now.old numbers (are_rows rank rows first now.old now.before) now.losses now.before.known

  places : KeepsPlaces rows first numbers
  places = places-losses rank rows first now.old numbers (omega (arith, fits)) now.losses now.before.places

  k-is : (i : ℕ) → times i (flat_map (origins_at o) lost_ones) ≡ count_by (λ t. eqb (slice_index numbers t) (loss rank)) (slice_index_or rows i [])
  k-is i = touched-times rows o now.turned i (λ t. eqb (slice_index numbers t) (loss rank)) lost_ones now.inside now.listed

  at : (i : ℕ) → IsMarked (win (suc rank)) (slice_index numbers i) (times i (flat_map (origins_at o) lost_ones)) (slice_index mid i) (times i won_ones)
  at i =
      let h = marked-at (win (suc rank)) (λ e. absurd (omega arith)) (flat_map (origins_at o) lost_ones) numbers i all_touched in
      subst (λ ns. IsMarked (win (suc rank)) (slice_index numbers i) (times i (flat_map (origins_at o) lost_ones)) (slice_index ns i) (times i won_ones)) (sym marks.numbers_are)
      (subst (λ l. IsMarked (win (suc rank)) (slice_index numbers i) (times i (flat_map (origins_at o) lost_ones)) (slice_index (marked (win (suc rank)) (flat_map (origins_at o) lost_ones) numbers) i) (times i l)) (sym marks.found_are) h)

  same_mid : length mid ≡ length numbers
  same_mid = ap length marks.numbers_are ∙ length-marked (win (suc rank)) (flat_map (origins_at o) lost_ones) numbers

  -- no more are undecided than before
  pub no_more : undecided mid ≤ undecided numbers
  no_more =
      let decided = undecided-marked (win (suc rank)) (λ e. absurd (omega arith)) (flat_map (origins_at o) lost_ones) numbers all_touched in
      subst (λ ns. undecided ns ≤ undecided numbers) (sym marks.numbers_are) (omega (arith, decided))

  -- no number was one of these wins before
  not_yet : (t : ℕ) → slice_index numbers t ≢ win (suc rank)
  not_yet t = elim (cases_lt t (length rows)) [
    | inl below ↦ won-between rank numbers (slice_index_or rows t []) (slice_index numbers t) fits (known t below)
    | inr over ↦ (let each = now.each in λ e. absurd (let z = past numbers t (omega arith) in omega (arith, z, e)))
  ]

  after-wins : (i before k' after n : ℕ) → i < length rows → slice_index numbers i ≡ before → k' ≡ count_by (λ t. eqb (slice_index numbers t) (loss rank)) (slice_index_or rows i [])
      → IsKnownBetween rank numbers (slice_index_or rows i []) before → IsMarked (win (suc rank)) before k' after n → IsAfterWins (suc rank) numbers (slice_index_or rows i []) before after
  after-wins i before k' after n below is count between (settled nonzero same _) = stays nonzero same
  after-wins i before k' after n below is count between (reached z some same _) =
      let r = count-some (λ t. eqb (slice_index numbers t) (loss rank)) (slice_index_or rows i []) (λ e. some (count ∙ e)) in
      won z (r.0, (r.1.0, (rank, eqb-true (slice_index numbers r.0) (loss rank) r.1.1))) same
  after-wins i before k' after n below is count between (untouched z none same _) = waits z (none_lost between) same
    where
      none_lost : IsKnownBetween rank numbers (slice_index_or rows i []) before → EachTarget numbers (slice_index_or rows i []) IsNotLost
      none_lost (outside' is) t here l e = absurd (omega arith)
      none_lost (known_win' m below is first) t here l e = absurd (omega arith)
      none_lost (known_loss' r below is all) t here l e = absurd (omega arith)
      none_lost (unknown' is each some) t here l e =
          let inside = targets-inside rows first numbers now.before.start places i below t here in
          let high : rank ≤ l = each t here l e in
          let low : l ≤ rank = lost-most rank numbers (slice_index_or rows t []) (slice_index numbers t) l inside (known t (target-below rows first now.before.start.are_rows i t below here)) e in
          let same : l ≡ rank = omega arith in
          let off = count-none (λ t. eqb (slice_index numbers t) (loss rank)) (slice_index_or rows i []) (sym count ∙ none) t here in
          eqb-false (slice_index numbers t) (loss rank) off (subst (λ l. slice_index numbers t ≡ loss l) same e)

  pub adds_wins : AddsWins (suc rank) rows numbers mid
  adds_wins i below = after-wins i (slice_index numbers i) (times i (flat_map (origins_at o) lost_ones)) (slice_index mid i) (times i won_ones) below refl (k-is i) (known i below) (at i)

  listed_won : (t : ℕ) → times t won_ones ≡ one_if (eqb (slice_index mid t) (win (suc rank)))
  listed_won t = listed-by (win (suc rank)) (slice_index numbers t) (times t (flat_map (origins_at o) lost_ones)) (slice_index mid t) (times t won_ones) (λ e. absurd (omega arith)) (not_yet t) (at t)

  -- of the targets that an index waits for, those that are won_ones now, and the others
  split : (before k' after n : ℕ) → before ≢ win (suc rank) → IsMarked (win (suc rank)) before k' after n → one_if (not (is_won before)) ≡ one_if (eqb after (win (suc rank))) + one_if (not (is_won after))
  split before k' after n other (settled _ same _) =
      let off : one_if (eqb after (win (suc rank))) ≡ 0 = ap (λ b. one_if b) (ne_eqb after (win (suc rank)) (λ e. other (sym same ∙ e))) in
      let alike : one_if (not (is_won before)) ≡ one_if (not (is_won after)) = ap (λ x. one_if (not (is_won x))) (sym same) in
      omega (arith, off, alike)
  split before k' after n other (reached z _ is _) =
      let on : one_if (eqb after (win (suc rank))) ≡ 1 = ap (λ b. one_if b) (eq-eqb after (win (suc rank)) is) in
      let open_before : one_if (not (is_won before)) ≡ 1 = ap (λ b. one_if b) (not_won-zero before z) in
      let won_after : one_if (not (is_won after)) ≡ 0 = ap (λ b. one_if (not b)) (test-won after (suc rank) is) in
      omega (arith, on, open_before, won_after)
  split before k' after n other (untouched z _ is _) =
      let off : one_if (eqb after (win (suc rank))) ≡ 0 = ap (λ b. one_if b) (ne_eqb after (win (suc rank)) (λ e. absurd (omega (arith, e, is)))) in
      let alike : one_if (not (is_won before)) ≡ one_if (not (is_won after)) = ap (λ x. one_if (not (is_won x))) (z ∙ sym is) in
      omega (arith, off, alike)

  pub in_turn : InTurn (rank + 2) rows first o mid waiting won_ones
  in_turn =
      let next : suc rank ≡ rank + 1 = omega arith in
      let back : rank + 2 - 1 ≡ suc rank = omega arith in
      let fewer : undecided mid ≤ undecided numbers = no_more in
      let less : undecided numbers < undecided now.old = (let found = now.found in omega (arith, found)) in
      let same_old : length numbers ≡ length now.old = now.each ∙ sym now.before.each in
      record {
        before = before-more rank rows first now.old numbers mid small now.before same_old same_mid now.losses (subst (λ r. AddsWins r rows numbers mid) next adds_wins) less fewer;
        origins = now.origins;
        turned = now.turned;
        some = omega arith;
        waiting_count = now.waiting_count;
        inside = subst (All (λ t. t < length rows)) (sym marks.found_are) (subst (λ n. All (λ t. t < n) (newly (win (suc rank)) (flat_map (origins_at o) lost_ones) numbers)) now.each (newly-inside (λ t. t < length numbers) (win (suc rank)) (flat_map (origins_at o) lost_ones) numbers all_touched));
        listed = λ t. listed_won t ∙ ap (λ r. one_if (eqb (slice_index mid t) (win r))) (sym back);
        open_targets = λ i below. now.open_targets i below
            ∙ count-split (λ t. not (is_won (slice_index numbers t))) (λ t. eqb (slice_index mid t) (win (suc rank))) (λ t. not (is_won (slice_index mid t)))
            (λ t. split (slice_index numbers t) (times t (flat_map (origins_at o) lost_ones)) (slice_index mid t) (times t won_ones) (not_yet t) (at t)) (slice_index_or rows i [])
            ∙ ap (λ r. count_by (λ t. eqb (slice_index mid t) (win r)) (slice_index_or rows i []) + count_by (λ t. not (is_won (slice_index mid t))) (slice_index_or rows i [])) (sym back);
      }

-- ---- what the losses may rely on

module _ (rank : ℕ) (rows : List (List ℕ)) (first : List ℕ) (o : Origins) (numbers waiting won_ones : List ℕ) (now : InTurn rank rows first o numbers waiting won_ones) where
  k-turn : (i : ℕ) → times i (flat_map (origins_at o) won_ones) ≡ count_by (λ t. eqb (slice_index numbers t) (win (rank - 1))) (slice_index_or rows i [])
  k-turn i = touched-times rows o now.turned i (λ t. eqb (slice_index numbers t) (win (rank - 1))) won_ones now.inside now.listed

  pub enough_wait : (i : ℕ) → times i (flat_map (origins_at o) won_ones) ≤ slice_index waiting i
  enough_wait i = elim (cases_lt i (length rows)) [
    | inl below ↦ omega (arith, k-turn i, now.open_targets i below)
    | inr over ↦ (let none : slice_index_or rows i [] ≡ [] = get_or_past rows i [] over in
        let zero_times : count_by (λ t. eqb (slice_index numbers t) (win (rank - 1))) (slice_index_or rows i []) ≡ 0 = ap (count_by (λ t. eqb (slice_index numbers t) (win (rank - 1)))) none in
        omega (arith, k-turn i, zero_times))
  ]

-- ---- the losses of the next round

module _ (rank : ℕ) (rows : List (List ℕ)) (first : List ℕ) (o : Origins) (numbers waiting won_ones less new lost' : List ℕ) (small : 4 * length rows + 4 < no_position)
    (now : InTurn rank rows first o numbers waiting won_ones)
    (marks : MarksLast (loss rank) (flat_map (origins_at o) won_ones) waiting less numbers new [] lost') where
  fits' : win rank < no_position
  fits' = let few = now.before.few in omega arith

  all_touched' : All (λ i. i < length numbers) (flat_map (origins_at o) won_ones)
  all_touched' = flat-inside o (length numbers) won_ones (λ t. subst (λ n. All (λ i. i < n) (origins_at o t)) (sym now.before.each) (now.origins.inside t))

  at' : (i : ℕ) → IsMarkedLast (loss rank) (slice_index numbers i) (times i (flat_map (origins_at o) won_ones)) (slice_index less i) (slice_index new i) (times i lost')
  at' i =
      let h = marked_last-at (loss rank) (λ e. absurd (omega arith)) (flat_map (origins_at o) won_ones) waiting numbers i all_touched' (enough_wait rank rows first o numbers waiting won_ones now) in
      subst (λ w. IsMarkedLast (loss rank) (slice_index numbers i) (times i (flat_map (origins_at o) won_ones)) (slice_index w i) (slice_index new i) (times i lost')) (sym marks.waiting_are)
      (subst (λ ns. IsMarkedLast (loss rank) (slice_index numbers i) (times i (flat_map (origins_at o) won_ones)) (slice_index (lowered (flat_map (origins_at o) won_ones) waiting) i) (slice_index ns i) (times i lost')) (sym marks.numbers_are)
      (subst (λ l. IsMarkedLast (loss rank) (slice_index numbers i) (times i (flat_map (origins_at o) won_ones)) (slice_index (lowered (flat_map (origins_at o) won_ones) waiting) i) (slice_index (marked_last (loss rank) (flat_map (origins_at o) won_ones) waiting numbers) i) (times i l)) (sym marks.found_are) h))

  less-is : (i : ℕ) → i < length rows → slice_index less i ≡ count_by (λ t. not (is_won (slice_index numbers t))) (slice_index_or rows i [])
  less-is i below =
      let e : slice_index less i ≡ slice_index waiting i - times i (flat_map (origins_at o) won_ones) = ap (λ w. slice_index w i) marks.waiting_are ∙ lowered-at (flat_map (origins_at o) won_ones) waiting i in
      omega (arith, e, now.open_targets i below, k-turn rank rows first o numbers waiting won_ones now i)

  not_yet' : (t : ℕ) → slice_index numbers t ≢ loss rank
  not_yet' t = elim (cases_lt t (length rows)) [
    | inl below ↦ lost-before rank numbers (slice_index_or rows t []) (slice_index numbers t) fits' (now.before.known t below)
    | inr over ↦ (let each = now.before.each in λ e. absurd (let z = past numbers t (omega arith) in omega (arith, z, e)))
  ]

  -- a target that is not won_ones, where some target was none of these wins and not won_ones before
  some_open : (i : ℕ) → i < length rows → slice_index numbers i ≡ 0 → times i (flat_map (origins_at o) won_ones) ≡ 0 → IsKnown rank numbers (slice_index_or rows i []) (slice_index numbers i)
      → SomeTarget numbers (slice_index_or rows i []) IsNotWon
  some_open i below z none (outside is) = absurd (omega arith)
  some_open i below z none (known_win l low is first) = absurd (omega arith)
  some_open i below z none (known_loss r low is all) = absurd (omega arith)
  some_open i below z none (unknown is no_loss (inl zero_rank)) = absurd (let some = now.some in omega arith)
  some_open i below z none (unknown is no_loss (inr s)) = (
    s.0,
    (
      s.1.0,
      λ m e.
          let inside = targets-inside rows first numbers now.before.start now.before.places i below s.0 s.1.0 in
          let high : rank ≤ suc m = s.1.1 m e in
          let low : m < rank = won-most rank numbers (slice_index_or rows s.0 []) (slice_index numbers s.0) m inside (now.before.known s.0 (target-below rows first now.before.start.are_rows i s.0 below s.1.0)) e in
          let same : m ≡ rank - 1 = omega arith in
          count-contains (λ t. eqb (slice_index numbers t) (win (rank - 1))) (slice_index_or rows i []) s.0 s.1.0
          (eq-eqb (slice_index numbers s.0) (win (rank - 1)) (e ∙ ap win same))
          (sym (k-turn rank rows first o numbers waiting won_ones now i) ∙ none),
    ),
  )

  after-losses : (i : ℕ) (k' after n : ℕ) → i < length rows → k' ≡ times i (flat_map (origins_at o) won_ones) → IsMarkedLast (loss rank) (slice_index numbers i) k' (slice_index less i) after n
      → IsAfterLosses rank numbers (slice_index_or rows i []) (slice_index numbers i) after
  after-losses i k' after n below k-same (settled' nonzero same _) = kept nonzero same
  after-losses i k' after n below k-same (ripe z _ none same _) =
      lost z (λ t here. won-test (slice_index numbers t) (not_so (is_won (slice_index numbers t)) (count-none (λ t. not (is_won (slice_index numbers t))) (slice_index_or rows i []) (sym (less-is i below) ∙ none) t here))) same
  after-losses i k' after n below k-same (later z (inl none) same _) = left z (some_open i below z (sym k-same ∙ none) (now.before.known i below)) same
  after-losses i k' after n below k-same (later z (inr more) same _) =
      let r = count-some (λ t. not (is_won (slice_index numbers t))) (slice_index_or rows i []) (λ e. more (less-is i below ∙ e)) in
      left z (r.0, (r.1.0, λ m e. true≢false (sym (test-won (slice_index numbers r.0) m e) ∙ not_true (is_won (slice_index numbers r.0)) r.1.1))) same

  adds_losses : AddsLosses rank rows numbers new
  adds_losses i below = after-losses i (times i (flat_map (origins_at o) won_ones)) (slice_index new i) (times i lost') below refl (at' i)

  -- a loss more is no win more
  alike : (before k' w after n : ℕ) → IsMarkedLast (loss rank) before k' w after n → not (is_won before) ≡ not (is_won after)
  alike before k' w after n (settled' _ same _) = ap (λ x. not (is_won x)) (sym same)
  alike before k' w after n (ripe z _ _ is _) = not_won-zero before z ∙ sym (ap not (not_won-loss after rank is))
  alike before k' w after n (later z _ is _) = ap (λ x. not (is_won x)) (z ∙ sym is)

  -- each index found is one that was undecided
  pub found_now : undecided new + length lost' ≡ undecided numbers
  found_now =
      (λ i. undecided (marks.numbers_are i) + length (marks.found_are i))
      ∙ undecided-marked_last (loss rank) (λ e. absurd (omega arith)) (flat_map (origins_at o) won_ones) waiting numbers all_touched'

  pub in_round : InRound rank rows first o new less lost'
  in_round = record {
    old = numbers;
    before = now.before;
    origins = now.origins;
    turned = now.turned;
    losses = adds_losses;
    each = ap length marks.numbers_are ∙ length-marked_last (loss rank) (flat_map (origins_at o) won_ones) waiting numbers ∙ now.before.each;
    waiting_count = ap length marks.waiting_are ∙ length-lowered (flat_map (origins_at o) won_ones) waiting ∙ now.waiting_count;
    inside = subst (All (λ t. t < length rows)) (sym marks.found_are) (subst (λ n. All (λ t. t < n) (newly_last (loss rank) (flat_map (origins_at o) won_ones) waiting numbers)) now.before.each (newly_last-inside (λ t. t < length numbers) (loss rank) (flat_map (origins_at o) won_ones) waiting numbers all_touched'));
    listed = λ t. listed-by_last (loss rank) (slice_index numbers t) (times t (flat_map (origins_at o) won_ones)) (slice_index less t) (slice_index new t) (times t lost') (λ e. absurd (omega arith)) (not_yet' t) (at' t);
    found = found_now;
    open_targets = λ i below. less-is i below ∙ count-same (λ t. not (is_won (slice_index numbers t))) (λ t. not (is_won (slice_index new t))) (λ t. alike (slice_index numbers t) (times t (flat_map (origins_at o) won_ones)) (slice_index less t) (slice_index new t) (times t lost') (at' t)) (slice_index_or rows i []);
  }

-- ---- the beginning and the end

pub in_round-first : (rows : List (List ℕ)) (first : List ℕ) (o : Origins) (waiting numbers lost_ones : List ℕ) → IsBegun rows first o waiting numbers lost_ones → InRound 0 rows first o numbers waiting lost_ones
in_round-first rows first o waiting numbers lost_ones begun = record {
  old = first;
  before = before-first rows first begun.start;
  origins = begun.origins;
  turned = begun.turned;
  losses = begun.losses;
  each = begun.each;
  waiting_count = begun.waiting_count;
  inside = begun.inside;
  listed = begun.listed;
  found = begun.found;
  open_targets = λ i below. begun.waits i below ∙ sym (count-all (λ t. not (is_won (slice_index numbers t))) (slice_index_or rows i []) (λ t here. open_target i t below here));
}
  where
    -- nothing is won_ones at the beginning
    open_by : (i t before after : ℕ) → before ≡ 0 → IsAfterLosses 0 first (slice_index_or rows t []) before after → not (is_won after) ≡ true
    open_by i t before after z (kept nonzero same) = absurd (nonzero z)
    open_by i t before after z (lost _ all is) = ap not (not_won-loss after 0 is)
    open_by i t before after z (left _ some is) = not_won-zero after is

    open_target : (i t : ℕ) → i < length rows → Contains (slice_index_or rows i []) t → not (is_won (slice_index numbers t)) ≡ true
    open_target i t below here =
        open_by i t (slice_index first t) (slice_index numbers t) (begun.start.leads i below t here) (begun.losses t (target-below rows first begun.start.are_rows i t below here))

module _ (rank : ℕ) (rows : List (List ℕ)) (first : List ℕ) (o : Origins) (numbers waiting lost_ones : List ℕ) (small : 4 * length rows + 4 < no_position)
    (now : InRound rank rows first o numbers waiting lost_ones) (none : lost_ones ≡ []) where
  unmarked : (i before after : ℕ) → slice_index numbers i ≡ after → IsAfterLosses rank now.old (slice_index_or rows i []) before after → after ≡ before
  unmarked i before after is (kept _ same) = same
  unmarked i before after is (lost _ _ marked) =
      let one : times i lost_ones ≡ 1 = now.listed i ∙ ap (λ b. one_if b) (eq-eqb (slice_index numbers i) (loss rank) (is ∙ marked)) in
      let zero_times : times i lost_ones ≡ 0 = ap (times i) none in
      absurd (omega (arith, one, zero_times))
  unmarked i before after is (left z _ same) = same ∙ sym z

  -- where no loss was found, nothing changed
  nothing_new : numbers ≡ now.old
  nothing_new =
      let each = now.each in
      let each_old = now.before.each in
      ext_get_or 0 numbers now.old (each ∙ sym each_old) (λ i below. unmarked i (slice_index now.old i) (slice_index numbers i) refl (now.losses i (omega (arith, each, below))))

  pub filled_now : IsFilled rows first numbers
  filled_now = filled-last rank rows first now.old numbers small now.before now.losses nothing_new

  pub small_now : AreBelow (4 * length rows + 4) numbers
  small_now = small-last rank rows first now.old numbers now.before nothing_new
