-- The items at a rising list of places are those that meet a claim, in order, where the places are
-- those of the items that meet it. So a copy needs no pass over all items.
use Rattle.std.proofs.Common.{◌≡◌, ◌<◌, ◌≤◌, ◌+◌, ℕ, zero, suc, inl, inr, List, [], ◌∷◌, ◌++◌, Option, Some, None, refl, sym, ◌∙◌, ap, subst, slice_get, length, get_or, drop, take, map, arith}
use Rattle.std.specs.Prelude.{Contains}
use Rattle.std.specs.List.Sorted.{IsStrictlyIncreasing}
use Rattle.std.proofs.lemmas.Bool.{cases_eq}
use Rattle.std.proofs.lemmas.List.{drop_more, drop_all, take_more, take_all, map_push, get_or_default, length-take, get_or-take}
use Rattle.std.proofs.lemmas.List.Elements.{All-contains}
use Rattle.std.proofs.lemmas.List.Kept.{AllPairs-from_increasing}
use Rattle.std.proofs.lemmas.Option.{get_or_from_slice_get, slice_get_within, slice_get-get_or}
use Rattle.draughts_board.specs.Board.{Board}
use Rattle.draughts_board.proofs.Members.{Contains-nil, Contains-cons_cases, Contains-head, Contains-tail, Contains-map, Contains-from_map}
use Rattle.strategy_certificate.specs.Parts.{HasDistinctPositions, HasEntry}
use Rattle.strategy_certificate.specs.Places.{StandsAt}
use Rattle.strategy_certificate.proofs.PlaceLemmas.{one_place}
use Rattle.proved_book.specs.Trimming.{Strategy, AreThose, Leads}
use Rattle.proved_book.specs.Walking.{ArePlacesLedTo}

-- each is at least the low one, and below those behind it
abbrev IsRisingFrom : ℕ → List ℕ → Type 0
IsRisingFrom low [] = Unit {0}
IsRisingFrom low (k ∷ ks) = (low ≤ k) × IsRisingFrom (k + 1) ks

abbrev Rise : List ℕ → Type 0
Rise ks = (i j : ℕ) → i < j → j < length ks → get_or ks i 0 < get_or ks j 0

rising_from : (low : ℕ) (ks : List ℕ) → Rise ks → ((k : ℕ) → Contains ks k → low ≤ k) → IsRisingFrom low ks
rising_from low [] rise least = tt
rising_from low (k ∷ ks) rise least = (
  least k (Contains-head k ks),
  rising_from (k + 1) ks (λ i j l m. rise (suc i) (suc j) (omega arith) (omega arith))
      (λ j there. let i = there.0 in let within = there.1 in let same : get_or ks i 0 ≡ j = get_or_default ks i 0 j within ∙ there.2 in let lt : k < get_or ks i 0 = rise 0 (suc i) (omega arith) (omega arith) in omega (arith, same, lt)),
)

rises_above : (low : ℕ) (ks : List ℕ) → IsRisingFrom low ks → (k : ℕ) → Contains ks k → low ≤ k
rises_above low [] rising k there = absurd (Contains-nil k there)
rises_above low (j ∷ ks) rising k there =
    elim (Contains-cons_cases j ks k there) [
      | inl same ↦ (let le = rising.0 in omega arith)
      | inr rest ↦ (let above = rises_above (j + 1) ks rising.1 k rest in let le = rising.0 in omega arith)
    ]

rises_later : (low : ℕ) (ks : List ℕ) → IsRisingFrom low ks → (Contains ks low → ⊥) → IsRisingFrom (low + 1) ks
rises_later low [] rising absent = tt
rises_later low (k ∷ ks) rising absent = (
  elim (cases_eq k low) [
    | inl same ↦ absurd (absent (subst (Contains (k ∷ ks)) same (Contains-head k ks)))
    | inr other ↦ (let le = rising.0 in omega arith)
  ],
  rising.1,
)

module _ {A : Type 0} (P : A → Type 0) (xs : List A) (d : A) where
  abbrev IsExactFrom : ℕ → List ℕ → Type 0
  IsExactFrom low ks = (i : ℕ) → low ≤ i → i < length xs → (P (get_or xs i d) → Contains ks i) × (Contains ks i → P (get_or xs i d))

  -- n is how many items stand from the low place on
  gathered : (n low : ℕ) (ks : List ℕ) → low + n ≡ length xs → IsRisingFrom low ks → ((k : ℕ) → Contains ks k → k < length xs) → IsExactFrom low ks
      → AreThose P (drop low xs) (map (λ k. get_or xs k d) ks)
  gathered zero low [] long rising within exact = subst (λ (ys : List A). AreThose P ys []) (sym (drop_all low xs (omega arith))) refl
  gathered zero low (k ∷ ks) long rising within exact =
      absurd (let le = rising.0 in let lt = within k (Contains-head k ks) in omega arith)
  gathered (suc n) low [] long rising within exact =
      let lt : low < length xs = omega arith in
      subst (λ (ys : List A). AreThose P ys []) (sym (drop_more xs low d lt))
      (inr ((λ meets. Contains-nil low ((exact low (omega arith) lt).0 meets)), gathered n (low + 1) [] (omega arith) tt within (λ i le. exact i (omega arith))))
  gathered (suc n) low (k ∷ ks) long rising within exact =
      let lt : low < length xs = omega arith in
      subst (λ (ys : List A). AreThose P ys (get_or xs k d ∷ map (λ j. get_or xs j d) ks)) (sym (drop_more xs low d lt))
      (elim (cases_eq k low) [
        | inl same ↦ inl (
          (exact low (omega arith) lt).1 (subst (Contains (k ∷ ks)) same (Contains-head k ks)),
          (
            map (λ j. get_or xs j d) ks,
            (
              ap (λ (j : ℕ). get_or xs j d ∷ map (λ m. get_or xs m d) ks) same,
              gathered n (low + 1) ks (omega arith) (subst (λ (j : ℕ). IsRisingFrom (j + 1) ks) same rising.1) (λ j there. within j (Contains-tail k j ks there))
                  (λ i le into. (
                    (λ meets. elim (Contains-cons_cases k ks i ((exact i (omega arith) into).0 meets)) [ inl this ↦ absurd (omega arith) | inr rest ↦ rest ]),
                    (λ there. (exact i (omega arith) into).1 (Contains-tail k i ks there)),
                  )),
            ),
          ),
        )
        | inr other ↦ (
            let absent : Contains (k ∷ ks) low → ⊥ = λ there. elim (Contains-cons_cases k ks low there) [
              | inl this ↦ other this
              | inr rest ↦ (let above = rises_above (k + 1) ks rising.1 low rest in let le = rising.0 in absurd (omega arith))
            ] in
            inr (
              (λ meets. absent ((exact low (omega arith) lt).0 meets)),
              gathered n (low + 1) (k ∷ ks) (omega arith) (rises_later low (k ∷ ks) rising absent) within (λ i le. exact i (omega arith)),
            ))
      ])

  pub gathered_all : (ks : List ℕ) → IsRisingFrom 0 ks → ((k : ℕ) → Contains ks k → k < length xs) → IsExactFrom 0 ks → AreThose P xs (map (λ k. get_or xs k d) ks)
  gathered_all ks rising within exact = gathered (length xs) 0 ks (omega arith) rising within exact

-- ---- what stands at places

abbrev pub AreAt : {A : Type 0} → List A → List ℕ → List A → Type 0
AreAt xs ks kept = map (slice_get xs) ks ≡ map Some kept

module _ {A : Type 0} (xs : List A) where
  at_places : (d : A) (ks : List ℕ) (kept : List A) → AreAt xs ks kept → map (λ k. get_or xs k d) ks ≡ kept
  at_places d [] [] at = refl
  at_places d [] (x ∷ kept) at = cc
  at_places d (k ∷ ks) [] at = cc
  at_places d (k ∷ ks) (x ∷ kept) at =
      let here : slice_get xs k ≡ Some x = ap (λ (ys : List (Option A)). get_or ys 0 None) at in
      let rest : AreAt xs ks kept = ap (drop 1) at in
      let first : get_or xs k d ≡ x = get_or_default xs k d x (slice_get_within xs k x here) ∙ get_or_from_slice_get xs k x x here in
      let others = at_places d ks kept rest in
      λ i. first i ∷ others i

  -- one of them stands at one of the places
  pub stands_at : (ks : List ℕ) (kept : List A) → AreAt xs ks kept → (x : A) → Contains kept x → (k : ℕ) × (Contains ks k × (slice_get xs k ≡ Some x))
  stands_at ks kept at x there =
      let found = Contains-from_map (slice_get xs) ks (Some x) (subst (λ (ys : List (Option A)). Contains ys (Some x)) (sym at) (Contains-map Some kept x there)) in
      (found.0, (found.1.0, found.1.1))

  -- one place more
  pub one_more : (ks : List ℕ) (kept : List A) (k : ℕ) (x : A) → AreAt xs ks kept → slice_get xs k ≡ Some x → AreAt xs (ks ++ k ∷ []) (kept ++ x ∷ [])
  one_more ks kept k x at here =
      map_push (slice_get xs) ks k ∙ ((λ i. at i ++ here i ∷ []) ∙ sym (map_push Some kept x))

module _ {E : Type 0} (rows : List (Board × E)) (strategy : Strategy) (p : Board) (places : List ℕ) where
  abbrev AreLed : Type 0
  AreLed = ArePlacesLedTo strategy p places

  -- the places so far, and the next
  pub next_place : (i k : ℕ) (kept : List (Board × E)) (x : Board × E) → i < length places → get_or places i k ≡ k → AreAt rows (take i places) kept → slice_get rows k ≡ Some x
      → AreAt rows (take (i + 1) places) (kept ++ x ∷ [])
  next_place i k kept x within is at here =
      subst (λ (ks : List ℕ). AreAt rows ks (kept ++ x ∷ [])) (sym (take_more places i k within ∙ ap (λ j. take i places ++ j ∷ []) is))
      (one_more rows (take i places) kept k x at here)

  -- the position at the next place has no entry yet
  pub none_yet : IsStrictlyIncreasing places → HasDistinctPositions rows → (i k : ℕ) (kept : List (Board × E)) (q : Board) (e : E) → i < length places → get_or places i k ≡ k
      → AreAt rows (take i places) kept → slice_get rows k ≡ Some (q, e) → HasEntry kept q → ⊥
  none_yet rising distinct i k kept q e within is at here (f, there) =
      let found = stands_at rows (take i places) kept at (q, f) there in
      let same = one_place rows distinct found.0 k q (f, found.1.1) (e, here) in
      let j = found.1.0.0 in
      let short : j < i = (let l = found.1.0.1 in let n = length-take i places in omega (arith, l, n)) in
      let lower : get_or places j found.0 ≡ found.0 = sym (get_or-take i places j found.0 short) ∙ found.1.0.2 in
      let lt = AllPairs-from_increasing places rising j i 0 short within in
      let one = get_or_default places j 0 found.0 (omega arith) ∙ lower in
      let another = get_or_default places i 0 k within ∙ is in
      omega arith

-- where all places were gone through, those to which p leads are kept
pub led_kept : {E : Type 0} (rows : List (Board × E)) (strategy : Strategy) (p : Board) (places : List ℕ) (d : Board × E) → length strategy ≡ length rows
    → ((i : ℕ) (q : Board) → StandsAt rows i q → StandsAt strategy i q) → ArePlacesLedTo strategy p places
    → (i : ℕ) (kept : List (Board × E)) → length places ≤ i → AreAt rows (take i places) kept → AreThose (λ row. Leads strategy p row.0) rows kept
led_kept {E} rows strategy p places d long same led i kept past at =
    let whole : AreAt rows places kept = subst (λ (ks : List ℕ). AreAt rows ks kept) (take_all i places past) at in
    subst (AreThose (λ (row : Board × E). Leads strategy p row.0) rows) (at_places rows d places kept whole)
    (gathered_all (λ (row : Board × E). Leads strategy p row.0) rows d places rising within exact)
  where
    rising : IsRisingFrom 0 places
    rising = rising_from 0 places (λ a b l m. AllPairs-from_increasing places led.rising a b 0 l m) (λ k there. omega arith)

    within : (k : ℕ) → Contains places k → k < length rows
    within k there = let lt = All-contains (λ n. n < length strategy) places k led.within there in omega arith

    exact : (k : ℕ) → 0 ≤ k → k < length rows → (Leads strategy p (get_or rows k d).0 → Contains places k) × (Contains places k → Leads strategy p (get_or rows k d).0)
    exact k le lt =
        let row = get_or rows k d in
        let both = led.exact k row.0 (same k row.0 (row.1, slice_get-get_or rows k d lt)) in
        (both.1, both.0)
