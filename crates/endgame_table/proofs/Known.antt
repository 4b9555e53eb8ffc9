-- What is known of each index before a round and in its middle, and that each half of a round adds to it.
use Rattle.std.proofs.Common.{◌≡◌, ◌≢◌, ◌⊎◌, ℕ, suc, ◌<◌, ◌≤◌, List, [], length, refl, sym, ◌∙◌, subst, inl, inr, arith}
use Rattle.std.specs.Prelude.{Contains, slice_index, slice_index_or}
use Rattle.std.proofs.lemmas.List.Elements.{All-contains, All-from_get_or, All-weaker}
use Rattle.endgame_table.specs.Numbers.{no_position, AreBelow}
use Rattle.endgame_table.specs.Rounds.{SomeTarget, EachTarget, win, loss, IsWonNumber, IsNotWon, IsLost, IsNotLost, IsAfterLosses, kept, lost, left, IsAfterWins, stays, won, waits, AddsLosses, AddsWins, AreRows, IsStart, FitsTargets, is_win, is_loss, is_draw, IsFilled}

-- some target is lost at rank l, and none at a lower rank
abbrev pub FirstLoss : ℕ → List ℕ → List ℕ → Type 0
FirstLoss l numbers targets = SomeTarget numbers targets (λ n. n ≡ loss l) × EachTarget numbers targets (λ n. (m : ℕ) → n ≡ loss m → l ≤ m)

-- each target is won at a rank below r, and some at rank r - 1 if r is not 0
abbrev pub AllWonBelow : ℕ → List ℕ → List ℕ → Type 0
AllWonBelow r numbers targets =
    EachTarget numbers targets (λ n. (m : ℕ) × ((n ≡ win m) × (m < r)))
    × ((r ≡ 0) ⊎ SomeTarget numbers targets (λ n. (m : ℕ) × ((n ≡ win m) × (r ≡ suc m))))

-- What is known of an index before the round of this rank: what is decided has a lower rank and fits; what is not
-- decided has no target lost, and some target that is not won below rank - 1.
pub data IsKnown (rank : ℕ) (numbers targets : List ℕ) (number : ℕ) : Type 0 where
  outside : number ≡ no_position → IsKnown rank numbers targets number
  known_win : (l : ℕ) → suc l < rank → number ≡ win (suc l) → FirstLoss l numbers targets → IsKnown rank numbers targets number
  known_loss : (r : ℕ) → r < rank → number ≡ loss r → AllWonBelow r numbers targets → IsKnown rank numbers targets number
  unknown : number ≡ 0 → EachTarget numbers targets IsNotLost
      → (rank ≡ 0) ⊎ SomeTarget numbers targets (λ n. (m : ℕ) → n ≡ win m → rank ≤ suc m) → IsKnown rank numbers targets number

-- The same between the losses and the wins of the round: what is not decided has no target lost at a lower rank, and some
-- target that is not won.
pub data IsKnownBetween (rank : ℕ) (numbers targets : List ℕ) (number : ℕ) : Type 0 where
  outside' : number ≡ no_position → IsKnownBetween rank numbers targets number
  known_win' : (l : ℕ) → suc l < rank → number ≡ win (suc l) → FirstLoss l numbers targets → IsKnownBetween rank numbers targets number
  known_loss' : (r : ℕ) → r ≤ rank → number ≡ loss r → AllWonBelow r numbers targets → IsKnownBetween rank numbers targets number
  unknown' : number ≡ 0 → EachTarget numbers targets (λ n. (l : ℕ) → n ≡ loss l → rank ≤ l)
      → SomeTarget numbers targets IsNotWon → IsKnownBetween rank numbers targets number

-- ---- what each half makes of a number

abbrev pub MarksLoss : ℕ → ℕ → ℕ → Type 0
MarksLoss rank before after = (after ≡ before) ⊎ ((before ≡ 0) × (after ≡ loss rank))

abbrev pub MarksWin : ℕ → ℕ → ℕ → Type 0
MarksWin rank before after = (after ≡ before) ⊎ ((before ≡ 0) × (after ≡ win rank))

pub marks-loss : (rank : ℕ) (numbers targets : List ℕ) (before after : ℕ) → IsAfterLosses rank numbers targets before after → MarksLoss rank before after
marks-loss rank numbers targets before after (kept nonzero same) = inl same
marks-loss rank numbers targets before after (lost is_zero all is) = inr (is_zero, is)
marks-loss rank numbers targets before after (left is_zero some is) = inl (is ∙ sym is_zero)

pub marks-win : (rank : ℕ) (numbers targets : List ℕ) (before after : ℕ) → IsAfterWins rank numbers targets before after → MarksWin rank before after
marks-win rank numbers targets before after (stays nonzero same) = inl same
marks-win rank numbers targets before after (won is_zero some is) = inr (is_zero, is)
marks-win rank numbers targets before after (waits is_zero none is) = inl (is ∙ sym is_zero)

-- ---- facts that the search for losses of this rank keeps

module _ (rank x y : ℕ) (marked : MarksLoss rank x y) where
  pub loss-stays : (l : ℕ) → x ≡ loss l → y ≡ loss l
  loss-stays l is = elim marked [ inl same ↦ same ∙ is | inr set ↦ absurd (let e = set.0 in omega arith) ]

  pub win-stays : (m : ℕ) → x ≡ win m → y ≡ win m
  win-stays m is = elim marked [ inl same ↦ same ∙ is | inr set ↦ absurd (let e = set.0 in omega arith) ]

  pub win-was : (m : ℕ) → y ≡ win m → x ≡ win m
  win-was m is = elim marked [ inl same ↦ sym same ∙ is | inr set ↦ absurd (let e = set.1 in omega arith) ]

  pub loss-was : (l : ℕ) → y ≡ loss l → (x ≡ loss l) ⊎ (l ≡ rank)
  loss-was l is = elim marked [ inl same ↦ inl (sym same ∙ is) | inr set ↦ inr (let e = set.1 in omega arith) ]

-- ---- and that for wins

module _ (rank x y : ℕ) (marked : MarksWin rank x y) where
  pub loss-stays' : (l : ℕ) → x ≡ loss l → y ≡ loss l
  loss-stays' l is = elim marked [ inl same ↦ same ∙ is | inr set ↦ absurd (let e = set.0 in omega arith) ]

  pub win-stays' : (m : ℕ) → x ≡ win m → y ≡ win m
  win-stays' m is = elim marked [ inl same ↦ same ∙ is | inr set ↦ absurd (let e = set.0 in omega arith) ]

  pub loss-was' : (l : ℕ) → y ≡ loss l → x ≡ loss l
  loss-was' l is = elim marked [ inl same ↦ sym same ∙ is | inr set ↦ absurd (let e = set.1 in omega arith) ]

  pub win-was' : (m : ℕ) → y ≡ win m → (x ≡ win m) ⊎ (m ≡ rank)
  win-was' m is = elim marked [ inl same ↦ inl (sym same ∙ is) | inr set ↦ inr (let e = set.1 in omega arith) ]

-- ---- decided numbers go on to fit

module _ (old new targets : List ℕ)
    (wins : (t m : ℕ) → Contains targets t → slice_index old t ≡ win m → slice_index new t ≡ win m) where
  all_won-stays : (r : ℕ) → AllWonBelow r old targets → AllWonBelow r new targets
  all_won-stays r (each, inl none) = ((λ t here. let w = each t here in (w.0, (wins t w.0 here w.1.0, w.1.1))), inl none)
  all_won-stays r (each, inr s) =
      ((λ t here. let w = each t here in (w.0, (wins t w.0 here w.1.0, w.1.1))), inr (s.0, (s.1.0, (s.1.1.0, (wins s.0 s.1.1.0 s.1.0 s.1.1.1.0, s.1.1.1.1)))))

  first_loss-stays : (l : ℕ) → ((t m : ℕ) → Contains targets t → slice_index old t ≡ loss m → slice_index new t ≡ loss m)
      → ((t m : ℕ) → Contains targets t → slice_index new t ≡ loss m → (slice_index old t ≡ loss m) ⊎ (l ≤ m))
      → FirstLoss l old targets → FirstLoss l new targets
  first_loss-stays l losses were (some, each) = (
    (some.0, (some.1.0, losses some.0 l some.1.0 some.1.1)),
    λ t here m is. elim (were t m here is) [ inl was ↦ each t here m was | inr high ↦ high ],
  )

-- ---- the losses

module _ (rank : ℕ) (old new targets : List ℕ) (marked : (t : ℕ) → Contains targets t → MarksLoss rank (slice_index old t) (slice_index new t)) where
  first_loss-losses : (l : ℕ) → l ≤ rank → FirstLoss l old targets → FirstLoss l new targets
  first_loss-losses l low =
      first_loss-stays old new targets
      (λ t m here is. win-stays rank (slice_index old t) (slice_index new t) (marked t here) m is) l
      (λ t m here is. loss-stays rank (slice_index old t) (slice_index new t) (marked t here) m is)
      (λ t m here is. elim (loss-was rank (slice_index old t) (slice_index new t) (marked t here) m is) [ inl was ↦ inl was | inr e ↦ inr (omega arith) ])

  all_won-losses : (r : ℕ) → AllWonBelow r old targets → AllWonBelow r new targets
  all_won-losses = all_won-stays old new targets (λ t m here is. win-stays rank (slice_index old t) (slice_index new t) (marked t here) m is)

  known-kept : (number : ℕ) → number ≢ 0 → IsKnown rank old targets number → IsKnownBetween rank new targets number
  known-kept number nonzero (outside is) = outside' is
  known-kept number nonzero (known_win l below is first) = known_win' l below is (first_loss-losses l (omega arith) first)
  known-kept number nonzero (known_loss r below is all) = known_loss' r (omega arith) is (all_won-losses r all)
  known-kept number nonzero (unknown is none some) = absurd (nonzero is)

  -- a target that is won is won at a lower rank
  won-below : (t m : ℕ) (row : List ℕ) → IsKnown rank old row (slice_index old t) → slice_index old t ≡ win m → m < rank
  won-below t m row (outside is) e = absurd (omega arith)
  won-below t m row (known_win l below is first) e = omega arith
  won-below t m row (known_loss r below is all) e = absurd (omega arith)
  won-below t m row (unknown is none some) e = absurd (omega arith)

  module _ (rows : List (List ℕ)) (known : (t : ℕ) → Contains targets t → IsKnown rank old (slice_index_or rows t []) (slice_index old t)) where
    known-lost : (number : ℕ) → number ≡ 0 → IsKnown rank old targets number → EachTarget old targets IsWonNumber → IsKnownBetween rank new targets (loss rank)
    known-lost number is_zero (outside is) all = absurd (omega arith)
    known-lost number is_zero (known_win l below is first) all = absurd (omega arith)
    known-lost number is_zero (known_loss r below is each) all = absurd (omega arith)
    known-lost number is_zero (unknown is none (inl first)) all =
        known_loss' rank (omega arith) refl (all_won-losses rank (each all, inl first))
      where
        each : EachTarget old targets IsWonNumber → EachTarget old targets (λ n. (m : ℕ) × ((n ≡ win m) × (m < rank)))
        each all t here = let w = all t here in (w.0, (w.1, won-below t w.0 (slice_index_or rows t []) (known t here) w.1))
    known-lost number is_zero (unknown is none (inr some)) all =
        let w = all some.0 some.1.0 in
        let m = w.0 in
        let below = won-below some.0 m (slice_index_or rows some.0 []) (known some.0 some.1.0) w.1 in
        let high = some.1.1 m w.1 in
        let e : rank ≡ suc m = omega arith in
        known_loss' rank (omega arith) refl (all_won-losses rank (each all, inr (some.0, (some.1.0, (m, (w.1, e))))))
      where
        each : EachTarget old targets IsWonNumber → EachTarget old targets (λ n. (m : ℕ) × ((n ≡ win m) × (m < rank)))
        each all t here = let w = all t here in (w.0, (w.1, won-below t w.0 (slice_index_or rows t []) (known t here) w.1))

    known-left : (number : ℕ) → number ≡ 0 → IsKnown rank old targets number → SomeTarget old targets IsNotWon → IsKnownBetween rank new targets 0
    known-left number is_zero (outside is) some = absurd (omega arith)
    known-left number is_zero (known_win l below is first) some = absurd (omega arith)
    known-left number is_zero (known_loss r below is each) some = absurd (omega arith)
    known-left number is_zero (unknown is none _) some =
        unknown' refl
        (λ t here l loses. elim (loss-was rank (slice_index old t) (slice_index new t) (marked t here) l loses) [
          | inl was ↦ absurd (none t here l was)
          | inr e ↦ omega arith
        ])
        (some.0, (some.1.0, λ m wins. some.1.1 m (win-was rank (slice_index old some.0) (slice_index new some.0) (marked some.0 some.1.0) m wins)))

    known-losses : (before after : ℕ) → IsKnown rank old targets before → IsAfterLosses rank old targets before after → IsKnownBetween rank new targets after
    known-losses before after known (kept nonzero same) = subst (IsKnownBetween rank new targets) (sym same) (known-kept before nonzero known)
    known-losses before after known (lost is_zero all is) = subst (IsKnownBetween rank new targets) (sym is) (known-lost before is_zero known all)
    known-losses before after known (left is_zero some is) = subst (IsKnownBetween rank new targets) (sym is) (known-left before is_zero known some)

-- ---- the wins

module _ (rank : ℕ) (old new targets : List ℕ) (marked : (t : ℕ) → Contains targets t → MarksWin (suc rank) (slice_index old t) (slice_index new t)) where
  first_loss-wins : (l : ℕ) → FirstLoss l old targets → FirstLoss l new targets
  first_loss-wins l =
      first_loss-stays old new targets
      (λ t m here is. win-stays' (suc rank) (slice_index old t) (slice_index new t) (marked t here) m is) l
      (λ t m here is. loss-stays' (suc rank) (slice_index old t) (slice_index new t) (marked t here) m is)
      (λ t m here is. inl (loss-was' (suc rank) (slice_index old t) (slice_index new t) (marked t here) m is))

  between-kept : (number : ℕ) → number ≢ 0 → IsKnownBetween rank old targets number → IsKnown (suc (suc rank)) new targets number
  between-kept number nonzero (outside' is) = outside is
  between-kept number nonzero (known_win' l below is first) = known_win l (omega arith) is (first_loss-wins l first)
  between-kept number nonzero (known_loss' r below is all) =
      known_loss r (omega arith) is (all_won-stays old new targets (λ t m here is. win-stays' (suc rank) (slice_index old t) (slice_index new t) (marked t here) m is) r all)
  between-kept number nonzero (unknown' is none some) = absurd (nonzero is)

  -- a target that is lost is lost at most at this rank
  lost-within : (t l : ℕ) (row : List ℕ) → slice_index old t ≢ no_position → IsKnownBetween rank old row (slice_index old t) → slice_index old t ≡ loss l → l ≤ rank
  lost-within t l row inside (outside' is) e = absurd (inside is)
  lost-within t l row inside (known_win' m below is first) e = absurd (omega arith)
  lost-within t l row inside (known_loss' r below is all) e = omega arith
  lost-within t l row inside (unknown' is none some) e = absurd (omega arith)

  module _ (rows : List (List ℕ)) (inside : EachTarget old targets (λ n. n ≢ no_position))
      (known : (t : ℕ) → Contains targets t → IsKnownBetween rank old (slice_index_or rows t []) (slice_index old t)) where
    between-won : (number : ℕ) → number ≡ 0 → IsKnownBetween rank old targets number → SomeTarget old targets IsLost → IsKnown (suc (suc rank)) new targets (win (suc rank))
    between-won number is_zero (outside' is) some = absurd (omega arith)
    between-won number is_zero (known_win' l below is first) some = absurd (omega arith)
    between-won number is_zero (known_loss' r below is all) some = absurd (omega arith)
    between-won number is_zero (unknown' is each _) some =
        let t = some.0 in
        let l = some.1.1.0 in
        let loses : slice_index old t ≡ loss l = some.1.1.1 in
        let high : rank ≤ l = each t some.1.0 l loses in
        let low : l ≤ rank = lost-within t l (slice_index_or rows t []) (inside t some.1.0) (known t some.1.0) loses in
        let e : l ≡ rank = omega arith in
        known_win rank (omega arith) refl (first_loss-wins rank ((t, (some.1.0, subst (λ l. slice_index old t ≡ loss l) e loses)), each))

    between-waits : (number : ℕ) → number ≡ 0 → IsKnownBetween rank old targets number → EachTarget old targets IsNotLost → IsKnown (suc (suc rank)) new targets 0
    between-waits number is_zero (outside' is) none = absurd (omega arith)
    between-waits number is_zero (known_win' l below is first) none = absurd (omega arith)
    between-waits number is_zero (known_loss' r below is all) none = absurd (omega arith)
    between-waits number is_zero (unknown' is _ some) none =
        unknown refl
        (λ t here l loses. none t here l (loss-was' (suc rank) (slice_index old t) (slice_index new t) (marked t here) l loses))
        (inr (
          some.0,
          (
            some.1.0,
            λ m wins. elim (win-was' (suc rank) (slice_index old some.0) (slice_index new some.0) (marked some.0 some.1.0) m wins) [
              | inl was ↦ absurd (some.1.1 m was)
              | inr e ↦ omega arith
            ],
          ),
        ))

    known-wins : (before after : ℕ) → IsKnownBetween rank old targets before → IsAfterWins (suc rank) old targets before after → IsKnown (suc (suc rank)) new targets after
    known-wins before after known (stays nonzero same) = subst (IsKnown (suc (suc rank)) new targets) (sym same) (between-kept before nonzero known)
    known-wins before after known (won is_zero some is) = subst (IsKnown (suc (suc rank)) new targets) (sym is) (between-won before is_zero known some)
    known-wins before after known (waits is_zero none is) = subst (IsKnown (suc (suc rank)) new targets) (sym is) (between-waits before is_zero known none)

-- ---- all indices

abbrev pub AllKnown : ℕ → List (List ℕ) → List ℕ → Type 0
AllKnown rank rows numbers = (i : ℕ) → i < length rows → IsKnown rank numbers (slice_index_or rows i []) (slice_index numbers i)

abbrev pub AllKnownBetween : ℕ → List (List ℕ) → List ℕ → Type 0
AllKnownBetween rank rows numbers = (i : ℕ) → i < length rows → IsKnownBetween rank numbers (slice_index_or rows i []) (slice_index numbers i)

-- an index that was no position is none still, and another is a position still
abbrev pub KeepsPlaces : List (List ℕ) → List ℕ → List ℕ → Type 0
KeepsPlaces rows old new =
    (i : ℕ) → i < length rows
    → ((slice_index old i ≡ no_position) × (slice_index new i ≡ no_position)) ⊎ ((slice_index old i ≡ 0) × (slice_index new i ≢ no_position))

pub target-below : (rows : List (List ℕ)) (numbers : List ℕ) → AreRows rows numbers → (i t : ℕ) → i < length rows → Contains (slice_index_or rows i []) t → t < length rows
target-below rows numbers are i t below here = All-contains (λ t. t < length rows) (slice_index_or rows i []) t (are.targets i below) here

inside-now : (first now : ℕ) → first ≡ 0 → ((first ≡ no_position) × (now ≡ no_position)) ⊎ ((first ≡ 0) × (now ≢ no_position)) → now ≢ no_position
inside-now first now is_zero (inl is) = absurd (let e = is.0 in omega arith)
inside-now first now is_zero (inr is) = is.1

-- each target is a position still
pub targets-inside : (rows : List (List ℕ)) (first numbers : List ℕ) → IsStart rows first → KeepsPlaces rows first numbers
    → (i : ℕ) → i < length rows → EachTarget numbers (slice_index_or rows i []) (λ n. n ≢ no_position)
targets-inside rows first numbers start places i below t here =
    inside-now (slice_index first t) (slice_index numbers t) (start.leads i below t here) (places t (target-below rows first start.are_rows i t below here))

pub known-first : (rows : List (List ℕ)) (numbers : List ℕ) → IsStart rows numbers → AllKnown 0 rows numbers
known-first rows numbers start i below =
    elim (start.begins i below) [
      | inl is_zero ↦ unknown is_zero (λ t here l is. let e = start.leads i below t here in omega arith) (inl refl)
      | inr is ↦ outside is
    ]

pub known-between : (rank : ℕ) (rows : List (List ℕ)) (old new : List ℕ) → AreRows rows old → AddsLosses rank rows old new → AllKnown rank rows old
    → AllKnownBetween rank rows new
known-between rank rows old new are adds known i below =
    let row = slice_index_or rows i [] in
    known-losses rank old new row
    (λ t here. marks-loss rank old (slice_index_or rows t []) (slice_index old t) (slice_index new t) (adds t (target-below rows old are i t below here)))
    rows (λ t here. known t (target-below rows old are i t below here))
    (slice_index old i) (slice_index new i) (known i below) (adds i below)

pub known-after : (rank : ℕ) (rows : List (List ℕ)) (first old new : List ℕ) → IsStart rows first → KeepsPlaces rows first old
    → AddsWins (suc rank) rows old new → AllKnownBetween rank rows old → AllKnown (suc (suc rank)) rows new
known-after rank rows first old new start places adds known i below =
    let row = slice_index_or rows i [] in
    known-wins rank old new row
    (λ t here. marks-win (suc rank) old (slice_index_or rows t []) (slice_index old t) (slice_index new t) (adds t (target-below rows first start.are_rows i t below here)))
    rows (targets-inside rows first old start places i below) (λ t here. known t (target-below rows first start.are_rows i t below here))
    (slice_index old i) (slice_index new i) (known i below) (adds i below)

-- ---- places

place-kept : (set first before after : ℕ) → set ≢ no_position → (after ≡ before) ⊎ ((before ≡ 0) × (after ≡ set))
    → ((first ≡ no_position) × (before ≡ no_position)) ⊎ ((first ≡ 0) × (before ≢ no_position))
    → ((first ≡ no_position) × (after ≡ no_position)) ⊎ ((first ≡ 0) × (after ≢ no_position))
place-kept set first before after other (inl same) (inl is) = inl (is.0, same ∙ is.1)
place-kept set first before after other (inl same) (inr is) = inr (is.0, λ e. is.1 (sym same ∙ e))
place-kept set first before after other (inr marked) (inl is) = absurd (let e = marked.0 in let f = is.1 in omega arith)
place-kept set first before after other (inr marked) (inr is) = inr (is.0, λ e. other (sym marked.1 ∙ e))

pub places-losses : (rank : ℕ) (rows : List (List ℕ)) (first old new : List ℕ) → win rank < no_position → AddsLosses rank rows old new
    → KeepsPlaces rows first old → KeepsPlaces rows first new
places-losses rank rows first old new fits adds places i below =
    place-kept (loss rank) (slice_index first i) (slice_index old i) (slice_index new i) (omega arith)
    (marks-loss rank old (slice_index_or rows i []) (slice_index old i) (slice_index new i) (adds i below)) (places i below)

pub places-wins : (rank : ℕ) (rows : List (List ℕ)) (first old new : List ℕ) → win rank < no_position → AddsWins rank rows old new
    → KeepsPlaces rows first old → KeepsPlaces rows first new
places-wins rank rows first old new fits adds places i below =
    place-kept (win rank) (slice_index first i) (slice_index old i) (slice_index new i) (omega arith)
    (marks-win rank old (slice_index_or rows i []) (slice_index old i) (slice_index new i) (adds i below)) (places i below)

-- ---- where no loss is found, every number fits

module _ (rank : ℕ) (rows : List (List ℕ)) (numbers : List ℕ) (fits : win rank < no_position) where
  -- a target that is a position, not lost and not won is not decided
  unknown-target : (t : ℕ) → slice_index numbers t ≢ no_position → IsKnown rank numbers (slice_index_or rows t []) (slice_index numbers t)
      → IsNotLost (slice_index numbers t) → IsNotWon (slice_index numbers t) → slice_index numbers t ≡ 0
  unknown-target t inside (outside is) no_loss no_win = absurd (inside is)
  unknown-target t inside (known_win l below is first) no_loss no_win = absurd (no_win (suc l) is)
  unknown-target t inside (known_loss r below is all) no_loss no_win = absurd (no_loss r is)
  unknown-target t inside (unknown is none some) no_loss no_win = is

  module _ (targets : List ℕ) (known : (t : ℕ) → Contains targets t → IsKnown rank numbers (slice_index_or rows t []) (slice_index numbers t))
      (inside : EachTarget numbers targets (λ n. n ≢ no_position)) where
    drawn-fits : (number : ℕ) → number ≡ 0 → EachTarget numbers targets IsNotLost → IsKnownBetween rank numbers targets number → FitsTargets numbers targets number
    drawn-fits number is_zero none (outside' is) = absurd (omega arith)
    drawn-fits number is_zero none (known_win' l below is first) = absurd (omega arith)
    drawn-fits number is_zero none (known_loss' r below is all) = absurd (omega arith)
    drawn-fits number is_zero none (unknown' is each some) =
        let t = some.0 in
        is_draw is (t, (some.1.0, unknown-target t (inside t some.1.0) (known t some.1.0) (none t some.1.0) some.1.1)) none

    known-fits : (number : ℕ) → number ≢ no_position → IsKnown rank numbers targets number → IsKnownBetween rank numbers targets number → FitsTargets numbers targets number
    known-fits number inside' (outside is) between = absurd (inside' is)
    known-fits number inside' (known_win l below is first) between = is_win l (omega arith) is first.0 first.1
    known-fits number inside' (known_loss r below is all) between = is_loss r (omega arith) is all.0 all.1
    known-fits number inside' (unknown is none some) between = drawn-fits number is none between

pub filled : (rank : ℕ) (rows : List (List ℕ)) (first numbers : List ℕ) → win rank < no_position → IsStart rows first → KeepsPlaces rows first numbers
    → AllKnown rank rows numbers → AllKnownBetween rank rows numbers → IsFilled rows first numbers
filled rank rows first numbers fits start places known between i below =
    elim (places i below) [
      | inl none ↦ inl none
      | inr inside ↦ inr (
        inside.0,
        known-fits rank rows numbers fits (slice_index_or rows i [])
            (λ t here. known t (target-below rows first start.are_rows i t below here))
            (targets-inside rows first numbers start places i below)
            (slice_index numbers i) inside.1 (known i below) (between i below),
      )
    ]

-- ---- what is known is small

number-below : (rank : ℕ) (numbers targets : List ℕ) (number : ℕ) → IsKnown rank numbers targets number → (number ≡ no_position) ⊎ (number < win rank)
number-below rank numbers targets number (outside is) = inl is
number-below rank numbers targets number (known_win l below is first) = inr (omega arith)
number-below rank numbers targets number (known_loss r below is all) = inr (omega arith)
number-below rank numbers targets number (unknown is none some) = inr (omega arith)

pub numbers-below : (rank : ℕ) (rows : List (List ℕ)) (numbers : List ℕ) → length numbers ≡ length rows → AllKnown rank rows numbers
    → AreBelow (win rank) numbers
numbers-below rank rows numbers same known =
    All-from_get_or (λ n. (n ≡ no_position) ⊎ (n < win rank)) numbers 0
    (λ i below. number-below rank numbers (slice_index_or rows i []) (slice_index numbers i) (known i (omega arith)))

-- and so is what is below a lower limit
pub below-more : (low high : ℕ) (numbers : List ℕ) → low ≤ high → AreBelow low numbers → AreBelow high numbers
below-more low high numbers le below =
    All-weaker (λ n. (n ≡ no_position) ⊎ (n < low)) (λ n. (n ≡ no_position) ⊎ (n < high))
    (λ n h. elim h [ inl is ↦ inl is | inr small ↦ inr (omega arith) ]) numbers below
