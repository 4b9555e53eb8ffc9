-- Deciding indices backwards from lost ones. Nothing here is about draughts: an index has a row of
-- targets, the indices that its moves lead to, and a number, which is 0 while it is not decided.
use Rattle.std.specs.Prelude.{◌≡◌, ◌≢◌, ◌⊎◌, ℕ, suc, ◌+◌, ◌*◌, ◌%◌, ◌<◌, ◌≤◌, ◌==◌, ◌&&◌, not, Bool, List, [], length, count_by, All, Contains, slice_index, slice_index_or, if◌then◌else◌}
use Rattle.endgame_table.specs.declared.origins.Origins.{Origins}
use Rattle.endgame_table.specs.Numbers.{no_position}
use Rattle.endgame_table.specs.Marking.{times}
use Rattle.endgame_table.specs.Origins.{AreOrigins, TurnsRound}

-- ---- numbers

-- the numbers of a win and of a loss of rank r
abbrev pub win : ℕ → ℕ
win r = 2 * r + 2

abbrev pub loss : ℕ → ℕ
loss r = 2 * r + 1

-- the number of some win, and of none
abbrev pub IsWonNumber : ℕ → Type 0
IsWonNumber n = (m : ℕ) × (n ≡ win m)

abbrev pub IsNotWon : ℕ → Type 0
IsNotWon n = (m : ℕ) → n ≡ win m → ⊥

-- the number of some loss, and of none
abbrev pub IsLost : ℕ → Type 0
IsLost n = (l : ℕ) × (n ≡ loss l)

abbrev pub IsNotLost : ℕ → Type 0
IsNotLost n = (l : ℕ) → n ≡ loss l → ⊥

-- the same as tests
abbrev pub is_won : ℕ → Bool
is_won n = not (n == 0) && n % 2 == 0

abbrev pub is_lost : ℕ → Bool
is_lost n = n % 2 == 1

-- ---- targets

-- some target's number meets P
abbrev pub SomeTarget : List ℕ → List ℕ → (ℕ → Type 0) → Type 0
SomeTarget numbers targets P = (t : ℕ) × (Contains targets t × P (slice_index numbers t))

-- each target's number meets P
abbrev pub EachTarget : List ℕ → List ℕ → (ℕ → Type 0) → Type 0
EachTarget numbers targets P = (t : ℕ) → Contains targets t → P (slice_index numbers t)

-- each index has a number, and each target is an index
pub record AreRows (rows : List (List ℕ)) (numbers : List ℕ) : Type 0 where
  pub each : length numbers ≡ length rows
  pub targets : (i : ℕ) → i < length rows → All (λ t. t < length rows) (slice_index_or rows i [])

-- how many indices are not decided
abbrev pub undecided : List ℕ → ℕ
undecided numbers = count_by (λ n. n == 0) numbers

-- ---- the two halves of a round

-- What the search for losses of this rank makes of an index: an undecided index is lost where each
-- target is won.
pub data IsAfterLosses (rank : ℕ) (numbers targets : List ℕ) (before after : ℕ) : Type 0 where
  kept : before ≢ 0 → after ≡ before → IsAfterLosses rank numbers targets before after
  lost : before ≡ 0 → EachTarget numbers targets IsWonNumber → after ≡ loss rank
      → IsAfterLosses rank numbers targets before after
  left : before ≡ 0 → SomeTarget numbers targets IsNotWon → after ≡ 0
      → IsAfterLosses rank numbers targets before after

-- What the search for wins of this rank makes of an index: an undecided index is won where some
-- target is lost.
pub data IsAfterWins (rank : ℕ) (numbers targets : List ℕ) (before after : ℕ) : Type 0 where
  stays : before ≢ 0 → after ≡ before → IsAfterWins rank numbers targets before after
  won : before ≡ 0 → SomeTarget numbers targets IsLost → after ≡ win rank
      → IsAfterWins rank numbers targets before after
  waits : before ≡ 0 → EachTarget numbers targets IsNotLost → after ≡ 0
      → IsAfterWins rank numbers targets before after

-- the numbers after the search for losses, and after that for wins
abbrev pub AddsLosses : ℕ → List (List ℕ) → List ℕ → List ℕ → Type 0
AddsLosses rank rows old new =
    (i : ℕ) → i < length rows
    → IsAfterLosses rank old (slice_index_or rows i []) (slice_index old i) (slice_index new i)

abbrev pub AddsWins : ℕ → List (List ℕ) → List ℕ → List ℕ → Type 0
AddsWins rank rows old new =
    (i : ℕ) → i < length rows
    → IsAfterWins rank old (slice_index_or rows i []) (slice_index old i) (slice_index new i)

-- ---- from the start to the end

-- before the first round: each index is undecided or no position, and no target is no position
pub record IsStart (rows : List (List ℕ)) (numbers : List ℕ) : Type 0 where
  pub are_rows : AreRows rows numbers
  pub begins : (i : ℕ) → i < length rows
      → (slice_index numbers i ≡ 0) ⊎ (slice_index numbers i ≡ no_position)
  pub leads : (i : ℕ) → i < length rows → EachTarget numbers (slice_index_or rows i []) (λ n. n ≡ 0)

-- When the losses of rank 0 have been found: where moves come from, how many targets each index
-- waits for, the numbers, and the lost indices, each once.
pub record IsBegun (rows : List (List ℕ)) (first : List ℕ) (o : Origins)
    (waiting numbers lost_ones : List ℕ) : Type 0 where
  pub start : IsStart rows first
  pub origins : AreOrigins o (length rows)
  pub turned : TurnsRound rows o
  pub waiting_count : length waiting ≡ length rows
  pub waits : (i : ℕ) → i < length rows → slice_index waiting i ≡ length (slice_index_or rows i [])
  pub each : length numbers ≡ length rows
  pub losses : AddsLosses 0 rows first numbers
  pub inside : All (λ t. t < length rows) lost_ones
  pub listed : (t : ℕ) → times t lost_ones ≡ (if slice_index numbers t == loss 0 then 1 else 0)
  pub found : undecided numbers + length lost_ones ≡ undecided first

-- The number of an index fits those of its targets.
-- A win of rank r: some target is a loss of rank r - 1, and none a loss of a lower rank.
-- A loss of rank r: each target is a win of a rank below r; r is 0, or some target is a win of rank
-- r - 1. A draw: some target is a draw, and none a loss.
pub data FitsTargets (numbers targets : List ℕ) (number : ℕ) : Type 0 where
  is_win : (l : ℕ) → win (suc l) < no_position → number ≡ win (suc l)
      → SomeTarget numbers targets (λ n. n ≡ loss l)
      → EachTarget numbers targets (λ n. (m : ℕ) → n ≡ loss m → l ≤ m)
      → FitsTargets numbers targets number
  is_loss : (r : ℕ) → win r < no_position → number ≡ loss r
      → EachTarget numbers targets (λ n. (m : ℕ) × ((n ≡ win m) × (m < r)))
      → (r ≡ 0) ⊎ SomeTarget numbers targets (λ n. (m : ℕ) × ((n ≡ win m) × (r ≡ suc m)))
      → FitsTargets numbers targets number
  is_draw : number ≡ 0 → SomeTarget numbers targets (λ n. n ≡ 0)
      → EachTarget numbers targets IsNotLost
      → FitsTargets numbers targets number

-- an index that was no position is none still, and another's number fits
abbrev pub IsFilled : List (List ℕ) → List ℕ → List ℕ → Type 0
IsFilled rows old new =
    (i : ℕ) → i < length rows
    → ((slice_index old i ≡ no_position) × (slice_index new i ≡ no_position))
    ⊎ ((slice_index old i ≡ 0) × FitsTargets new (slice_index_or rows i []) (slice_index new i))
