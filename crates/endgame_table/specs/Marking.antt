-- Marking indices: those that are undecided get a number, each once.
use Rattle.std.specs.Prelude.{◌≡◌, ℕ, ◌-◌, ◌==◌, Bool, ◌&&◌, List, [], ◌∷◌, ◌++◌, count_by, slice_index, slice_set, if◌then◌else◌}

-- 1 where the test passes, and else 0
abbrev pub one_if : Bool → ℕ
one_if b = (if b then 1 else 0)

-- how often the index stands in the list
abbrev pub times : ℕ → List ℕ → ℕ
times i xs = count_by (λ x. x == i) xs

-- ---- each of the indices

-- the numbers where each undecided one of these indices gets this number
unfoldable pub marked : ℕ → List ℕ → List ℕ → List ℕ
marked number [] numbers = numbers
marked number (i ∷ rest) numbers =
    marked number rest (if slice_index numbers i == 0 then slice_set numbers i number else numbers)

-- the indices that get it
unfoldable pub newly : ℕ → List ℕ → List ℕ → List ℕ
newly number [] numbers = []
newly number (i ∷ rest) numbers =
    (if slice_index numbers i == 0 then i ∷ newly number rest (slice_set numbers i number)
    else newly number rest numbers)

-- the numbers before and after, and the indices found before and after
pub record Marks (number : ℕ) (touched old new found more : List ℕ) : Type 0 where
  pub numbers_are : new ≡ marked number touched old
  pub found_are : more ≡ found ++ newly number touched old

-- ---- those whose last target it was

-- the index waits for one target less
abbrev pub lower : List ℕ → ℕ → List ℕ
lower waiting i = slice_set waiting i (slice_index waiting i - 1)

-- each of the indices does
unfoldable pub lowered : List ℕ → List ℕ → List ℕ
lowered [] waiting = waiting
lowered (i ∷ rest) waiting = lowered rest (lower waiting i)

-- the numbers where each undecided one that waits for no target any more gets this number
unfoldable pub marked_last : ℕ → List ℕ → List ℕ → List ℕ → List ℕ
marked_last number [] waiting numbers = numbers
marked_last number (i ∷ rest) waiting numbers =
    marked_last number rest (lower waiting i)
    (if slice_index waiting i - 1 == 0 && slice_index numbers i == 0 then slice_set numbers i number
    else numbers)

-- the indices that get it
unfoldable pub newly_last : ℕ → List ℕ → List ℕ → List ℕ → List ℕ
newly_last number [] waiting numbers = []
newly_last number (i ∷ rest) waiting numbers =
    (if slice_index waiting i - 1 == 0 && slice_index numbers i == 0
    then i ∷ newly_last number rest (lower waiting i) (slice_set numbers i number)
    else newly_last number rest (lower waiting i) numbers)

pub record MarksLast (number : ℕ) (touched waiting less old new found more : List ℕ) : Type 0 where
  pub waiting_are : less ≡ lowered touched waiting
  pub numbers_are : new ≡ marked_last number touched waiting old
  pub found_are : more ≡ found ++ newly_last number touched waiting old
