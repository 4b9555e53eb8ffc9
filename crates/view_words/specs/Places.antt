-- What is read at the front of words.
use Rattle.std.specs.Prelude.{◌≡◌, ◌≢◌, ℕ, ◌≤◌, List, ◌∷◌, Option, Some, None, decimal, drop}

-- no number within these limits stands in front
abbrev pub HasNoNumber : ℕ → ℕ → List (List ℕ) → Type 0
HasNoNumber least most words =
    (n : ℕ) → least ≤ n → n ≤ most → (rest : List (List ℕ)) → words ≢ decimal n ∷ rest

-- this number stands in front, or (none) no number within the limits does
abbrev pub ReadsNumber : ℕ → ℕ → List (List ℕ) → Option ℕ → Type 0
ReadsNumber least most words None = HasNoNumber least most words
ReadsNumber least most words (Some n) =
    (least ≤ n) × ((n ≤ most) × (words ≡ decimal n ∷ drop 1 words))

-- the option stands in front with this number, or (none) does not stand there
abbrev pub ReadsOption : List ℕ → ℕ → List (List ℕ) → Option ℕ → Type 0
ReadsOption name most words None = (rest : List (List ℕ)) → words ≢ name ∷ rest
ReadsOption name most words (Some n) = (n ≤ most) × (words ≡ name ∷ decimal n ∷ drop 2 words)

-- the option stands in front, without a number within its limit
abbrev pub LacksNumber : List ℕ → ℕ → List (List ℕ) → Type 0
LacksNumber name most words =
    (words ≡ name ∷ drop 1 words) × HasNoNumber 0 most (drop 1 words)
