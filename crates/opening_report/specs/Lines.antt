-- The lines of a text. A line end is the byte 10.
use Rattle.std.specs.Prelude.{◌≡◌, ℕ, ◌⊎◌, List, [], ◌∷◌, ◌++◌, Bool, false, not, ◌&&◌, ◌==◌}
use Rattle.shared_words.specs.Bytes.{Lacks}

-- a line: a text without line end, and its line end
abbrev pub IsLine : List ℕ → Type 0
IsLine line = (body : List ℕ) × (Lacks 10 body × (line ≡ body ++ 10 ∷ []))

-- the same as a test
abbrev pub is_line : List ℕ → Bool
is_line [] = false
is_line (x ∷ []) = x == 10
is_line (x ∷ y ∷ rest) = not (x == 10) && is_line (y ∷ rest)

-- nothing, or a text that ends with a line end: what follows it begins a line
abbrev pub EndsLine : List ℕ → Type 0
EndsLine text = (text ≡ []) ⊎ ((front : List ℕ) × (text ≡ front ++ 10 ∷ []))

-- the line stands whole in the text
pub record HasLine (text line : List ℕ) : Type 0 where
  pub before : List ℕ
  pub after : List ℕ
  pub begins : EndsLine before
  pub split : text ≡ before ++ (line ++ after)
