-- Variations: text in parentheses, in which comments and further variations stand whole.
use Rattle.std.specs.Prelude.{◌≡◌, ◌≢◌, ℕ, ◌==◌, true, not, List, [], ◌∷◌, ◌++◌, length}
use Rattle.std.specs.List.{list_all}

-- What stands inside a variation, from its front: nothing; or something, and behind it one more
-- byte, comment or variation.
pub data Inside : Type 0 where
  Empty : Inside
  Byte : Inside → ℕ → Inside
  Comment : Inside → List ℕ → Inside
  Nested : Inside → Inside → Inside

-- A comment is `{`, its body and `}`. A variation is `(`, its inside and `)`.
abbrev pub spelled : Inside → List ℕ
spelled Empty = []
spelled (Byte before b) = spelled before ++ b ∷ []
spelled (Comment before body) = spelled before ++ 123 ∷ body ++ 125 ∷ []
spelled (Nested before inside) = spelled before ++ 40 ∷ spelled inside ++ 41 ∷ []

-- a byte that stands for itself there: no `{`, `(` or `)`
abbrev pub IsPlainByte : ℕ → Type 0
IsPlainByte b = (b ≢ 123) × (b ≢ 40) × (b ≢ 41)

-- comments do not nest: a comment's body has no `}`
abbrev pub IsBody : List ℕ → Type 0
IsBody body = list_all (λ b. not (b == 125)) body ≡ true

abbrev pub IsInside : Inside → Type 0
IsInside Empty = Unit {0}
IsInside (Byte before b) = IsInside before × IsPlainByte b
IsInside (Comment before body) = IsInside before × IsBody body
IsInside (Nested before inside) = IsInside before × IsInside inside

-- the whole variation
abbrev pub variation : Inside → List ℕ
variation inside = 40 ∷ spelled inside ++ 41 ∷ []

-- Variations that have begun and not ended, the innermost first: each is a `(` and what stands in
-- it so far, and stands inside the next.
abbrev pub begun : List Inside → List ℕ
begun [] = []
begun (inside ∷ outer) = begun outer ++ 40 ∷ spelled inside

abbrev pub AreInsides : List Inside → Type 0
AreInsides [] = Unit {0}
AreInsides (inside ∷ outer) = IsInside inside × AreInsides outer

-- the text is variations that are never closed, at least one, while each comment in them is
pub record NeverClosed (text : List ℕ) : Type 0 where
  pub inner : Inside
  pub outer : List Inside
  pub insides : AreInsides (inner ∷ outer)
  pub whole : text ≡ begun (inner ∷ outer)

-- the text is variations that have begun, at least one, up to `place`, and there a `{` that is
-- never closed
pub record HoldsOpenComment (text : List ℕ) (place : ℕ) : Type 0 where
  pub inner : Inside
  pub outer : List Inside
  pub body : List ℕ
  pub insides : AreInsides (inner ∷ outer)
  pub open_body : IsBody body
  pub whole : text ≡ begun (inner ∷ outer) ++ 123 ∷ body
  pub there : place ≡ length (begun (inner ∷ outer))
