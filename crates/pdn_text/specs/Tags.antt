-- Tags: `[`, blanks, a name, at least one blank, `"`, a value, `"`, blanks, `]`.
use Rattle.std.specs.Prelude.{◌≡◌, ◌≢◌, ◌<◌, ℕ, true, false, List, [], ◌∷◌, ◌++◌, length, map, flat_map}
use Rattle.std.specs.List.{list_all}
use Rattle.pdn_text.specs.Bytes.{is_name_byte, is_blank, is_line_end}
use Rattle.std.specs.Char.{is_ascii_alphabetic}
use Rattle.pdn_text.specs.declared.game.Tag.{Tag}

-- a byte of a value as it is written: the byte itself, or `\` and the byte
pub data Written : Type 0 where
  Plain : ℕ → Written
  Escaped : ℕ → Written

abbrev pub byte_of : Written → ℕ
byte_of (Plain b) = b
byte_of (Escaped b) = b

abbrev pub as_written : Written → List ℕ
as_written (Plain b) = b ∷ []
as_written (Escaped b) = 92 ∷ b ∷ []

-- a plain byte is no `"`, `\`, 10 or 13; an escaped one no 10 or 13
abbrev pub IsWritten : Written → Type 0
IsWritten (Plain b) = (b ≢ 34) × (b ≢ 92) × (is_line_end b ≡ false)
IsWritten (Escaped b) = is_line_end b ≡ false

abbrev pub AreWritten : List Written → Type 0
AreWritten [] = Unit {0}
AreWritten (w ∷ ws) = IsWritten w × AreWritten ws

-- a letter followed by letters, digits and `_`
abbrev pub IsName : List ℕ → Type 0
IsName [] = ⊥
IsName (b ∷ more) = (is_ascii_alphabetic b ≡ true) × (list_all is_name_byte more ≡ true)

-- the text begins with this tag, and this stands behind it
pub record BeginsWithTag (text : List ℕ) (tag : Tag) (behind : List ℕ) : Type 0 where
  pub before : List ℕ
  pub between : List ℕ
  pub value : List Written
  pub after : List ℕ
  pub blanks_before : list_all is_blank before ≡ true
  pub name : IsName tag.name
  pub blanks_between : list_all is_blank between ≡ true
  pub some_between : 0 < length between
  pub written : AreWritten value
  pub value_of_tag : tag.value ≡ map byte_of value
  pub blanks_after : list_all is_blank after ≡ true
  pub whole : text
      ≡ 91 ∷ before ++ tag.name ++ between ++ 34 ∷ flat_map as_written value ++ 34 ∷ after ++ 93
      ∷ behind
