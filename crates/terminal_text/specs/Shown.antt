-- What of a text a terminal is given: printable ASCII and line ends, and nothing that could steer it.
use Rattle.std.specs.Prelude.{◌≡◌, ◌⊎◌, ℕ, ◌+◌, ◌/◌, ◌%◌, ◌≤◌, List, [], ◌∷◌, Bool, ◌&&◌, ◌==◌, nat_le, if◌then◌else◌}
use Rattle.std.specs.List.{flat_map}

-- a byte that a terminal shows as one sign or as a blank
abbrev pub is_printable : ℕ → Bool
is_printable b = nat_le 32 b && nat_le b 126

-- a byte that a terminal may be given
abbrev pub IsShown : ℕ → Type 0
IsShown b = ((32 ≤ b) × (b ≤ 126)) ⊎ (b ≡ 10)

-- a digit to base 16, in capital letters; `?` where there is none
abbrev pub hex_digit : ℕ → ℕ
hex_digit n = if nat_le n 9 then 48 + n else (if nat_le n 15 then 55 + n else 63)

-- `\x` and two digits to base 16
abbrev pub escape : ℕ → List ℕ
escape b = 92 ∷ 120 ∷ hex_digit (b / 16) ∷ hex_digit (b % 16) ∷ []

-- a byte of a source, as it is shown: itself where it is printable, else escaped
abbrev pub quoted_byte : ℕ → List ℕ
quoted_byte b = if is_printable b then b ∷ [] else escape b

-- bytes of a source, as they are shown
abbrev pub quoted : List ℕ → List ℕ
quoted bytes = flat_map quoted_byte bytes

-- a byte of a text, as a terminal is given it: a line end is one
abbrev pub shown_byte : ℕ → List ℕ
shown_byte b = if b == 10 then 10 ∷ [] else quoted_byte b

-- a text, as a terminal is given it
abbrev pub shown : List ℕ → List ℕ
shown text = flat_map shown_byte text
