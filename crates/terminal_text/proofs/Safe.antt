-- What a terminal is given is safe, whatever the text.
use Rattle.std.proofs.Common.{◌≡◌, ℕ, ◌+◌, ◌/◌, ◌%◌, ◌≤◌, ◌⊎◌, inl, inr, List, [], ◌∷◌, ◌++◌, Bool, true, false, ◌==◌, if◌then◌else◌, refl, arith}
use Rattle.std.specs.Prelude.{All, nat_le}
use Rattle.std.proofs.lemmas.List.Elements.{All-append, All-cons, All-nil}
use Rattle.terminal_text.specs.Shown.{IsShown, escape, hex_digit, is_printable, quoted_byte, shown, shown_byte}

digit_shown : (n : ℕ) → IsShown (hex_digit n)
digit_shown n = grind arith

escape_shown : (b : ℕ) → All IsShown (escape b)
escape_shown b =
    All-cons IsShown 92 (120 ∷ hex_digit (b / 16) ∷ hex_digit (b % 16) ∷ []) (inl (omega arith, omega arith))
    (All-cons IsShown 120 (hex_digit (b / 16) ∷ hex_digit (b % 16) ∷ []) (inl (omega arith, omega arith))
    (All-cons IsShown (hex_digit (b / 16)) (hex_digit (b % 16) ∷ []) (digit_shown (b / 16))
    (All-cons IsShown (hex_digit (b % 16)) [] (digit_shown (b % 16)) (All-nil IsShown))))

printable_shown : (b : ℕ) → is_printable b ≡ true → IsShown b
printable_shown b e = grind arith

quoted_by : (b : ℕ) (c : Bool) → (c ≡ true → IsShown b) → All IsShown (if c then b ∷ [] else escape b)
quoted_by b true h = All-cons IsShown b [] (h refl) (All-nil IsShown)
quoted_by b false h = escape_shown b

quoted_shown : (b : ℕ) → All IsShown (quoted_byte b)
quoted_shown b = quoted_by b (is_printable b) (printable_shown b)

shown_by : (b : ℕ) (c : Bool) → All IsShown (if c then 10 ∷ [] else quoted_byte b)
shown_by b true = All-cons IsShown 10 [] (inr refl) (All-nil IsShown)
shown_by b false = quoted_shown b

pub shown_safe : (text : List ℕ) → All IsShown (shown text)
shown_safe [] = All-nil IsShown
shown_safe (b ∷ text) = All-append IsShown (shown_byte b) (shown text) (shown_by b (b == 10)) (shown_safe text)
