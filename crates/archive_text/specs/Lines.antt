-- Ends of lines, and plain text.
use Rattle.std.specs.Prelude.{ℕ, ◌==◌, ◌||◌, ◌&&◌, Bool, not, nat_le, List, take}
use Rattle.std.specs.List.{position_or_len}

-- LF, and the line ends of Unicode; CR, alone or with LF, is read as LF
abbrev pub is_line_end : ℕ → Bool
is_line_end letter = letter == 10 || letter == 0x85 || letter == 0x2028 || letter == 0x2029

-- a printable character of ASCII that opens and closes nothing: none of `"`, `&`, `(`, `)`, `<`, `[`, `\`, `]`, `{`, `}`
abbrev pub is_plain : ℕ → Bool
is_plain b =
    nat_le 32 b && nat_le b 126 && not
    (b == 34 || b == 38 || b == 40 || b == 41 || b == 60 || b == 91 || b == 92 || b == 93 || b == 123
    || b == 125)

-- the longest run at the front of bytes that pass the test
abbrev pub run_of : (ℕ → Bool) → List ℕ → List ℕ
run_of test text = take (position_or_len (λ b. not (test b)) text) text
