-- Kinds of signs among moves, by their numbers in Unicode.
use Rattle.std.specs.Prelude.{ℕ, Bool, ◌||◌, ◌&&◌, ◌==◌, not, nat_le, nat_lt}
use Rattle.std.specs.Char.{is_ascii_alphabetic}

-- `x`, `X`, and the two letters of Cyrillic that look so
abbrev pub is_cross : ℕ → Bool
is_cross letter = letter == 120 || letter == 88 || letter == 0x445 || letter == 0x425

-- A to Z and a to z, and the letters of other alphabets up to 0x1fff; `×` and `÷` are none
abbrev pub is_letter : ℕ → Bool
is_letter letter =
    is_ascii_alphabetic letter
    || (nat_le 0xc0 letter && nat_lt letter 0x2000 && not (letter == 0xd7) && not (letter == 0xf7))

-- `$`, `+`, `=`, `±`, `∓`, `⩲`, `⩱`, `~`, `#`, `^`, `∞`, `%`, `□` and `■`
abbrev pub is_judgement : ℕ → Bool
is_judgement letter =
    letter == 36 || letter == 43 || letter == 61 || letter == 0xb1 || letter == 0x2213
    || letter == 0x2a72 || letter == 0x2a71 || letter == 126 || letter == 35 || letter == 94
    || letter == 0x221e || letter == 37 || letter == 0x25a1 || letter == 0x25a0

-- a blank, and `!`, `?`, `,`, `"`, `'`, `>`, `|` and `_`
abbrev pub is_silent : ℕ → Bool
is_silent letter =
    letter == 32 || letter == 33 || letter == 63 || letter == 44 || letter == 34 || letter == 39
    || letter == 62 || letter == 124 || letter == 95
