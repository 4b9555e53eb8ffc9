-- The bytes of PDN, as their codes.
use Rattle.std.specs.Char.{is_ascii_digit, is_ascii_alphabetic}
use Rattle.std.specs.Prelude.{ℕ, Bool, ◌||◌, ◌==◌}

-- a byte of a word: a digit, `-`, `x` or `/`
abbrev pub is_word_byte : ℕ → Bool
is_word_byte b = is_ascii_digit b || b == 45 || b == 120 || b == 47

-- a blank inside a tag: space or tab
abbrev pub is_blank : ℕ → Bool
is_blank b = b == 32 || b == 9

-- a byte that is skipped between items: a blank, the bytes 13 and 10, `.`, `!` and `?`
abbrev pub is_skipped : ℕ → Bool
is_skipped b = b == 32 || b == 9 || b == 13 || b == 10 || b == 46 || b == 33 || b == 63

-- a byte of a tag's name: a letter, a digit or `_`
abbrev pub is_name_byte : ℕ → Bool
is_name_byte b = is_ascii_alphabetic b || is_ascii_digit b || b == 95

-- the bytes 10 and 13
abbrev pub is_line_end : ℕ → Bool
is_line_end b = b == 10 || b == 13
