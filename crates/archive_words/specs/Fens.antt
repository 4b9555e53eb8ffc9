-- The texts of positions.
use Rattle.std.specs.Prelude.{ℕ, ◌+◌, Bool, true, false, ◌||◌, ◌&&◌, ◌==◌, not, List, [], ◌∷◌, ◌++◌, count_by, nat_le, if◌then◌else◌}
use Rattle.std.specs.List.{list_all}
use Rattle.std.specs.Char.{is_ascii_digit}

-- a digit, `W`, `B`, `K`, `w`, `b`, `k`, `H`, `F`, `:`, `,`, `-`, `.`, or a blank
abbrev pub is_fen_byte : ℕ → Bool
is_fen_byte b =
    is_ascii_digit b || b == 87 || b == 66 || b == 75 || b == 119 || b == 98 || b == 107
    || b == 72 || b == 70 || b == 58 || b == 44 || b == 45 || b == 46 || b == 32

abbrev pub is_colon : ℕ → Bool
is_colon b = b == 58

-- the bytes of a position alone, and a colon before each of two lists
abbrev pub is_like_fen : List ℕ → Bool
is_like_fen text = nat_le 2 (count_by is_colon text) && list_all is_fen_byte text

-- a blank, a full stop or a quotation mark
abbrev pub is_left_out : ℕ → Bool
is_left_out b = b == 32 || b == 46 || b == 34 || b == 39

-- the letters of sides and kings as capital ones
abbrev pub capital : ℕ → ℕ
capital b = if b == 98 then 66 else if b == 119 then 87 else if b == 107 then 75 else b

-- no blank, full stop or quotation mark, and no small letter of a side or a king
abbrev pub is_clean : ℕ → Bool
is_clean b = not (is_left_out b) && capital b == b

-- behind a blank a comma is wanted between two squares
abbrev pub wants_comma : ℕ → ℕ → Bool
wants_comma last b = is_ascii_digit last && not (b == 44) && not (b == 58) && not (b == 45)

-- a byte as a capital letter, behind a comma if one is wanted
abbrev pub with_comma : Bool → ℕ → List ℕ
with_comma has_comma b = (if has_comma then 44 ∷ [] else []) ++ capital b ∷ []

-- a third colon ends the position; counters stand behind it
abbrev pub ends_before : ℕ → ℕ → Bool
ends_before b colons = b == 58 && colons == 2

abbrev pub colons_with : ℕ → ℕ → ℕ
colons_with b colons = if b == 58 then colons + 1 else colons

-- What is made of the bytes that follow, behind the byte that was taken last, a blank if one stood
-- between, and so many colons.
abbrev pub cleaned_from : ℕ → Bool → ℕ → List ℕ → List ℕ
cleaned_from last behind colons [] = []
cleaned_from last behind colons (b ∷ rest) =
    if is_left_out b then cleaned_from last true colons rest
    else if ends_before b colons then []
    else with_comma (behind && wants_comma last b) b
    ++ cleaned_from b false (colons_with b colons) rest

abbrev pub cleaned : List ℕ → List ℕ
cleaned text = cleaned_from 58 false 0 text
