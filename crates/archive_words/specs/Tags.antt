-- The texts of tags.
use Rattle.std.specs.Prelude.{ℕ, ◌-◌, Bool, true, false, ◌||◌, ◌&&◌, ◌==◌, not, nat_le, List, [], ◌∷◌, codes, length, take, drop, reverse, slice_index, Option, Some, None, if◌then◌else◌}
use Rattle.std.specs.Char.{is_ascii_alphabetic, is_ascii_alphanumeric, is_ascii_digit}
use Rattle.std.specs.List.{list_all, position_or_len}
use Rattle.std.specs.Str.{str_eq_ignore_ascii_case}
use Rattle.archive_words.specs.declared.tags.TagName.{TagName}
use Rattle.archive_words.specs.declared.tags.TagName.TheVariants as name
use Rattle.archive_words.specs.declared.tags.GameKind.{GameKind}
use Rattle.archive_words.specs.declared.tags.GameKind.TheVariants as kind

-- a byte of a name; the bytes of letters beside A to Z are from 128 on
abbrev pub is_name_byte : ℕ → Bool
is_name_byte b = is_ascii_alphanumeric b || b == 95 || nat_le 128 b

-- no blank
abbrev pub is_ink : ℕ → Bool
is_ink b = nat_le 33 b

abbrev pub behind_blanks : List ℕ → List ℕ
behind_blanks text = drop (position_or_len is_ink text) text

-- how many bytes stand before the blanks at the end
abbrev pub inked_len : List ℕ → ℕ
inked_len text = length text - position_or_len is_ink (reverse text)

abbrev pub before_blanks : List ℕ → List ℕ
before_blanks text = take (inked_len text) text

-- how many bytes of a name stand at the front
abbrev pub name_len : List ℕ → ℕ
name_len text = position_or_len (λ b. not (is_name_byte b)) text

abbrev pub begins_with : ℕ → List ℕ → Bool
begins_with b text = nat_le 1 (length text) && slice_index text 0 == b

abbrev pub ends_with : ℕ → List ℕ → Bool
ends_with b text = nat_le 1 (length text) && slice_index text (length text - 1) == b

-- this byte stands at the front, and again at the end
abbrev pub is_between : ℕ → List ℕ → Bool
is_between b text = nat_le 2 (length text) && begins_with b text && ends_with b text

-- without its first and its last byte
abbrev pub inner : List ℕ → List ℕ
inner text = take (length text - 2) (drop 1 text)

-- The value, and whether quotation marks stand around it. A mark may be missing at one side.
abbrev pub unquoted : List ℕ → List ℕ × Bool
unquoted text =
    if is_between 34 text then (inner text, true)
    else if begins_with 34 text then (drop 1 text, false)
    else if ends_with 34 text then (take (length text - 1) text, false)
    else if is_between 39 text then (inner text, false)
    else (text, false)

-- a colon or `=` and the blanks behind it are left out
abbrev pub behind_sign : List ℕ → List ℕ
behind_sign text =
    if begins_with 58 text || begins_with 61 text then behind_blanks (drop 1 text) else text

-- the value that stands behind a name
abbrev pub value_behind : List ℕ → List ℕ × Bool
value_behind rest = unquoted (before_blanks (behind_sign (behind_blanks rest)))

-- the name at the front, and the value behind it; none where no name stands there
abbrev pub tag_at : List ℕ → Option (List ℕ × (List ℕ × Bool))
tag_at text =
    if name_len text == 0 || is_ascii_digit (slice_index text 0) then None
    else Some (take (name_len text) text, value_behind (drop (name_len text) text))

-- the name, the value and whether quotation marks stand around it
abbrev pub tag_of : List ℕ → Option (List ℕ × (List ℕ × Bool))
tag_of text = tag_at (behind_blanks text)

-- a letter A to Z, a digit, or `_`
abbrev pub is_strict_byte : ℕ → Bool
is_strict_byte b = is_ascii_alphanumeric b || b == 95

-- a letter A to Z, and then letters, digits and `_`
abbrev pub is_strict_name : List ℕ → Bool
is_strict_name name = is_ascii_alphabetic (slice_index name 0) && list_all is_strict_byte name

-- capital and small letters are the same
abbrev pub is_word : List ℕ → List ℕ → Bool
is_word text word = str_eq_ignore_ascii_case text word

abbrev pub tag_name : List ℕ → TagName
tag_name text =
    if is_word text (codes "Event") then name.Event
    else if is_word text (codes "FEN") then name.Fen
    else if is_word text (codes "Position") then name.Position
    else if is_word text (codes "SetUp") then name.SetUp
    else if is_word text (codes "GameType") then name.GameType
    else if is_word text (codes "Variant") then name.Variant
    else if is_word text (codes "Result") then name.Result
    else name.Other

-- The bytes that follow, without escapes: a `\` is left out, and the byte behind it stays. The first
-- of them may be the byte behind one.
abbrev pub unescaped_from : Bool → List ℕ → List ℕ
unescaped_from behind [] = []
unescaped_from true (b ∷ rest) = b ∷ unescaped_from false rest
unescaped_from false (b ∷ rest) =
    if b == 92 then unescaped_from true rest else b ∷ unescaped_from false rest

abbrev pub unescaped : List ℕ → List ℕ
unescaped value = unescaped_from false value

-- the letters and digits at the front
abbrev pub first_word : List ℕ → List ℕ
first_word value = take (position_or_len (λ b. not (is_ascii_alphanumeric b)) value) value

abbrev pub is_english : List ℕ → Bool
is_english word =
    is_word word (codes "21") || is_word word (codes "English") || is_word word (codes "American")
    || is_word word (codes "Anglo") || is_word word (codes "Checkers")

abbrev pub is_continental : List ℕ → Bool
is_continental word =
    is_word word (codes "Russian") || is_word word (codes "International")
    || is_word word (codes "Polish") || is_word word (codes "Italian")

abbrev pub is_southern : List ℕ → Bool
is_southern word =
    is_word word (codes "Brazilian") || is_word word (codes "Pool")
    || is_word word (codes "Spanish") || is_word word (codes "Turkish")

abbrev pub is_rarer : List ℕ → Bool
is_rarer word =
    is_word word (codes "Frisian") || is_word word (codes "Canadian") || is_word word (codes "Czech")
    || is_word word (codes "Suicide") || is_word word (codes "Losing")

-- a number
abbrev pub is_number : List ℕ → Bool
is_number word = nat_le 1 (length word) && list_all is_ascii_digit word

-- English draughts by its number or a word for it; other games by other numbers or by their names
abbrev pub kind_named : List ℕ → GameKind
kind_named word =
    if is_english word then kind.English
    else if is_number word || is_continental word || is_southern word || is_rarer word
    then kind.Other
    else kind.Unknown

abbrev pub game_kind : List ℕ → GameKind
game_kind value = kind_named (first_word value)
