-- The tags that a draft takes.
use Rattle.std.specs.Prelude.{◌≡◌, ℕ, Bool, true, false, not, All, ◌&&◌, List, map, slice_index, codes, Option, Some, None, if◌then◌else◌}
use Rattle.std.specs.Char.{is_ascii_alphabetic}
use Rattle.std.specs.List.{list_all}
use Rattle.std.specs.Str.{bytes_eq}
use Rattle.pdn_openings.specs.Beginning.{is_english}
use Rattle.pdn_text.specs.Bytes.{is_line_end, is_name_byte}
use Rattle.pdn_text.specs.declared.game.Tag.{Tag}
use Rattle.strict_games.specs.declared.tags.TagRefusal.{TagRefusal}
use Rattle.strict_games.specs.declared.tags.TagRefusal.TheVariants.{Name, SetUp, OtherGame, Memory}

-- a letter followed by letters, digits and `_`
abbrev pub is_name : List ℕ → Bool
is_name name = is_ascii_alphabetic (slice_index name 0) && list_all is_name_byte name

-- why a draft does not take this tag, if it does not
abbrev pub tag_fault : List ℕ → List ℕ → Option TagRefusal
tag_fault name value =
    if not (is_name name) then Some Name
    else if bytes_eq name (codes "FEN") then Some SetUp
    else if bytes_eq name (codes "GameType") && not (is_english value) then Some OtherGame
    else None

-- a value without ends of lines: a blank stands for each
abbrev pub cleaned : List ℕ → List ℕ
cleaned value = map (λ b. if is_line_end b then 32 else b) value

-- a tag that a draft has: it was taken, and its value has no end of a line
pub record IsTaken (tag : Tag) : Type 0 where
  pub taken : tag_fault tag.name tag.value ≡ None
  pub one_line : list_all (λ b. not (is_line_end b)) tag.value ≡ true

abbrev pub AreTaken : List Tag → Type 0
AreTaken tags = All IsTaken tags

-- memory ran out
abbrev pub tag_wants_memory : TagRefusal → Bool
tag_wants_memory (Memory error) = true
tag_wants_memory other = false
