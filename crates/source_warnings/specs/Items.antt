-- What an item of a source says. `pdn_text` says which items a source has.
use Rattle.std.specs.Prelude.{ℕ, ◌+◌, ◌-◌, ◌*◌, min, nat_le, Bool, true, false, not, ◌&&◌, ◌||◌, ◌==◌, List, [], ◌∷◌, take, drop, map, slice_index, if◌then◌else◌, Option, Some, None, codes}
use Rattle.std.specs.List.{starts_with}
use Rattle.std.specs.Char.{to_ascii_lowercase}
use Rattle.std.specs.Str.{bytes_eq}
use Rattle.pdn_text.specs.declared.items.Item.{Item}
use Rattle.pdn_text.specs.declared.items.Sign.{Sign}
use Rattle.pdn_text.specs.declared.items.Sign.TheVariants.{Tagged, Moved, Ended}
use Rattle.source_warnings.specs.declared.items.Kind.{Kind}
use Rattle.source_warnings.specs.declared.items.Kind.TheVariants as kind
use Rattle.source_warnings.specs.declared.items.TheConstants.{MOST_NUMBER}
use Rattle.source_warnings.specs.declared.tags.TagKind.{TagKind}
use Rattle.source_warnings.specs.declared.tags.TagKind.TheVariants as tags

-- the bytes with small letters in place of capital ones
abbrev pub in_small_letters : List ℕ → List ℕ
in_small_letters bytes = map to_ascii_lowercase bytes

-- The value of a tag `GameType` names no other side, board or game than that of English draughts.
abbrev pub names_no_other_game : List ℕ → Bool
names_no_other_game value =
    not (starts_with ◌==◌ value (codes "21,")) || bytes_eq value (codes "21,B")
    || bytes_eq value (codes "21,B,8") || bytes_eq value (codes "21,B,8,8")
    || starts_with ◌==◌ value (codes "21,B,8,8,")

abbrev pub game_type_kind : List ℕ → TagKind
game_type_kind value = if names_no_other_game value then tags.GameType else tags.OtherGameType

abbrev pub set_up_kind : List ℕ → TagKind
set_up_kind value = if bytes_eq value (codes "1") then tags.SetUp else tags.Other

-- what a tag of this name and value means: names are compared letter for letter
abbrev pub tag_kind : List ℕ → List ℕ → TagKind
tag_kind name value =
    if bytes_eq name (codes "FEN") then tags.Fen
    else if bytes_eq (in_small_letters name) (codes "fen") then tags.LikeFen
    else if bytes_eq name (codes "GameType") then game_type_kind value
    else if bytes_eq (in_small_letters name) (codes "gametype") then tags.LikeGameType
    else if bytes_eq name (codes "SetUp") then set_up_kind value
    else if bytes_eq name (codes "Event") then tags.Event
    else if bytes_eq name (codes "Black") then tags.Black
    else if bytes_eq name (codes "White") then tags.White
    else tags.Other

-- The line goes on behind a byte 13 alone: behind a byte 13 stands another byte than 13. `behind` says
-- whether a byte 13 stands straight before the line.
abbrev pub runs_on : Bool → List ℕ → Bool
runs_on behind [] = false
runs_on behind (b ∷ line) = if behind && not (b == 13) then true else runs_on (b == 13) line

-- An item is a comment up to the end of the line where it begins with `;` or `%`.
abbrev pub is_line_comment : List ℕ → Bool
is_line_comment bytes = slice_index bytes 0 == 59 || slice_index bytes 0 == 37

abbrev pub begins_with_digit : List ℕ → Bool
begins_with_digit bytes = nat_le 48 (slice_index bytes 0) && nat_le (slice_index bytes 0) 57

-- the number of these digits behind others, as far as numbers of moves are told apart
abbrev pub number_of : ℕ → List ℕ → ℕ
number_of number [] = number
number_of number (b ∷ digits) = number_of (10 * min number MOST_NUMBER + (b - 48)) digits

-- an item of these bytes that begins and ends no game; one that begins with a digit is a number
abbrev pub skipped_kind : List ℕ → Kind
skipped_kind bytes =
    if is_line_comment bytes && runs_on false bytes then kind.RunsOn
    else if begins_with_digit bytes then kind.Number (number_of 0 bytes)
    else kind.Skipped

-- an item of these bytes that says this
abbrev pub sign_kind : List ℕ → Option Sign → Kind
sign_kind bytes None = skipped_kind bytes
sign_kind bytes (Some (Tagged tag)) = kind.Tag (tag_kind tag.name tag.value)
sign_kind bytes (Some (Moved text)) = kind.Move
sign_kind bytes (Some Ended) = kind.Result

-- the item at a place of a source
abbrev pub kind_of : List ℕ → ℕ → Item → Kind
kind_of source at item = sign_kind (take (item.end - at) (drop at source)) item.sign
