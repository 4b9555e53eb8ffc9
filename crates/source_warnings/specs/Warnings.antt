-- The warnings on a source: exactly these, in this order.
use Rattle.std.specs.Prelude.{◌≡◌, ◌≤◌, ℕ, ◌-◌, Bool, not, ◌&&◌, ◌==◌, nat_lt, List, [], ◌∷◌, ◌++◌, length, take, slice_index, if◌then◌else◌, Option, Some, None, option_to_list}
use Rattle.pdn_text.specs.Grammar.{IsStop}
use Rattle.pdn_text.specs.Pdn.{AreItemsOfText, beginning}
use Rattle.pdn_text.specs.declared.items.Item.{Item}
use Rattle.source_warnings.specs.Games.{after, first_game, game_of_tag, has_tag, lacks_fen, opened}
use Rattle.source_warnings.specs.Items.{kind_of}
use Rattle.source_warnings.specs.declared.causes.Cause.{Cause}
use Rattle.source_warnings.specs.declared.causes.Cause.TheVariants.{LikeFen, LikeGameType, OtherGameType, SecondFen, SecondTag, LacksFen, SecondResult, StarMove, FirstNumber, LesserNumber, RunsOn, FewPlies, NoGame}
use Rattle.source_warnings.specs.declared.causes.Warning.{Warning}
use Rattle.source_warnings.specs.declared.found.Found.{Found}
use Rattle.source_warnings.specs.declared.found.TheConstants.{MOST_TOLD}
use Rattle.source_warnings.specs.declared.games.Game.{Game}
use Rattle.source_warnings.specs.declared.items.Kind.{Kind}
use Rattle.source_warnings.specs.declared.items.Kind.TheVariants as kind
use Rattle.source_warnings.specs.declared.tags.TagKind.{TagKind}
use Rattle.source_warnings.specs.declared.tags.TagKind.TheVariants as tags

-- one warning
abbrev pub warning : ℕ → Cause → Option Warning
warning at cause = Some (record { at = at; cause = cause })

-- on a game that ends: it has fewer moves than were asked
abbrev pub few : ℕ → Game → Option Warning
few asked game =
    if nat_lt game.plies asked then warning game.begins (FewPlies game.number game.plies) else None

-- on the game that ends with the item at a place: before a tag that follows a move, or with a result
abbrev pub on_ending : ℕ → Game → ℕ → Kind → Option Warning
on_ending asked game at kind.Skipped = None
on_ending asked game at kind.RunsOn = None
on_ending asked game at (kind.Number number) = None
on_ending asked game at (kind.Tag tag) = if game.plies == 0 then None else few asked game
on_ending asked game at kind.Move = None
on_ending asked game at kind.Result =
    if game.follows_result then None else few asked (opened game at)

-- why a tag of this meaning is read otherwise than it may be meant, if it is, in any game
abbrev pub cause_of_tag : TagKind → Option Cause
cause_of_tag tags.Fen = None
cause_of_tag tags.LikeFen = Some LikeFen
cause_of_tag tags.GameType = None
cause_of_tag tags.OtherGameType = Some OtherGameType
cause_of_tag tags.LikeGameType = Some LikeGameType
cause_of_tag tags.SetUp = None
cause_of_tag tags.Event = None
cause_of_tag tags.Black = None
cause_of_tag tags.White = None
cause_of_tag tags.Other = None

-- why a tag of this meaning that is not the first one of its game is told
abbrev pub cause_of_second : TagKind → Cause
cause_of_second tags.Fen = SecondFen
cause_of_second _ = SecondTag

abbrev pub on_tag_alone : ℕ → Option Cause → Option Warning
on_tag_alone at None = None
on_tag_alone at (Some cause) = warning at cause

-- on a tag of this game: it is not the first of its name, or is read otherwise in any game
abbrev pub on_tag : Game → ℕ → TagKind → Option Warning
on_tag game at tag =
    if has_tag game tag then warning at (cause_of_second tag) else on_tag_alone at (cause_of_tag tag)

-- It would be the first number of a game that begins from the start.
abbrev pub awaits_first_number : Game → Bool
awaits_first_number game = game.move_number == 0 && game.plies == 0 && not game.has_position

-- on the number of a move of this game
abbrev pub on_number : Game → ℕ → ℕ → Option Warning
on_number game at number =
    if nat_lt number game.move_number then warning at LesserNumber
    else if awaits_first_number game && not (number == 1) then warning at FirstNumber
    else None

-- on a game that lacks its position
abbrev pub on_lack : Game → Option Warning
on_lack game = if lacks_fen game then warning game.begins LacksFen else None

-- A star stands straight before a place.
abbrev pub is_behind_star : List ℕ → ℕ → Bool
is_behind_star source at = nat_lt 0 at && slice_index source (at - 1) == 42

abbrev pub on_move : Game → List ℕ → ℕ → Option Warning
on_move game source at = if is_behind_star source at then warning at StarMove else on_lack game

abbrev pub on_result : Game → ℕ → Option Warning
on_result game at = if game.follows_result then warning at SecondResult else on_lack game

-- on the item at a place, behind this game
abbrev pub on_item : Game → List ℕ → ℕ → Kind → Option Warning
on_item game source at kind.Skipped = None
on_item game source at kind.RunsOn = warning at RunsOn
on_item game source at (kind.Number number) = on_number game at number
on_item game source at (kind.Tag tag) = on_tag (game_of_tag game) at tag
on_item game source at kind.Move = on_move game source at
on_item game source at kind.Result = on_result game at

-- where the items end at a place, on the game that is read there, or on a source without any
abbrev pub on_end : ℕ → Game → List ℕ → ℕ → Option Warning
on_end asked game source at =
    if lacks_fen game then on_lack game
    else if game.is_open then few asked game
    else if game.number == 1 && at == length source then warning 0 NoGame
    else None

-- On items that stand from a place on, behind this game: on each, and at the end.
abbrev pub on_items : ℕ → List ℕ → Game → ℕ → List Item → List Warning
on_items asked source game at [] = option_to_list (on_end asked game source at)
on_items asked source game at (item ∷ items) =
    let k = kind_of source at item in
    option_to_list (on_ending asked game at k) ++ (option_to_list (on_item game source at k)
    ++ on_items asked source (after game at k) item.end items)

-- On a source: on its items, as `pdn_text` reads them, up to the first place where none stands.
pub record AreWarnings (source : List ℕ) (asked : ℕ) (all : List Warning) : Type 0 where
  pub items : List Item
  pub place : ℕ
  pub are_items : AreItemsOfText source (beginning source) items place
  pub stop : IsStop source place
  pub are_all : all ≡ on_items asked source first_game (beginning source) items

-- the first of these warnings, and how many more there are
abbrev pub IsKept : Found → List Warning → Type 0
IsKept found all = (found.told.items ≡ take MOST_TOLD all) × (found.more ≡ length all - MOST_TOLD)

-- the first of the warnings on a source, and how many more there are
abbrev pub AreFound : List ℕ → ℕ → Found → Type 0
AreFound source asked found =
    (all : List Warning) × AreWarnings source asked all × IsKept found all

-- the warning is on a byte of the source
abbrev pub IsInside : List ℕ → Warning → Type 0
IsInside source w = w.at ≤ length source
