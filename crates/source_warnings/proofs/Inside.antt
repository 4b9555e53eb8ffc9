-- The place of each warning is one of the source.
use Rattle.std.proofs.Common.{ℕ, ◌+◌, ◌≤◌, Bool, true, false, not, ◌&&◌, ◌==◌, List, [], length, if◌then◌else◌, arith, Option, Some, None}
use Rattle.std.specs.Prelude.{All, nat_lt, option_to_list}
use Rattle.std.proofs.lemmas.List.Elements.{All-cons, All-nil}
use Rattle.source_warnings.specs.Games.{after, game_of_tag, has_tag, lacks_fen, next_game, opened, tagged}
use Rattle.source_warnings.specs.Warnings.{IsInside, awaits_first_number, cause_of_second, cause_of_tag, few, is_behind_star, on_end, on_ending, on_item, on_lack, on_move, on_number, on_result, on_tag, on_tag_alone, warning}
use Rattle.source_warnings.specs.declared.causes.Cause.{Cause}
use Rattle.source_warnings.specs.declared.causes.Cause.TheVariants.{LacksFen, SecondResult, StarMove, FirstNumber, LesserNumber, RunsOn, FewPlies, NoGame}
use Rattle.source_warnings.specs.declared.causes.Warning.{Warning}
use Rattle.source_warnings.specs.declared.games.Game.{Game}
use Rattle.source_warnings.specs.declared.items.Kind.{Kind}
use Rattle.source_warnings.specs.declared.items.Kind.TheVariants as kind
use Rattle.source_warnings.specs.declared.tags.TagKind.{TagKind}
use Rattle.source_warnings.specs.declared.tags.TagKind.TheVariants as tags

-- ---- where a game begins

earlier : (c : Bool) (a b n : ℕ) → a ≤ n → b ≤ n → (if c then a else b) ≤ n
earlier true a b n h k = h
earlier false a b n h k = k

one_begins : (c : Bool) (a b : Game) (n : ℕ) → a.begins ≤ n → b.begins ≤ n
    → (if c then a else b).begins ≤ n
one_begins true a b n h k = h
one_begins false a b n h k = k

opened_begins : (game : Game) (at n : ℕ) → game.begins ≤ n → at ≤ n → (opened game at).begins ≤ n
opened_begins game at n h k = earlier game.is_open game.begins at n h k

tag_begins : (game : Game) (n : ℕ) → game.begins ≤ n → (game_of_tag game).begins ≤ n
tag_begins game n h = one_begins (game.plies == 0) game (next_game game false) n h (omega arith)

-- a tag changes no place and no count
tagged_begins : (game : Game) (tag : TagKind) (n : ℕ) → game.begins ≤ n → (tagged game tag).begins ≤ n
tagged_begins game tags.Fen n h = h
tagged_begins game tags.LikeFen n h = h
tagged_begins game tags.GameType n h = h
tagged_begins game tags.OtherGameType n h = h
tagged_begins game tags.LikeGameType n h = h
tagged_begins game tags.SetUp n h = h
tagged_begins game tags.Event n h = h
tagged_begins game tags.Black n h = h
tagged_begins game tags.White n h = h
tagged_begins game tags.Other n h = h

tagged_number : (game : Game) (tag : TagKind) (n : ℕ) → game.number ≤ n → (tagged game tag).number ≤ n
tagged_number game tags.Fen n h = h
tagged_number game tags.LikeFen n h = h
tagged_number game tags.GameType n h = h
tagged_number game tags.OtherGameType n h = h
tagged_number game tags.LikeGameType n h = h
tagged_number game tags.SetUp n h = h
tagged_number game tags.Event n h = h
tagged_number game tags.Black n h = h
tagged_number game tags.White n h = h
tagged_number game tags.Other n h = h

tagged_plies : (game : Game) (tag : TagKind) (n : ℕ) → game.plies ≤ n → (tagged game tag).plies ≤ n
tagged_plies game tags.Fen n h = h
tagged_plies game tags.LikeFen n h = h
tagged_plies game tags.GameType n h = h
tagged_plies game tags.OtherGameType n h = h
tagged_plies game tags.LikeGameType n h = h
tagged_plies game tags.SetUp n h = h
tagged_plies game tags.Event n h = h
tagged_plies game tags.Black n h = h
tagged_plies game tags.White n h = h
tagged_plies game tags.Other n h = h

pub after_begins : (game : Game) (at : ℕ) (k : Kind) (n : ℕ) → game.begins ≤ n → at ≤ n
    → (after game at k).begins ≤ n
after_begins game at kind.Skipped n h l = h
after_begins game at kind.RunsOn n h l = h
after_begins game at (kind.Number number) n h l = h
after_begins game at (kind.Tag tag) n h l =
    tagged_begins (opened (game_of_tag game) at) tag n (opened_begins (game_of_tag game) at n (tag_begins game n h) l)
after_begins game at kind.Move n h l = opened_begins game at n h l
after_begins game at kind.Result n h l = omega arith

-- ---- how its counts grow

counts_by : (c : Bool) (game : Game)
    → ((if c then game else next_game game false).number ≤ game.number + 1)
    × ((if c then game else next_game game false).plies ≤ game.plies)
counts_by true game = (omega arith, omega arith)
counts_by false game = (omega arith, omega arith)

tag_counts : (game : Game) → ((game_of_tag game).number ≤ game.number + 1)
    × ((game_of_tag game).plies ≤ game.plies)
tag_counts game = counts_by (game.plies == 0) game

pub after_number : (game : Game) (at : ℕ) (k : Kind) → (after game at k).number ≤ game.number + 1
after_number game at kind.Skipped = omega arith
after_number game at kind.RunsOn = omega arith
after_number game at (kind.Number number) = omega arith
after_number game at (kind.Tag tag) =
    let p = tag_counts game in tagged_number (opened (game_of_tag game) at) tag (game.number + 1) p.0
after_number game at kind.Move = omega arith
after_number game at kind.Result = omega arith

pub after_plies : (game : Game) (at : ℕ) (k : Kind) → (after game at k).plies ≤ game.plies + 1
after_plies game at kind.Skipped = omega arith
after_plies game at kind.RunsOn = omega arith
after_plies game at (kind.Number number) = omega arith
after_plies game at (kind.Tag tag) =
    let p = tag_counts game in let q = p.1 in tagged_plies (opened (game_of_tag game) at) tag (game.plies + 1) (omega arith)
after_plies game at kind.Move = omega arith
after_plies game at kind.Result = omega arith

-- ---- the warnings on an item

-- the warning, if there is one, is on a byte of the source
abbrev pub InsideIf : List ℕ → Option Warning → Type 0
InsideIf source found = All (IsInside source) (option_to_list found)

either : (source : List ℕ) (c : Bool) (a b : Option Warning) → InsideIf source a → InsideIf source b
    → InsideIf source (if c then a else b)
either source true a b h k = h
either source false a b h k = k

one_inside : (source : List ℕ) (at : ℕ) (cause : Cause) → at ≤ length source
    → InsideIf source (warning at cause)
one_inside source at cause h =
    All-cons (IsInside source) (record { at = at; cause = cause }) [] h (All-nil (IsInside source))

few_inside : (source : List ℕ) (asked : ℕ) (game : Game) → game.begins ≤ length source
    → InsideIf source (few asked game)
few_inside source asked game h =
    either source (nat_lt game.plies asked) (warning game.begins (FewPlies game.number game.plies)) None (one_inside source game.begins (FewPlies game.number game.plies) h) (All-nil (IsInside source))

lack_inside : (source : List ℕ) (game : Game) → game.begins ≤ length source
    → InsideIf source (on_lack game)
lack_inside source game h =
    either source (lacks_fen game) (warning game.begins LacksFen) None (one_inside source game.begins LacksFen h) (All-nil (IsInside source))

no_game_inside : (source : List ℕ) (c : Bool) → InsideIf source (if c then warning 0 NoGame else None)
no_game_inside source c = either source c (warning 0 NoGame) None (one_inside source 0 NoGame (omega arith)) (All-nil (IsInside source))

pub end_inside : (source : List ℕ) (asked at : ℕ) (game : Game) → game.begins ≤ length source
    → InsideIf source (on_end asked game source at)
end_inside source asked at game h =
    let no_game = if game.number == 1 && at == length source then warning 0 NoGame else None in
    either source (lacks_fen game) (on_lack game) (if game.is_open then few asked game else no_game) (lack_inside source game h)
    (either source game.is_open (few asked game) no_game (few_inside source asked game h) (no_game_inside source (game.number == 1 && at == length source)))

pub ending_inside : (source : List ℕ) (asked : ℕ) (game : Game) (at : ℕ) (k : Kind)
    → game.begins ≤ length source → at ≤ length source → InsideIf source (on_ending asked game at k)
ending_inside source asked game at kind.Skipped h l = All-nil (IsInside source)
ending_inside source asked game at kind.RunsOn h l = All-nil (IsInside source)
ending_inside source asked game at (kind.Number number) h l = All-nil (IsInside source)
ending_inside source asked game at (kind.Tag tag) h l =
    either source (game.plies == 0) None (few asked game) (All-nil (IsInside source)) (few_inside source asked game h)
ending_inside source asked game at kind.Move h l = All-nil (IsInside source)
ending_inside source asked game at kind.Result h l =
    either source game.follows_result None (few asked (opened game at)) (All-nil (IsInside source)) (few_inside source asked (opened game at) (opened_begins game at (length source) h l))

alone_inside : (source : List ℕ) (at : ℕ) (cause : Option Cause) → at ≤ length source
    → InsideIf source (on_tag_alone at cause)
alone_inside source at None h = All-nil (IsInside source)
alone_inside source at (Some cause) h = one_inside source at cause h

tag_inside : (source : List ℕ) (game : Game) (at : ℕ) (tag : TagKind) → at ≤ length source
    → InsideIf source (on_tag game at tag)
tag_inside source game at tag h =
    either source (has_tag game tag) (warning at (cause_of_second tag)) (on_tag_alone at (cause_of_tag tag)) (one_inside source at (cause_of_second tag) h) (alone_inside source at (cause_of_tag tag) h)

number_inside : (source : List ℕ) (game : Game) (at number : ℕ) → at ≤ length source
    → InsideIf source (on_number game at number)
number_inside source game at number h =
    let first = if awaits_first_number game && not (number == 1) then warning at FirstNumber else None in
    either source (nat_lt number game.move_number) (warning at LesserNumber) first (one_inside source at LesserNumber h)
    (either source (awaits_first_number game && not (number == 1)) (warning at FirstNumber) None (one_inside source at FirstNumber h) (All-nil (IsInside source)))

pub item_inside : (source : List ℕ) (game : Game) (at : ℕ) (k : Kind) → game.begins ≤ length source
    → at ≤ length source → InsideIf source (on_item game source at k)
item_inside source game at kind.Skipped h l = All-nil (IsInside source)
item_inside source game at kind.RunsOn h l = one_inside source at RunsOn l
item_inside source game at (kind.Number number) h l = number_inside source game at number l
item_inside source game at (kind.Tag tag) h l = tag_inside source (game_of_tag game) at tag l
item_inside source game at kind.Move h l =
    either source (is_behind_star source at) (warning at StarMove) (on_lack game) (one_inside source at StarMove l) (lack_inside source game h)
item_inside source game at kind.Result h l =
    either source game.follows_result (warning at SecondResult) (on_lack game) (one_inside source at SecondResult l) (lack_inside source game h)
