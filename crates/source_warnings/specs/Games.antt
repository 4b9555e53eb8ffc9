-- The game that is read, and what becomes of it with each item.
use Rattle.std.specs.Prelude.{ℕ, ◌+◌, Bool, true, false, not, ◌&&◌, ◌==◌, if◌then◌else◌}
use Rattle.source_warnings.specs.declared.games.Game.{Game}
use Rattle.source_warnings.specs.declared.items.Kind.{Kind}
use Rattle.source_warnings.specs.declared.items.Kind.TheVariants as kind
use Rattle.source_warnings.specs.declared.tags.TagKind.{TagKind}
use Rattle.source_warnings.specs.declared.tags.TagKind.TheVariants as tags

-- a game of this number, before it begins; `ended` says whether a result has ended the one before
abbrev pub unbegun : ℕ → Bool → Game
unbegun number ended =
    record {
      number = number;
      begins = 0;
      is_open = false;
      has_position = false;
      has_set_up = false;
      has_type = false;
      has_event = false;
      has_black = false;
      has_white = false;
      move_number = 0;
      plies = 0;
      follows_result = ended;
    }

-- the first game, before it begins
abbrev pub first_game : Game
first_game = unbegun 1 false

-- A tag, a move or a result stands there, and the game begins there where it has not.
abbrev pub opened : Game → ℕ → Game
opened game at =
    record game {
      begins = if game.is_open then game.begins else at;
      is_open = true;
      follows_result = false;
    }

-- the next game, before it begins; `ended` says whether a result has ended the one before
abbrev pub next_game : Game → Bool → Game
next_game game ended = unbegun (game.number + 1) ended

-- the game that a tag belongs to: behind a move it is the next one
abbrev pub game_of_tag : Game → Game
game_of_tag game = if game.plies == 0 then game else next_game game false

-- it has a tag of this meaning, of those of which it may have one
abbrev pub has_tag : Game → TagKind → Bool
has_tag game tags.Fen = game.has_position
has_tag game tags.LikeFen = false
has_tag game tags.GameType = game.has_type
has_tag game tags.OtherGameType = game.has_type
has_tag game tags.LikeGameType = false
has_tag game tags.SetUp = false
has_tag game tags.Event = game.has_event
has_tag game tags.Black = game.has_black
has_tag game tags.White = game.has_white
has_tag game tags.Other = false

-- with a tag of this meaning
abbrev pub tagged : Game → TagKind → Game
tagged game tags.Fen = record game { has_position = true }
tagged game tags.LikeFen = game
tagged game tags.GameType = record game { has_type = true }
tagged game tags.OtherGameType = record game { has_type = true }
tagged game tags.LikeGameType = game
tagged game tags.SetUp = record game { has_set_up = true }
tagged game tags.Event = record game { has_event = true }
tagged game tags.Black = record game { has_black = true }
tagged game tags.White = record game { has_white = true }
tagged game tags.Other = game

-- with the number of a move more
abbrev pub numbered : Game → ℕ → Game
numbered game number = record game { move_number = number }

-- with a move more
abbrev pub moved : Game → Game
moved game = record game { plies = game.plies + 1 }

-- the game behind an item
abbrev pub after : Game → ℕ → Kind → Game
after game at kind.Skipped = game
after game at kind.RunsOn = game
after game at (kind.Number number) = numbered game number
after game at (kind.Tag tag) = tagged (opened (game_of_tag game) at) tag
after game at kind.Move = moved (opened game at)
after game at kind.Result = next_game game true

-- a game without a move has a tag `SetUp` and no tag `FEN`
abbrev pub lacks_fen : Game → Bool
lacks_fen game = game.plies == 0 && game.has_set_up && not game.has_position
