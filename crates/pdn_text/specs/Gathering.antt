-- How games are gathered, sign by sign. `specs/Games.antt` says which games the signs make.
use Rattle.std.specs.Prelude.{◌≡◌, suc, Bool, not, ◌||◌, ◌==◌, List, [], ◌∷◌, ◌++◌, length, if◌then◌else◌}
use Rattle.pdn_text.specs.declared.TheConstants.{MOST_GAMES}
use Rattle.pdn_text.specs.declared.game.Game.{Game}
use Rattle.pdn_text.specs.declared.game.MoveText.{MoveText}
use Rattle.pdn_text.specs.declared.game.Tag.{Tag}
use Rattle.pdn_text.specs.declared.gather.Gathered.{Gathered}
use Rattle.pdn_text.specs.declared.items.Sign.{Sign}
use Rattle.pdn_text.specs.declared.items.Sign.TheVariants.{Tagged, Moved, Ended}
use Rattle.pdn_text.specs.declared.refusal.PdnRefusal.{PdnRefusal}
use Rattle.pdn_text.specs.declared.refusal.PdnRefusal.TheVariants.{TooManyGames, Memory}

-- the games that have ended, and the tags and moves behind them
pub record Progress : Type 0 where
  pub games : List Game
  pub tags : List Tag
  pub moves : List MoveText

abbrev pub progress : Gathered → Progress
progress g = record { games = g.games.items; tags = g.tags.items; moves = g.moves.items }

abbrev pub no_game : Progress
no_game = record { games = []; tags = []; moves = [] }

-- the game that is open ends
abbrev pub closed : Progress → Progress
closed p =
    record {
      games = p.games ++ record { tags = p.tags; moves = p.moves }
          ∷ [];
      tags = [];
      moves = [];
    }

-- A tag behind a move ends a game, and so does a result.
abbrev pub taken : Progress → Sign → Progress
taken p (Tagged tag) =
    let q =
    (if length p.moves == 0 then p
    else closed p) in record { games = q.games; tags = q.tags ++ tag ∷ []; moves = q.moves }
taken p (Moved text) = record { games = p.games; tags = p.tags; moves = p.moves ++ text ∷ [] }
taken p Ended = closed p

abbrev pub all_taken : Progress → List Sign → Progress
all_taken p [] = p
all_taken p (sign ∷ signs) = all_taken (taken p sign) signs

-- a game has begun and not ended: it has a tag or a move
abbrev pub is_open : Progress → Bool
is_open p = not (length p.tags == 0) || not (length p.moves == 0)

-- the games if the text ends here: an open game ends with it
abbrev pub games_of : Progress → List Game
games_of p = (if is_open p then (closed p).games else p.games)

-- what a sign is refused as: it begins one game more than a text may have, or memory ran out
abbrev pub IsRefusedAs : Progress → Sign → PdnRefusal → Type 0
IsRefusedAs p sign TooManyGames = length (games_of (taken p sign)) ≡ suc MOST_GAMES
IsRefusedAs p sign (Memory error) = Unit {0}
IsRefusedAs p sign other = ⊥
