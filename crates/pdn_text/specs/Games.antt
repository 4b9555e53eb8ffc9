-- Which games a text's tags, moves and results make.
use Rattle.std.specs.Prelude.{◌≡◌, ◌≢◌, ◌⊎◌, Bool, true, List, [], ◌∷◌, ◌++◌, map, flat_map, if◌then◌else◌}
use Rattle.pdn_text.specs.declared.game.Game.{Game}
use Rattle.pdn_text.specs.declared.game.MoveText.{MoveText}
use Rattle.pdn_text.specs.declared.game.Tag.{Tag}
use Rattle.pdn_text.specs.declared.items.Sign.{Sign}
use Rattle.pdn_text.specs.declared.items.Sign.TheVariants.{Tagged, Moved, Ended}

-- a game as it stands in a text: its tags, then its moves, then its result if it has one
pub record Played : Type 0 where
  pub tags : List Tag
  pub moves : List MoveText
  pub ended : Bool

abbrev pub signs_of : Played → List Sign
signs_of p = map Tagged p.tags ++ map Moved p.moves ++ (if p.ended then Ended ∷ [] else [])

-- what is kept of it
abbrev pub kept_game : Played → Game
kept_game p = record { tags = p.tags; moves = p.moves }

-- A game ends with a result, or before a tag that follows at least one move.
abbrev pub EndsBefore : Played → Played → Type 0
EndsBefore p next = (p.ended ≡ true) ⊎ ((p.moves ≢ []) × (next.tags ≢ []))

-- A game has a tag, a move or a result. The last one may end with the text.
abbrev pub AreGames : List Played → Type 0
AreGames [] = Unit {0}
AreGames (p ∷ []) = signs_of p ≢ []
AreGames (p ∷ next ∷ more) = (signs_of p ≢ []) × EndsBefore p next × AreGames (next ∷ more)

-- these tags, moves and results, in order, make these games
pub record Make (signs : List Sign) (games : List Game) : Type 0 where
  pub played : List Played
  pub sound : AreGames played
  pub all : signs ≡ flat_map signs_of played
  pub are_kept : games ≡ map kept_game played
