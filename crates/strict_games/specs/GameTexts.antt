-- Texts of one game, and such texts one behind the other.
use Rattle.std.specs.Prelude.{◌≡◌, ◌≤◌, ℕ, ◌+◌, true, List, [], ◌∷◌, ◌++◌, length, map}
use Rattle.std.specs.List.{flat_map}
use Rattle.pdn_text.specs.Games.{signs_of}
use Rattle.pdn_text.specs.Pdn.{AreItemsOfText, Reads, beginning, signs}
use Rattle.pdn_text.specs.declared.TheConstants.{MOST_GAMES}
use Rattle.pdn_text.specs.declared.game.Game.{Game}
use Rattle.pdn_text.specs.declared.game.MoveText.{MoveText}
use Rattle.pdn_text.specs.declared.items.Item.{Item}

-- The text is items, from its first byte to its last, which say the game's tags, its moves and a
-- result, in this order. It has no byte order mark, and ends with byte 10.
pub record IsGameText (text : List ℕ) (game : Game) : Type 0 where
  pub items : List Item
  pub are_items : AreItemsOfText text 0 items (length text)
  pub says : signs items
      ≡ signs_of (record { tags = game.tags; moves = game.moves; ended = true })
  pub unmarked : beginning text ≡ 0
  pub front : List ℕ
  pub ends_line : text ≡ front ++ 10 ∷ []

-- these texts are of these games, one of each
abbrev pub AreGameTexts : List (List ℕ) → List Game → Type 0
AreGameTexts [] [] = Unit {0}
AreGameTexts [] (game ∷ games) = ⊥
AreGameTexts (text ∷ texts) [] = ⊥
AreGameTexts (text ∷ texts) (game ∷ games) = IsGameText text game × AreGameTexts texts games

-- ---- one behind the other

abbrev pub joined : List (List ℕ) → List ℕ
joined texts = flat_map (λ text. text) texts

-- a move behind n further bytes, and a game
abbrev pub move_behind : ℕ → MoveText → MoveText
move_behind n written =
    record { at = n + written.at; end = n + written.end; squares = written.squares }

abbrev pub game_behind : ℕ → Game → Game
game_behind n game = record { tags = game.tags; moves = map (move_behind n) game.moves }

-- the games as they are read from their joined texts, behind n further bytes
abbrev pub games_behind : ℕ → List (List ℕ) → List Game → List Game
games_behind n [] games = []
games_behind n (text ∷ texts) [] = []
games_behind n (text ∷ texts) (game ∷ games) =
    game_behind n game ∷ games_behind (n + length text) texts games

-- Texts of games, as many as one source may have, are read together as these games, one after the
-- other: each with its tags and its moves, whose places are those in the joined text.
abbrev pub GameTextsJoin : Type 0
GameTextsJoin =
    (texts : List (List ℕ)) (games : List Game) → AreGameTexts texts games
    → length games ≤ MOST_GAMES → Reads (joined texts) (games_behind 0 texts games)
