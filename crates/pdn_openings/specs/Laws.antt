-- Laws of openings.
use Rattle.std.specs.Prelude.{◌≡◌, ℕ, List, All, length}
use Rattle.draughts_board.specs.Board.{IsLawful}
use Rattle.pdn_openings.specs.Openings.{AreOpenings}
use Rattle.pdn_openings.specs.declared.opening.Opening.{Opening}
use Rattle.pdn_text.specs.declared.game.Game.{Game}

-- A list of games has no two lists of openings.
abbrev pub OpeningsAreDetermined : Type 0
OpeningsAreDetermined =
    (plies : ℕ) (games : List Game) (a b : List Opening) → AreOpenings plies games a
    → AreOpenings plies games b → a ≡ b

-- There are as many openings as games.
abbrev pub EachGameHasOne : Type 0
EachGameHasOne =
    (plies : ℕ) (games : List Game) (openings : List Opening) → AreOpenings plies games openings
    → length openings ≡ length games

-- Each opening's position keeps the rule on pieces.
abbrev pub OpeningsAreLawful : Type 0
OpeningsAreLawful =
    (plies : ℕ) (games : List Game) (openings : List Opening) → AreOpenings plies games openings
    → All (λ opening. IsLawful opening.position) openings
