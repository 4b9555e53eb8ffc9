-- The openings of games: the positions after their first plies.
use Rattle.std.specs.Prelude.{◌≡◌, ℕ, suc, false, List, [], ◌∷◌, take}
use Rattle.draughts_board.specs.Board.{Board}
use Rattle.pdn_openings.specs.Beginning.{is_other_game, BeginsFrom}
use Rattle.pdn_openings.specs.Playing.{LeadTo}
use Rattle.pdn_openings.specs.declared.opening.Opening.{Opening}
use Rattle.pdn_text.specs.declared.game.Game.{Game}

-- The opening of the game of this number: the position after its first `plies` moves, or after all
-- where it has fewer.
pub record IsOpening (plies number : ℕ) (game : Game) (opening : Opening) : Type 0 where
  pub numbered : opening.game ≡ number
  pub english : is_other_game game ≡ false
  pub start : Board
  pub begins : BeginsFrom game start
  pub led : LeadTo start (take plies game.moves) opening.position

-- the openings of these games, which are numbered from `number` on
abbrev pub AreOpeningsFrom : ℕ → ℕ → List Game → List Opening → Type 0
AreOpeningsFrom plies number [] [] = Unit {0}
AreOpeningsFrom plies number [] (opening ∷ openings) = ⊥
AreOpeningsFrom plies number (game ∷ games) [] = ⊥
AreOpeningsFrom plies number (game ∷ games) (opening ∷ openings) =
    IsOpening plies number game opening × AreOpeningsFrom plies (suc number) games openings

-- These are the openings of these games after `plies` plies: one of each game, in the order of the
-- games, which are numbered from 1.
abbrev pub AreOpenings : ℕ → List Game → List Opening → Type 0
AreOpenings plies games openings = AreOpeningsFrom plies 1 games openings
