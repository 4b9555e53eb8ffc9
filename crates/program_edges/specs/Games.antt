-- The games of a text with their openings, and why a text has none.
use Rattle.std.specs.Prelude.{◌≡◌, ◌⊎◌, ℕ, List}
use Rattle.opening_report.specs.Conversions.{of_openings, of_pdn}
use Rattle.opening_report.specs.declared.refusals.Refusal.{Refusal}
use Rattle.pdn_openings.specs.Faults.{OpeningFaultStandsFirst}
use Rattle.pdn_openings.specs.Openings.{AreOpenings}
use Rattle.pdn_openings.specs.declared.opening.Opening.{Opening}
use Rattle.pdn_openings.specs.declared.refusal.OpeningRefusal.{OpeningRefusal}
use Rattle.pdn_text.specs.Pdn.{Reads, Refused}
use Rattle.pdn_text.specs.declared.game.Game.{Game}
use Rattle.pdn_text.specs.declared.refusal.PdnRefusal.{PdnRefusal}

-- the games of the text, with their openings after `plies` plies
pub record OpensGames (plies : ℕ) (text : List ℕ) (games : List Game) (openings : List Opening)
    : Type 0 where
  pub read : Reads text games
  pub opens : AreOpenings plies games openings

-- The text has no openings, and this is why: the fault that stands first in it, or that of the first
-- game with one.
abbrev pub HasGamesFault : ℕ → List ℕ → Refusal → Type 0
HasGamesFault plies text r =
    ((fault : PdnRefusal) × ((r ≡ of_pdn fault) × Refused text fault))
    ⊎ ((games : List Game) × (Reads text games
    × ((fault : OpeningRefusal) × ((r ≡ of_openings fault)
    × OpeningFaultStandsFirst plies games fault))))
