-- What `solve` makes of a text of games: its openings, the roots among them, and the report.
use Rattle.std.specs.Prelude.{ℕ, Bool, List, map}
use Rattle.draughts_board.specs.Board.{Board}
use Rattle.draughts_board.specs.Rules.{first_places}
use Rattle.bench_edges.specs.declared.words.Options.{Options}
use Rattle.pdn_text.specs.Pdn.{Reads}
use Rattle.pdn_text.specs.declared.game.Game.{Game}
use Rattle.pdn_openings.specs.Openings.{AreOpenings}
use Rattle.pdn_openings.specs.declared.opening.Opening.{Opening}
use Rattle.journal_runs.specs.Journals.{ReportsTruth}

-- ---- openings and roots

-- the openings of the games of a text, after `plies` plies
abbrev pub OpeningsOf : ℕ → List ℕ → List Opening → Type 0
OpeningsOf plies text openings =
    (games : List Game) × (Reads text games × AreOpenings plies games openings)

abbrev pub opening_positions : List Opening → List Board
opening_positions openings = map (λ opening. opening.position) openings

-- the distinct positions of the openings, each at its first place
abbrev pub roots_of_openings : List Opening → List Board
roots_of_openings openings = first_places (opening_positions openings)

-- ---- what is written

-- The text is a report of roots, each with no value but the true one; and every root has one, or (false)
-- some root has none. The positions of the source's openings are among them, and no position is two of
-- them.
pub record IsReportOn (options : Options) (source text : List ℕ) (settled : Bool) : Type 0 where
  pub openings : List Opening
  pub read : OpeningsOf options.plies source openings
  pub reported : ReportsTruth (roots_of_openings openings) text settled
