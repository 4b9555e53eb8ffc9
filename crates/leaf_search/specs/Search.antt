-- What a search of a leaf answers.
use Rattle.std.specs.Prelude.{◌≡◌, ℕ, Option, length}
use Rattle.draughts_board.specs.declared.pieces.Side.{Side}
use Rattle.draughts_board.specs.Board.{Board}
use Rattle.strategy_certificate.specs.declared.oracle.Answer.{Answer}
use Rattle.strategy_certificate.specs.declared.claims.Claim.{Claim}
use Rattle.strategy_certificate.specs.declared.certificates.Part.{Part}
use Rattle.strategy_certificate.specs.declared.certificates.Part.TheVariants as part
use Rattle.strategy_certificate.specs.declared.certificates.Certificate.{Certificate}
use Rattle.strategy_certificate.specs.Certificates.{IsGoodPart, IsTrueOf}
use Rattle.strategy_certificate.specs.Claims.{HasShortRanks}
use Rattle.certificate_checker.specs.Answers.{IsFinding, IsAnswer}
use Rattle.certificate_checker.specs.declared.outcomes.Exhausted.{Exhausted}
use Rattle.certificate_checker.specs.declared.outcomes.Outcome.{Outcome}
use Rattle.certificate_checker.specs.declared.outcomes.Outcome.TheVariants as outcome

-- how many entries a part has
abbrev pub entry_count : Part → ℕ
entry_count (part.Win wins) = length wins.entries
entry_count (part.Hold holds) = length holds.entries

-- a good part for the position, with short ranks
pub record IsShownBy (answer : Board → Option Answer) (p : Board) (shown : Part) : Type 0 where
  pub good : IsGoodPart answer p shown
  pub short : HasShortRanks shown

-- a finding about the position, with this claim, which is true
pub record Proves (k : ℕ) (p : Board) (claim : Claim) (c : Certificate) : Type 0 where
  pub finding : IsFinding k p c
  pub claims : c.claim ≡ claim
  pub holds : IsTrueOf claim p

-- the search was exhausted; what that means is a fact of its type
pub record IsOf (k : ℕ) (aim : Side) (plies : ℕ) (p : Board) (e : Exhausted) : Type 0 where
  pub position : e.position ≡ p
  pub goal : e.goal ≡ aim
  pub depth : e.depth ≡ plies
  pub pieces : e.pieces ≡ k

abbrev pub IsOutcome : ℕ → Side → ℕ → Board → Outcome → Type 0
IsOutcome k goal depth p (outcome.Solved found) = IsAnswer k goal depth p found
IsOutcome k goal depth p (outcome.Exhausted e) = IsOf k goal depth p e
