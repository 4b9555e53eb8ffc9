-- When what is known of a node is certified, and what a joined certificate is.
use Rattle.std.specs.Prelude.{◌≡◌, ℕ, ◌⊎◌, List, [], Contains, All, true, Option}
use Rattle.draughts_board.specs.Board.{Board}
use Rattle.draughts_board.specs.Game.{ShowsWin, ShowsHold}
use Rattle.draughts_board.specs.Draughts.{draughts}
use Rattle.draughts_board.specs.declared.pieces.Side.{Side}
use Rattle.draughts_board.specs.declared.pieces.Side.TheVariants.{Black, White}
use Rattle.draughts_board.specs.declared.pieces.Value.{Value}
use Rattle.draughts_board.specs.declared.pieces.Value.TheVariants as value
use Rattle.strategy_certificate.specs.declared.oracle.Answer.{Answer}
use Rattle.strategy_certificate.specs.declared.claims.Claim.{Claim}
use Rattle.strategy_certificate.specs.declared.claims.Claim.TheVariants.{Win, Draw}
use Rattle.strategy_certificate.specs.declared.certificates.Certificate.{Certificate}
use Rattle.strategy_certificate.specs.Tables.{IsSoundTable}
use Rattle.strategy_certificate.specs.Certificates.{IsGood, IsGoodBy}
use Rattle.strategy_certificate.specs.Claims.{TellsWin, TellsHold, HasShortRanks}
use Rattle.proof_numbers.specs.Known.{knows_win, knows_hold}
use Rattle.proof_tree.specs.Forest.{Node}
use Rattle.certificate_joiner.specs.Shelf.{Put, certificates_of}

-- ---- facts of a node

-- a certificate that may stand on the shelf for a node of this position, with tables of k pieces
pub record IsShelved (k : ℕ) (p : Board) (c : Certificate) : Type 0 where
  pub position : c.position ≡ p
  pub pieces : c.pieces ≡ k
  pub good : IsGood c
  pub short : All HasShortRanks c.parts

-- Each fact of the node is seen at sight, or a certificate that stands on the shelf for it claims or implies the fact.
pub record IsCertified (k : ℕ) (puts : List Put) (x : Node) : Type 0 where
  pub shelved : All (IsShelved k x.own.position) (certificates_of x.own.number puts)
  pub wins : (s : Side) → knows_win s x.own.facts ≡ true → ShowsWin draughts k s 0 x.own.position
      ⊎ ((c : Certificate) × (Contains (certificates_of x.own.number puts) c × TellsWin s c.claim))
  pub holds : (s : Side) → knows_hold s x.own.facts ≡ true → ShowsHold draughts k s 0 [] x.own.position
      ⊎ ((c : Certificate) × (Contains (certificates_of x.own.number puts) c × TellsHold s c.claim))

-- ---- a joined certificate

abbrev pub claim_for : Value → Claim
claim_for value.BlackWins = Win Black
claim_for value.WhiteWins = Win White
claim_for value.Draw = Draw

-- good by whichever sound table of its number of pieces is asked
abbrev pub IsGoodByEach : Certificate → Type 0
IsGoodByEach c = (answer : Board → Option Answer) → IsSoundTable draughts c.pieces answer → IsGoodBy answer c

-- a good certificate of this position, with tables of k pieces, that makes this claim
pub record IsJoined (k : ℕ) (p : Board) (claim : Claim) (c : Certificate) : Type 0 where
  pub position : c.position ≡ p
  pub pieces : c.pieces ≡ k
  pub claims : c.claim ≡ claim
  pub good : IsGoodByEach c
