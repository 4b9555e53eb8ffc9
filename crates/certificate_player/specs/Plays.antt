-- A play, and what a player that follows a certificate keeps of it.
use Rattle.std.specs.Prelude.{◌≡◌, ◌↔◌, ◌<◌, ℕ, List, [], ◌∷◌, All, Contains, Option, Some, None, IfSome, IsSome, slice_get}
use Rattle.draughts_board.specs.declared.pieces.Side.{Side}
use Rattle.draughts_board.specs.declared.pieces.Side.TheVariants.{Black, White}
use Rattle.draughts_board.specs.Board.{Board}
use Rattle.draughts_board.specs.Play.{successors_of}
use Rattle.draughts_board.specs.Game.{Holds, Wins, WinsIn}
use Rattle.draughts_board.specs.Draughts.{draughts}
use Rattle.strategy_certificate.specs.declared.certificates.Certificate.{Certificate}
use Rattle.strategy_certificate.specs.declared.certificates.Part.{Part}
use Rattle.strategy_certificate.specs.declared.certificates.Part.TheVariants as part
use Rattle.strategy_certificate.specs.declared.claims.Claim.{Claim}
use Rattle.strategy_certificate.specs.declared.claims.Claim.TheVariants.{Win, Hold, Draw}
use Rattle.strategy_certificate.specs.declared.oracle.Answer.{Answer}
use Rattle.strategy_certificate.specs.Certificates.{IsGood, IsHeld, IsReached}
use Rattle.strategy_certificate.specs.Claims.{TellsHold, TellsWin}
use Rattle.strategy_certificate.specs.Tables.{IsSoundTable}

-- ---- plays

-- the positions are a play from p on: each is a successor of the one before
abbrev pub LeadOn : Board → List Board → Type 0
LeadOn p [] = Unit {0}
LeadOn p (q ∷ later) = Contains (successors_of p) q × LeadOn q later

-- where the play stands
abbrev pub last_of : Board → List Board → Board
last_of p [] = p
last_of p (q ∷ later) = last_of q later

-- What a player stands for: a play from a certificate's position on, its own side, and a rank where
-- the certificate claims that side's win.
pub record Play : Type 0 where
  pub certificate : Certificate
  pub side : Side
  -- the positions behind the certificate's, in order
  pub later : List Board
  pub rank : Option ℕ

-- the positions of the play, in order
abbrev pub positions : Play → List Board
positions v = v.certificate.position ∷ v.later

-- where the play stands
abbrev pub here : Play → Board
here v = last_of v.certificate.position v.later

-- ---- the side's part

-- the place of a side's part in a certificate: of a draw Black's part is the first
abbrev pub own_place : Claim → Side → ℕ
own_place (Win winner) side = 0
own_place (Hold holder) side = 0
own_place Draw Black = 0
own_place Draw White = 1

abbrev pub own_part : Certificate → Side → Option Part
own_part c side = slice_get c.parts (own_place c.claim side)

-- The part goes on from the position: a win part reaches it with the rank that is kept, a hold part
-- holds it, by an entry or by the table.
abbrev pub Follows : (Board → Option Answer) → Board → Option ℕ → Part → Type 0
Follows answer p (Some r) (part.Win list) = IsReached list answer r p
Follows answer p None (part.Hold list) = IsHeld list answer p
Follows answer p rank other = ⊥

-- ---- what a player keeps

pub record IsPlay (v : Play) : Type 0 where
  -- the certificate is good, and its claim is no more than the other side's
  pub good : IsGood v.certificate
  pub own : TellsHold v.side v.certificate.claim
  pub leads : LeadOn v.certificate.position v.later
  -- the side holds each position, and wins each where its win is claimed
  pub holds : All (Holds draughts v.side) (positions v)
  pub wins : TellsWin v.side v.certificate.claim → All (Wins draughts v.side) (positions v)
  -- a rank is kept exactly where its win is claimed, and bounds the plies to it
  pub ranked : IsSome v.rank ↔ TellsWin v.side v.certificate.claim
  pub in_rank : IfSome v.rank (λ r. WinsIn draughts v.side r (here v))
  -- the side's part goes on from here
  pub follows : (answer : Board → Option Answer)
      → IsSoundTable draughts v.certificate.pieces answer
      → IfSome (own_part v.certificate v.side) (Follows answer (here v) v.rank)

-- the rank is smaller, if one is kept
abbrev pub RankFalls : Option ℕ → Option ℕ → Type 0
RankFalls (Some r) (Some m) = m < r
RankFalls None None = Unit {0}
RankFalls before now = ⊥
