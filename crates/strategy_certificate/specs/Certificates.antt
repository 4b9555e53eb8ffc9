-- When a certificate is good: local conditions on its parts, and what the table shows at their
-- edges.
use Rattle.std.specs.Prelude.{◌≡◌, ℕ, ◌<◌, ◌⊎◌, List, [], ◌∷◌, Contains, All, map, Option, Some, None}
use Rattle.draughts_board.specs.Board.{Board, IsLawful, other}
use Rattle.draughts_board.specs.Rules.{IsLegal, after}
use Rattle.draughts_board.specs.Play.{successors_of}
use Rattle.draughts_board.specs.Game.{Wins, Holds, HasValue}
use Rattle.draughts_board.specs.Draughts.{draughts}
use Rattle.draughts_board.specs.declared.pieces.Side.{Side}
use Rattle.draughts_board.specs.declared.pieces.Side.TheVariants.{Black, White}
use Rattle.draughts_board.specs.declared.pieces.Value.TheVariants as value
use Rattle.strategy_certificate.specs.declared.oracle.Answer.{Answer}
use Rattle.strategy_certificate.specs.declared.entries.WinEntry.{WinEntry}
use Rattle.strategy_certificate.specs.declared.claims.Claim.{Claim}
use Rattle.strategy_certificate.specs.declared.claims.Claim.TheVariants.{Win, Hold, Draw}
use Rattle.strategy_certificate.specs.declared.certificates.Part.{Part}
use Rattle.strategy_certificate.specs.declared.certificates.Part.TheVariants as part
use Rattle.strategy_certificate.specs.declared.certificates.Certificate.{Certificate}
use Rattle.strategy_certificate.specs.Tables.{IsSoundTable, TableWins, TableHolds}
use Rattle.strategy_certificate.specs.Parts.{WinList, HoldList, HasEntry}

-- ---- one entry

-- where the side moves, its move is chosen and legal, and where the other side moves none is chosen
abbrev pub HasDueMove : Side → Board → Option (List ℕ) → Type 0
HasDueMove s p (Some path) = (p.to_move ≡ s) × IsLegal p path
HasDueMove s p None = p.to_move ≡ other s

-- the positions at which the strategy has to go on: that after the chosen move, or else every
-- successor
abbrev pub due_positions : Board → Option (List ℕ) → List Board
due_positions p (Some path) = after p path ∷ []
due_positions p None = successors_of p

-- ---- a good win part: a ranked strategy

-- the position has an entry of this rank
abbrev pub HasRank : WinList → ℕ → Board → Type 0
HasRank part r q = (e : WinEntry) × (Contains part.entries (q, e) × (e.rank ≡ r))

-- the position is won with this rank, by an entry of the part or by the table
abbrev pub IsReached : WinList → (Board → Option Answer) → ℕ → Board → Type 0
IsReached part answer r q = HasRank part r q ⊎ TableWins draughts answer part.side r q

-- so with a rank below r
abbrev pub IsReachedBelow : WinList → (Board → Option Answer) → ℕ → Board → Type 0
IsReachedBelow part answer r q = (m : ℕ) × ((m < r) × IsReached part answer m q)

-- the entry is of a position, has its due move, and each due position has a rank below its own
pub record IsGoodWinEntry (part : WinList) (answer : Board → Option Answer) (p : Board)
    (e : WinEntry) : Type 0 where
  pub lawful : IsLawful p
  pub move : HasDueMove part.side p e.chosen
  pub below : All (IsReachedBelow part answer e.rank) (due_positions p e.chosen)

abbrev pub IsGoodWinPart : WinList → (Board → Option Answer) → Type 0
IsGoodWinPart part answer = All (λ row. IsGoodWinEntry part answer row.0 row.1) part.entries

-- ---- a good hold part: a closed set

-- the position is held, by an entry of the part or by the table
abbrev pub IsHeld : HoldList → (Board → Option Answer) → Board → Type 0
IsHeld part answer q = HasEntry part.entries q ⊎ TableHolds draughts answer part.side q

-- the entry is of a position, has its due move, and each due position is held
pub record IsGoodHoldEntry (part : HoldList) (answer : Board → Option Answer) (p : Board)
    (chosen : Option (List ℕ)) : Type 0 where
  pub lawful : IsLawful p
  pub move : HasDueMove part.side p chosen
  pub held : All (IsHeld part answer) (due_positions p chosen)

abbrev pub IsGoodHoldPart : HoldList → (Board → Option Answer) → Type 0
IsGoodHoldPart part answer = All (λ row. IsGoodHoldEntry part answer row.0 row.1) part.entries

-- ---- a good certificate

-- what a part shows of the position where it starts
abbrev pub claim_of : Part → Claim
claim_of (part.Win list) = Win list.side
claim_of (part.Hold list) = Hold list.side

-- what the parts have to show, in this order
abbrev pub due_claims : Claim → List Claim
due_claims (Win s) = Win s ∷ []
due_claims (Hold s) = Hold s ∷ []
due_claims Draw = Hold Black ∷ Hold White ∷ []

-- the position has an entry in the part, or the table shows it
abbrev pub HasRoot : Part → (Board → Option Answer) → Board → Type 0
HasRoot (part.Win list) answer p = (r : ℕ) × IsReached list answer r p
HasRoot (part.Hold list) answer p = IsHeld list answer p

-- each entry of the part is good
abbrev pub HasGoodEntries : Part → (Board → Option Answer) → Type 0
HasGoodEntries (part.Win list) answer = IsGoodWinPart list answer
HasGoodEntries (part.Hold list) answer = IsGoodHoldPart list answer

-- a good part for the position
abbrev pub IsGoodPart : (Board → Option Answer) → Board → Part → Type 0
IsGoodPart answer p part = HasGoodEntries part answer × HasRoot part answer p

-- good by these answers: its parts are the due ones, and each is good for its position
pub record IsGoodBy (answer : Board → Option Answer) (c : Certificate) : Type 0 where
  pub due : map claim_of c.parts ≡ due_claims c.claim
  pub parts : All (IsGoodPart answer c.position) c.parts

-- good by the sound table of its number of pieces
abbrev pub IsGood : Certificate → Type 0
IsGood c =
    (answer : Board → Option Answer) × (IsSoundTable draughts c.pieces answer × IsGoodBy answer c)

-- ---- what a claim says

abbrev pub IsTrueOf : Claim → Board → Type 0
IsTrueOf (Win s) p = Wins draughts s p
IsTrueOf (Hold s) p = Holds draughts s p
IsTrueOf Draw p = HasValue draughts p value.Draw
