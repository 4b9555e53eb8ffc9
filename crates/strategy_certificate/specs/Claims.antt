-- What claims tell of a position, and ranks that a search may give.
use Rattle.std.specs.Prelude.{◌≡◌, ◌≤◌, ◌⊎◌, All}
use Rattle.draughts_board.specs.declared.pieces.Side.{Side}
use Rattle.draughts_board.specs.Board.{other}
use Rattle.strategy_certificate.specs.declared.entries.TheConstants.{MOST_FOUND_RANK}
use Rattle.strategy_certificate.specs.declared.claims.Claim.{Claim}
use Rattle.strategy_certificate.specs.declared.claims.Claim.TheVariants.{Win, Hold, Draw}
use Rattle.strategy_certificate.specs.declared.certificates.Part.{Part}
use Rattle.strategy_certificate.specs.declared.certificates.Part.TheVariants as part

-- the claim says that the side wins
abbrev pub TellsWin : Side → Claim → Type 0
TellsWin s (Win t) = t ≡ s
TellsWin s (Hold t) = ⊥
TellsWin s Draw = ⊥

-- the claim says or implies that the side holds
abbrev pub TellsHold : Side → Claim → Type 0
TellsHold s (Win t) = t ≡ s
TellsHold s (Hold t) = t ≡ s
TellsHold s Draw = Unit {0}

-- it is a win or a hold of one side
abbrev pub IsOfOnePart : Claim → Type 0
IsOfOnePart (Win s) = Unit {0}
IsOfOnePart (Hold s) = Unit {0}
IsOfOnePart Draw = ⊥

-- the goal's win or the other side's hold is known by the claim, so whether the goal wins
abbrev pub Settles : Side → Claim → Type 0
Settles goal claim = (claim ≡ Win goal) ⊎ ((claim ≡ Win (other goal)) ⊎ (claim ≡ Hold (other goal)))

-- ranks are at most those that a search may give
abbrev pub HasShortRanks : Part → Type 0
HasShortRanks (part.Win list) = All (λ row. row.1.rank ≤ MOST_FOUND_RANK) list.entries
HasShortRanks (part.Hold list) = Unit {0}
