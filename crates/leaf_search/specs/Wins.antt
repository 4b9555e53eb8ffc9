-- What a depth-first search for a win does to its part, and what it means that it finds none.
use Rattle.std.specs.Prelude.{◌≡◌, ◌≤◌, ◌<◌, ◌+◌, ◌^◌, ℕ, List, ◌++◌, All, Option, length}
use Rattle.draughts_board.specs.declared.pieces.Side.{Side}
use Rattle.draughts_board.specs.Board.{Board}
use Rattle.draughts_board.specs.Rules.{after}
use Rattle.draughts_board.specs.Game.{ShowsWin}
use Rattle.draughts_board.specs.Draughts.{draughts}
use Rattle.strategy_certificate.specs.declared.oracle.Answer.{Answer}
use Rattle.strategy_certificate.specs.declared.entries.WinEntry.{WinEntry}
use Rattle.strategy_certificate.specs.Parts.{WinList}
use Rattle.leaf_search.specs.declared.wins.TheConstants.{MOST_ENTRIES}
use Rattle.strategy_certificate.specs.Certificates.{IsReached, IsReachedBelow, IsGoodWinPart}

-- looking so far ahead, with tables of k pieces, shows no win of the side
abbrev pub WinFails : ℕ → Side → ℕ → Board → Type 0
WinFails k s depth p = ShowsWin draughts k s depth p → ⊥

-- what a memory keeps of a side and a position
abbrev pub IsWithoutWin : ℕ → (Side × Board) × ℕ → Type 0
IsWithoutWin k row = WinFails k row.0.0 row.1 row.0.1

-- A rank that a part of n entries may have: those of the table fit 32 bits, and each entry adds at most one.
abbrev pub IsLowFor : ℕ → ℕ → Type 0
IsLowFor n rank = rank < 2 ^ 32 + n

-- a good part that is not too long, and whose ranks are low for its length
pub record IsSteady (answer : Board → Option Answer) (part : WinList) : Type 0 where
  pub good : IsGoodWinPart part answer
  pub short : length part.entries ≤ MOST_ENTRIES
  pub low : All (λ row. IsLowFor (length part.entries) row.1.rank) part.entries

-- the later part begins with the entries of the earlier
pub record KeepsWins (old new : WinList) : Type 0 where
  pub side : new.side ≡ old.side
  pub added : List (Board × WinEntry)
  pub entries : new.entries ≡ old.entries ++ added

-- and it is good
pub record Grows (answer : Board → Option Answer) (old new : WinList) : Type 0 where
  pub keeps : KeepsWins old new
  pub steady : IsSteady answer new

-- the part has grown to reach the position with this rank
pub record Finds (answer : Board → Option Answer) (old new : WinList) (p : Board) (rank : ℕ) : Type 0 where
  pub grows : Grows answer old new
  pub reached : IsReached new answer rank p
  pub low : IsLowFor (length new.entries) rank

-- the part has grown to reach the position after each of the moves with a rank below this
pub record FindsAll (answer : Board → Option Answer) (old new : WinList) (p : Board) (moves : List (List ℕ)) (rank : ℕ) : Type 0 where
  pub grows : Grows answer old new
  pub reached : All (λ m. IsReachedBelow new answer rank (after p m)) moves
  pub low : rank ≤ 2 ^ 32 + length new.entries
