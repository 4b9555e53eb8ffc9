-- Short ranks: those of a win part, replaced in their order by ranks that a journal keeps.
use Rattle.std.specs.Prelude.{◌≡◌, ◌≤◌, ◌+◌, ◌==◌, ◌↔◌, ℕ, List, Contains, Option, map}
use Rattle.std.specs.List.{position_or_len}
use Rattle.std.specs.List.Sorted.{IsStrictlyIncreasing}
use Rattle.draughts_board.specs.Board.{Board}
use Rattle.draughts_board.specs.Draughts.{draughts}
use Rattle.strategy_certificate.specs.declared.oracle.Answer.{Answer}
use Rattle.strategy_certificate.specs.declared.entries.WinEntry.{WinEntry}
use Rattle.strategy_certificate.specs.declared.shortening.TheConstants.{FIRST_SHORT_RANK}
use Rattle.strategy_certificate.specs.Tables.{IsSoundTable}
use Rattle.strategy_certificate.specs.Parts.{WinList}
use Rattle.strategy_certificate.specs.Certificates.{IsReached, IsGoodWinPart}

abbrev pub ranks_of : List (Board × WinEntry) → List ℕ
ranks_of rows = map (λ row. row.1.rank) rows

-- these are the ranks of the rows, each once, rising
pub record AreRanksOf (ranks : List ℕ) (rows : List (Board × WinEntry)) : Type 0 where
  pub rising : IsStrictlyIncreasing ranks
  pub are : (r : ℕ) → Contains ranks r ↔ Contains (ranks_of rows) r

-- the first short rank plus the place of the rank among these, from 0
abbrev pub short_rank : List ℕ → ℕ → ℕ
short_rank ranks rank = FIRST_SHORT_RANK + position_or_len (λ r. r == rank) ranks

abbrev pub short_row : List ℕ → Board × WinEntry → Board × WinEntry
short_row ranks row = (row.0, record row.1 { rank = short_rank ranks row.1.rank })

-- the same list, each rank replaced so
pub record IsShortened (part short : WinList) : Type 0 where
  pub ranks : List ℕ
  pub are : AreRanksOf ranks part.entries
  pub is : short ≡ record part { entries = map (short_row ranks) part.entries }

-- ---- laws

-- There is one such list.
abbrev pub OneShortPart : Type 0
OneShortPart = (part a b : WinList) → IsShortened part a → IsShortened part b → a ≡ b

-- Of a good part it is a good one, which reaches what the part reached: ranks of tables are below
-- the short ones.
abbrev pub ShortPartsAreGood : Type 0
ShortPartsAreGood =
    (k : ℕ) (answer : Board → Option Answer) → k ≤ 3 → IsSoundTable draughts k answer
    → (part short : WinList) → IsShortened part short → IsGoodWinPart part answer
    → IsGoodWinPart short answer
    × ((r : ℕ) (p : Board) → IsReached part answer r p → (m : ℕ) × IsReached short answer m p)
