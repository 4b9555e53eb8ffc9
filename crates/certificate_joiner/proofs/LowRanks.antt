-- Ranks of tables are as low as those that a search may give.
use Rattle.std.proofs.Common.{ℕ, ◌≤◌, Option, arith}
use Rattle.draughts_board.specs.Board.{Board}
use Rattle.draughts_board.specs.Draughts.{draughts}
use Rattle.draughts_board.specs.declared.pieces.Side.{Side}
use Rattle.strategy_certificate.specs.declared.entries.TheConstants.{MOST_FOUND_RANK}
use Rattle.strategy_certificate.specs.declared.oracle.Answer.{Answer}
use Rattle.strategy_certificate.specs.Tables.{IsSoundTable, TableWins}
use Rattle.strategy_certificate.proofs.TableRanks.{table_ranks_are_low}

abbrev pub RanksAreLow : ℕ → Type 0
RanksAreLow k =
    (answer : Board → Option Answer) → IsSoundTable draughts k answer
    → (s : Side) (r : ℕ) (p : Board) → TableWins draughts answer s r p → r ≤ MOST_FOUND_RANK

pub ranks_are_low : (k : ℕ) → k ≤ 3 → RanksAreLow k
ranks_are_low k few answer sound s r p wins = let low = table_ranks_are_low k answer few sound s r p wins in omega arith
