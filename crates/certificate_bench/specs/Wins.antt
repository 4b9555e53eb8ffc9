-- Positions that White wins.
use Rattle.std.specs.Prelude.{ℕ, Option}
use Rattle.draughts_board.specs.Board.{Board}
use Rattle.draughts_board.specs.Draughts.{draughts}
use Rattle.draughts_board.specs.declared.pieces.Side.TheVariants.{White}
use Rattle.strategy_certificate.specs.declared.oracle.Answer.{Answer}
use Rattle.strategy_certificate.specs.Tables.{TableWins}

-- a rank, and a position that the table shows as won by White at that rank
abbrev pub IsWonByTable : (Board → Option Answer) → ℕ × Board → Type 0
IsWonByTable answer row = TableWins draughts answer White row.0 row.1
