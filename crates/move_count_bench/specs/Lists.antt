-- How many lists of legal moves there are.
use Rattle.std.specs.Prelude.{ℕ, zero, suc, sum_by}
use Rattle.draughts_board.specs.Board.{Board}
use Rattle.draughts_board.specs.Rules.{after}
use Rattle.draughts_board.specs.Play.{legal_paths}

-- the lists of n legal moves, one after another, from a position
unfoldable pub lists_of : ℕ → Board → ℕ
lists_of zero p = 1
lists_of (suc n) p = sum_by (λ path. lists_of n (after p path)) (legal_paths p)
