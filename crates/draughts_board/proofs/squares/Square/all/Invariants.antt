use Rattle.std.proofs.Common.{◌≡◌, ℕ, ◌+◌, ◌<◌, length, get_or}
use Rattle.draughts_board.proofs.squares.Square.all.Given as goal

abbrev pub invariant-loop-i : goal.invariant-loop-i
invariant-loop-i l = (length l.all ≡ 32) × ((k : ℕ) → k < l.i → get_or l.all k 0 ≡ k + 1)
