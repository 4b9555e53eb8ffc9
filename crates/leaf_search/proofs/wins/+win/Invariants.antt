use Rattle.std.proofs.Common.{◌≡◌, ◌+◌, ◌*◌, take}
use Rattle.std.specs.Prelude.{All}
use Rattle.draughts_board.specs.Rules.{after}
use Rattle.leaf_search.specs.Wins.{WinFails, FindsAll}
use Rattle.leaf_search.proofs.wins.+win.Given as goal

abbrev pub decreases-find_win : goal.decreases-find_win
decreases-find_win g l = 3 * l.depth + 1

abbrev pub decreases-look_ahead : goal.decreases-look_ahead
decreases-look_ahead g l = 3 * l.depth

abbrev pub decreases-win_by_move : goal.decreases-win_by_move
decreases-win_by_move g l = 3 * l.depth + 2

abbrev pub decreases-win_all : goal.decreases-win_all
decreases-win_all g l = 3 * l.depth + 2

abbrev pub invariant-win_by_move-loop-m : goal.invariant-win_by_move-loop-m
invariant-win_by_move-loop-m g l = record {
  memo : l.memo ≡ l.fn.memo;
  same : l.part ≡ l.fn.part;
  fails : All (λ m. WinFails (g.O.Oracle.piece_limit l.oracle) l.fn.part.side l.depth (after l.p m)) (take l.m-index l.moves);
}

abbrev pub invariant-win_all-loop-m : goal.invariant-win_all-loop-m
invariant-win_all-loop-m g l = record {
  memo : l.memo ≡ l.fn.memo;
  found : FindsAll (g.O.Oracle.answer_at l.oracle) l.fn.part l.part l.p (take l.m-index l.moves) l.above;
}
