use Rattle.std.proofs.Common.{◌≡◌, ◌+◌, ◌*◌, take}
use Rattle.std.specs.Prelude.{All}
use Rattle.draughts_board.specs.Rules.{after}
use Rattle.strategy_certificate.specs.Certificates.{IsHeld}
use Rattle.leaf_search.specs.Lines.{Continues, MoveFails}
use Rattle.leaf_search.proofs.holds.+hold.Given as goal

abbrev pub decreases-find_hold : goal.decreases-find_hold
decreases-find_hold g l = 4 * l.depth

abbrev pub decreases-try_move : goal.decreases-try_move
decreases-try_move g l = 4 * l.depth + 1

abbrev pub decreases-try_moves : goal.decreases-try_moves
decreases-try_moves g l = 4 * l.depth + 2

abbrev pub decreases-hold_all : goal.decreases-hold_all
decreases-hold_all g l = 4 * l.depth + 1

abbrev pub invariant-try_moves-loop-m : goal.invariant-try_moves-loop-m
invariant-try_moves-loop-m g l = record {
  same : l.part ≡ l.fn.part;
  fails : All (MoveFails (g.O.Oracle.piece_limit l.oracle) l.depth l.fn.part l.p) (take l.m-index l.moves);
}

abbrev pub invariant-hold_all-loop-m : goal.invariant-hold_all-loop-m
invariant-hold_all-loop-m g l =
    let answer = g.O.Oracle.answer_at l.oracle in
    record {
      on : Continues answer l.fn.part l.part;
      held : All (λ m. IsHeld l.part answer (after l.p m)) (take l.m-index l.moves);
    }
