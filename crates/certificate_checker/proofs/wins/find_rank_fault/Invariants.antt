use Rattle.std.proofs.Common.{◌≡◌, true, false, take}
use Rattle.std.specs.Prelude.{All, Contains}
use Rattle.draughts_board.specs.Board.{Board}
use Rattle.strategy_certificate.specs.Certificates.{IsReachedBelow}
use Rattle.certificate_checker.specs.Faults.{IsShownWon}
use Rattle.certificate_checker.proofs.wins.find_rank_fault.Given as goal

abbrev pub invariant-loop-q : goal.invariant-loop-q
invariant-loop-q g l =
    let answer = g.O.Oracle.answer_at l.oracle in
    record {
      won : All (IsShownWon l.part answer) (take l.q-index l.due);
      below : l.late ≡ false → All (IsReachedBelow l.part answer l.rank) (take l.q-index l.due);
      late : l.late ≡ true → (q : Board) × (Contains l.due q × (IsReachedBelow l.part answer l.rank q → ⊥));
    }
