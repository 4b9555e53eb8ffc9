-- A side that moves is stuck exactly where it has no legal move.
use Rattle.std.proofs.Common.{◌≡◌, ℕ, suc, List, [], ◌∷◌, length, arith}
use Rattle.std.specs.Prelude.{◌↔◌, ◌==◌, IsTrue}
use Rattle.std.proofs.lemmas.Bool.{eqb-true, eq-eqb}
use Rattle.draughts_board.specs.Board.{Board}
use Rattle.draughts_board.specs.Rules.{AreLegalPaths}
use Rattle.draughts_board.specs.declared.pieces.Side.{Side}
use Rattle.draughts_board.proofs.Members.{Contains-head, Contains-nil}
use Rattle.certificate_checker.specs.Faults.{IsStuck}

pub stuck_iff_none : (s : Side) (p : Board) (paths : List (List ℕ)) (n : ℕ) → n ≡ length paths → p.to_move ≡ s → AreLegalPaths p paths → IsTrue (n == 0) ↔ IsStuck s p
stuck_iff_none s p [] n count mine legal = (λ _. (mine, λ path it. Contains-nil path (legal.complete path it)), λ _. eq-eqb n 0 count)
stuck_iff_none s p (path ∷ paths) n count mine legal = (
  λ zero. let none : n ≡ 0 = eqb-true n 0 zero in let some : n ≡ suc (length paths) = count in absurd (omega arith),
  λ stuck. absurd (stuck.1 path (legal.sound path (Contains-head path paths))),
)
