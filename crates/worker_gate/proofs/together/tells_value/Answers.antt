use Rattle.std.proofs.Common.{◌≡◌, List, All, subst, sym}
use Rattle.draughts_board.specs.Board.{Board}
use Rattle.strategy_certificate.specs.declared.certificates.Certificate.{Certificate}
use Rattle.worker_gate.proofs.SearchingLemmas.{found_here}
use Rattle.worker_gate.proofs.together.tells_value.Goals as goal

pub told_by_all-requires : goal.told_by_all-requires
told_by_all-requires c =
    subst (λ (found : List Certificate). (p : Board) × All (λ d. d.position ≡ p) found) (sym c.as_slice.ensures) (found_here c.args.lease.now c.args.outcome.now _ c.in-Solved.is c.requires)
