use Rattle.std.proofs.Common.{take}
use Rattle.std.specs.Prelude.{All}
use Rattle.strategy_certificate.specs.Certificates.{IsHeld}
use Rattle.certificate_checker.proofs.holds.find_unheld.Given as goal

abbrev pub invariant-loop-q : goal.invariant-loop-q
invariant-loop-q g l = All (IsHeld l.part (g.O.Oracle.answer_at l.oracle)) (take l.q-index l.due)
