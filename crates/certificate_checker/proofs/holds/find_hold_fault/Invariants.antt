use Rattle.std.proofs.Common.{take}
use Rattle.std.specs.Prelude.{All}
use Rattle.strategy_certificate.specs.Certificates.{IsGoodHoldEntry}
use Rattle.certificate_checker.proofs.holds.find_hold_fault.Given as goal

abbrev pub invariant-loop-i : goal.invariant-loop-i
invariant-loop-i g l = All (λ row. IsGoodHoldEntry l.part (g.O.Oracle.answer_at l.oracle) row.0 row.1) (take l.i l.part.entries)
