use Rattle.std.proofs.Common.{take}
use Rattle.std.specs.Prelude.{All}
use Rattle.strategy_certificate.specs.Certificates.{IsGoodPart}
use Rattle.certificate_checker.proofs.parts.find_faulty_part.Given as goal

abbrev pub invariant-loop-i : goal.invariant-loop-i
invariant-loop-i g l = All (IsGoodPart (g.O.Oracle.answer_at l.oracle) l.p) (take l.i l.parts)
