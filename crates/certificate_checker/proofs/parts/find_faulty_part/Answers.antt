use Rattle.std.proofs.Common.{arith}
use Rattle.strategy_certificate.specs.Certificates.{IsGoodPart}
use Rattle.certificate_checker.proofs.ListLemmas.{nth_after, one_more, all_taken}
use Rattle.certificate_checker.proofs.parts.find_faulty_part.Goals as goal

pub returns-in-Some : goal.returns-in-Some
returns-in-Some g c = (
  c.index-parts-i.result,
  (
    nth_after (IsGoodPart (g.O.Oracle.answer_at c.args.oracle.now) c.args.p.now) c.args.parts.now c.loop-i.i c.index-parts-i.result (omega arith) c.index-parts-i.is c.loop-i.invariant,
    rw c.in-Some.is at c.in_ok-found.ensures,
  ),
)

pub loop-i-preserved : goal.loop-i-preserved
loop-i-preserved g c =
    one_more (IsGoodPart (g.O.Oracle.answer_at c.args.oracle.now) c.args.p.now) c.args.parts.now c.loop-i.i c.index-parts-i.result (omega arith) c.index-parts-i.is
    c.loop-i.invariant (rw c.in_default.is at c.in_ok-found.ensures)

pub returns : goal.returns
returns g c = all_taken (IsGoodPart (g.O.Oracle.answer_at c.args.oracle.now) c.args.p.now) c.args.parts.now c.loop-i.i (omega arith) c.loop-i.invariant
