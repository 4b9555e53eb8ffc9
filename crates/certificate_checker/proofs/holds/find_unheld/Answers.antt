use Rattle.std.proofs.Common.{arith}
use Rattle.strategy_certificate.specs.Certificates.{IsHeld}
use Rattle.certificate_checker.proofs.ListLemmas.{first_failure, one_more, all_taken}
use Rattle.certificate_checker.proofs.holds.find_unheld.Goals as goal

pub returns-then-not-is_held : goal.returns-then-not-is_held
returns-then-not-is_held g c =
    first_failure (IsHeld c.args.part.now (g.O.Oracle.answer_at c.args.oracle.now)) c.args.due.now c.loop-q.q-index c.q-item.result (omega arith) c.q-item.is
    c.loop-q.invariant (λ held. let is = c.is_held.ensures.1 held in let is_not = c.if-not-is_held.true in cc)

pub loop-q-preserved : goal.loop-q-preserved
loop-q-preserved g c =
    one_more (IsHeld c.args.part.now (g.O.Oracle.answer_at c.args.oracle.now)) c.args.due.now c.loop-q.q-index c.q-item.result (omega arith) c.q-item.is
    c.loop-q.invariant (c.is_held.ensures.0 c.if-not-is_held.false)

pub returns : goal.returns
returns g c = all_taken (IsHeld c.args.part.now (g.O.Oracle.answer_at c.args.oracle.now)) c.args.due.now c.loop-q.q-index (omega arith) c.loop-q.invariant
