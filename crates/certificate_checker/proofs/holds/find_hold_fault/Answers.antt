use Rattle.std.proofs.Common.{arith, sym}
use Rattle.std.proofs.lemmas.Option.{get_or_from_slice_get}
use Rattle.strategy_certificate.specs.Certificates.{IsGoodHoldEntry}
use Rattle.certificate_checker.proofs.ListLemmas.{nth_after, one_more, all_taken}
use Rattle.certificate_checker.proofs.holds.find_hold_fault.Goals as goal

pub loop-i-preserved : goal.loop-i-preserved
loop-i-preserved g c =
    let row = c.entry-p.result in
    one_more (λ row. IsGoodHoldEntry c.args.part.now (g.O.Oracle.answer_at c.args.oracle.now) row.0 row.1) c.args.part.now.entries c.loop-i.i row (omega arith)
    (sym (get_or_from_slice_get c.args.part.now.entries c.loop-i.i row row c.entry-p.ensures.value))
    c.loop-i.invariant (rw c.in_default.is at c.in_ok-found.ensures)

pub returns : goal.returns
returns g c = all_taken (λ row. IsGoodHoldEntry c.args.part.now (g.O.Oracle.answer_at c.args.oracle.now) row.0 row.1) c.args.part.now.entries c.loop-i.i (omega arith) c.loop-i.invariant

pub returns-in-Some : goal.returns-in-Some
returns-in-Some g c =
    let row = c.entry-p.result in (
      row,
      (
        nth_after (λ row. IsGoodHoldEntry c.args.part.now (g.O.Oracle.answer_at c.args.oracle.now) row.0 row.1) c.args.part.now.entries c.loop-i.i row (omega arith)
            (sym (get_or_from_slice_get c.args.part.now.entries c.loop-i.i row row c.entry-p.ensures.value)) c.loop-i.invariant,
        rw c.in-Some.is at c.in_ok-found.ensures,
      ),
    )
