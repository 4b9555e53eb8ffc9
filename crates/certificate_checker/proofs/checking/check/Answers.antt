use Rattle.std.proofs.Common.{◌∙◌, refl, sym, subst, Ok, Err}
use Rattle.std.proofs.lemmas.Bool.{true≢false}
use Rattle.draughts_board.specs.Draughts.{draughts}
use Rattle.strategy_certificate.specs.Tables.{IsSoundTable}
use Rattle.strategy_certificate.specs.Certificates.{IsGoodBy}
use Rattle.strategy_certificate.proofs.PartLemmas.{IsGoodBy-true}
use Rattle.certificate_checker.specs.Refusals.{IsPartRefused, IsRefusal}
use Rattle.certificate_checker.specs.declared.refusals.CheckRefusal.TheVariants.{ClaimNotMet, Memory}
use Rattle.certificate_checker.proofs.RefusalLemmas.{refusal_at-due, exactly, due_fault}
use Rattle.certificate_checker.proofs.checking.check.Goals as goal

pub invariant_of-result : goal.invariant_of-result
invariant_of-result g c =
    let answer = g.O.Oracle.answer_at c.args.oracle.now in
    let sound : IsSoundTable draughts c.args.c.pieces answer = rw c.requires c.pieces-pieces.ensures.sound in
    let good : IsGoodBy answer c.args.c = record {
      due = rw c.as_slice.ensures at (c.are_due.ensures.0 c.if-not-are_due.false);
      parts = rw (c.in-Ok-None.field-0-is, c.as_slice-2.ensures) at c.in-Ok-None.ensures;
    } in
    ((answer, (sound, good)), IsGoodBy-true c.args.c.pieces answer sound c.args.c good)

pub returns-in-Ok-None-clause-claim : goal.returns-in-Ok-None-clause-claim
returns-in-Ok-None-clause-claim g c = (invariant_of-result g c).1

pub returns-in-Ok-None-clause-exact : goal.returns-in-Ok-None-clause-exact
unfolding invariant_of-result
returns-in-Ok-None-clause-exact g c =
    let answer = g.O.Oracle.answer_at c.args.oracle.now in
    exactly answer c.args.c (Ok c.args.c) (refl, (invariant_of-result g c).0.1.1) tt

pub returns-in-Ok-Some-clause-exact : goal.returns-in-Ok-Some-clause-exact
returns-in-Ok-Some-clause-exact g c =
    let answer = g.O.Oracle.answer_at c.args.oracle.now in
    let because : IsPartRefused answer c.args.c c.in-Ok-Some.part c.in-Ok-Some.fault =
    (rw c.as_slice.ensures at (c.are_due.ensures.0 c.if-not-are_due.false), rw (c.in-Ok-Some.field-0-is, c.as_slice-2.ensures) at c.in-Ok-Some.ensures) in
    let due = subst (IsRefusal answer c.args.c) (sym c.refusal_at.ensures) (refusal_at-due answer c.args.c c.in-Ok-Some.part c.in-Ok-Some.fault because) in
    exactly answer c.args.c (Err (c.args.c, c.refusal_at.result)) tt (due_fault answer c.args.c c.refusal_at.result due)

pub returns-then-not-are_due-clause-exact : goal.returns-then-not-are_due-clause-exact
returns-then-not-are_due-clause-exact g c =
    let answer = g.O.Oracle.answer_at c.args.oracle.now in
    exactly answer c.args.c (Err (c.args.c, ClaimNotMet)) tt (refl, λ due. true≢false (sym (c.are_due.ensures.1 (rw c.as_slice.ensures due)) ∙ c.if-not-are_due.true))

pub returns-in-Err-clause-exact : goal.returns-in-Err-clause-exact
returns-in-Err-clause-exact g c =
    exactly (g.O.Oracle.answer_at c.args.oracle.now) c.args.c (Err (c.args.c, Memory c.in-Err.error)) tt tt
