use Rattle.std.proofs.Common.{◌≡◌, ◌-◌, sym, subst}
use Rattle.strategy_certificate.specs.declared.certificates.Part.TheVariants as part
use Rattle.certificate_text.specs.Places.{at_entry}
use Rattle.certificate_text.specs.Steps.{AddsLine, RefusesLine, Advances, settled}
use Rattle.certificate_text.proofs.Fields.{if_ok}
use Rattle.certificate_text.proofs.due.after_entry.Goals as goal

pub returns-in-Err-clause-err : goal.returns-in-Err-clause-err
returns-in-Err-clause-err c =
    subst (λ p. RefusesLine (at_entry c.args.c p c.args.left) c.args.line.now c.args.number c.in-Err.refusal) (sym c.in-Win.is) (c.in-Err.ensures.err c.args.c c.args.left)

pub returns-in-Err-add_hold-clause-err : goal.returns-in-Err-add_hold-clause-err
returns-in-Err-add_hold-clause-err c =
    subst (λ p. RefusesLine (at_entry c.args.c p c.args.left) c.args.line.now c.args.number c.in-Err-add_hold.refusal) (sym c.in-Hold.is) (c.in-Err-add_hold.ensures.err c.args.c c.args.left)
