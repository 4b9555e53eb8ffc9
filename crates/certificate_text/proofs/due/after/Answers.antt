use Rattle.std.proofs.Common.{refl, sym, ap, subst}
use Rattle.certificate_text.specs.Lines.{title, table, claim}
use Rattle.certificate_text.specs.Steps.{place_due, Leads}
use Rattle.certificate_text.specs.Places.{at_table, at_position, at_part}
use Rattle.certificate_text.proofs.due.after.Goals as goal

pub returns-in-Title-clause-ok : goal.returns-in-Title-clause-ok
returns-in-Title-clause-ok c = (title, (c.if-is.ensures.0 refl, subst (λ d. Leads (place_due d) title at_table) (sym c.in-Title.is) refl))

pub returns-in-Some-clause-ok : goal.returns-in-Some-clause-ok
returns-in-Some-clause-ok c =
    (table c.in-Some.pieces, (c.in-Some.ensures.some.1, subst (λ d. Leads (place_due d) (table c.in-Some.pieces) (at_position c.in-Some.pieces)) (sym c.in-Table.is) (c.in-Some.ensures.some.0, refl)))

pub returns-in-Some-claim_of-clause-ok : goal.returns-in-Some-claim_of-clause-ok
returns-in-Some-claim_of-clause-ok c =
    (claim c.in-Some-claim_of.claim, (c.in-Some-claim_of.ensures.some, subst (λ d. Leads (place_due d) (claim c.in-Some-claim_of.claim) (at_part c.without_parts.result)) (sym c.in-Claim.is) (ap at_part c.without_parts.ensures)))
