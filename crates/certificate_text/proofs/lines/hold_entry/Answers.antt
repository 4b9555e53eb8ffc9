use Rattle.std.proofs.Common.{◌∙◌, sym}
use Rattle.certificate_text.proofs.Fields.{if_none, choice_cut}
use Rattle.certificate_text.proofs.lines.hold_entry.Goals as goal

pub returns-in_err-chosen-clause-none : goal.returns-in_err-chosen-clause-none
returns-in_err-chosen-clause-none c =
    if_none c.from_residual.result _ (λ field chosen lacks path same.
    let both = choice_cut _ field _ chosen c.split_field.ensures.field lacks (sym c.split_field.ensures.line ∙ same) in
    c.in_err-chosen.ensures.none chosen path both.1)
