use Rattle.std.proofs.Common.{◌∙◌, sym, ap}
use Rattle.certificate_text.specs.Lines.{squares_text, separator}
use Rattle.certificate_text.proofs.Squares.{same_paths}
use Rattle.certificate_text.proofs.lines.move_with.Goals as goal

pub returns-else-separator-clause-none : goal.returns-else-separator-clause-none
returns-else-separator-clause-none c path whole sep same =
    let found = c.in_ok-chosen.ensures.some in
    let one = same_paths c.args.separator c.in_ok-chosen.chosen path c.requires found.0 whole (sym found.1 ∙ same ∙ ap (λ s. squares_text s path) sep) in
    c.if-separator.false (c.separator.ensures ∙ ap separator (c.path.ensures.value ∙ one) ∙ sep)
