use Rattle.std.proofs.Common.{◌++◌, ◌∙◌, ap, arith}
use Rattle.std.specs.Prelude.{codes, decimal}
use Rattle.opening_report.proofs.LineLemmas.{line-from_test}
use Rattle.opening_report.proofs.RefusalLemmas.{of_entry_is_line, entry_parts}
use Rattle.opening_report.proofs.part_lines.part_entry_line.Goals as goal

pub returns-clause-bytes : goal.returns-clause-bytes
returns-clause-bytes c =
    c.push_str.ensures.bytes
    ∙ ap (λ t. t ++ c.args.wrong.now) (c.push_field.ensures.bytes ∙ ap (λ t. t ++ (codes " entry " ++ decimal c.args.entry)) c.of_part-line.ensures.bytes)
    ∙ entry_parts c.args.part c.args.entry c.args.wrong.now

pub returns-clause-line : goal.returns-clause-line
returns-clause-line c =
    of_entry_is_line c.args.part c.args.entry c.args.wrong.now (omega (arith, c.ranges.part.fits)) (omega (arith, c.ranges.entry.fits)) (line-from_test c.args.wrong.now c.requires.line)
