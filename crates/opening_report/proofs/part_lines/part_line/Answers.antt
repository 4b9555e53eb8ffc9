use Rattle.std.proofs.Common.{arith}
use Rattle.opening_report.proofs.LineLemmas.{line-from_test}
use Rattle.opening_report.proofs.RefusalLemmas.{of_part_is_line}
use Rattle.opening_report.proofs.part_lines.part_line.Goals as goal

pub returns-clause-line : goal.returns-clause-line
returns-clause-line c = of_part_is_line c.args.part c.args.wrong.now (omega (arith, c.ranges.part.fits)) (line-from_test c.args.wrong.now c.requires.line)
