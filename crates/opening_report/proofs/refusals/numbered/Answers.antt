use Rattle.std.proofs.Common.{arith}
use Rattle.opening_report.proofs.RefusalLemmas.{numbered_is_line}
use Rattle.opening_report.proofs.refusals.numbered.Goals as goal

pub returns-clause-line : goal.returns-clause-line
returns-clause-line c = numbered_is_line c.args.label.now c.args.n c.requires.bare (omega (arith, c.ranges.n.fits))
