use Rattle.std.proofs.Common.{arith}
use Rattle.opening_report.proofs.RefusalLemmas.{numbered_twice_is_line}
use Rattle.opening_report.proofs.refusals.numbered_twice.Goals as goal

pub returns-clause-line : goal.returns-clause-line
returns-clause-line c =
    numbered_twice_is_line c.args.first.now c.args.a c.args.second.now c.args.b c.requires.bare.0 (omega (arith, c.ranges.a.fits)) c.requires.bare.1 (omega (arith, c.ranges.b.fits))
