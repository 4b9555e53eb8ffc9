use Rattle.opening_report.proofs.LineLemmas.{line-from_test}
use Rattle.opening_report.proofs.refusals.plain.Goals as goal

pub returns-clause-line : goal.returns-clause-line
returns-clause-line c = line-from_test c.args.text.now c.requires.line
