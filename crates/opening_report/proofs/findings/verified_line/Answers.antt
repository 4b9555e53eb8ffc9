use Rattle.opening_report.proofs.FindingLemmas.{verified_is_line}
use Rattle.opening_report.proofs.findings.verified_line.Goals as goal

pub returns-clause-line : goal.returns-clause-line
returns-clause-line c = verified_is_line c.args.position.now c.args.claim c.print_fen.ensures.lawful
