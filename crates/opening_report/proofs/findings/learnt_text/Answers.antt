use Rattle.std.proofs.Common.{arith}
use Rattle.opening_report.proofs.FindingLemmas.{learnt_is_line}
use Rattle.opening_report.proofs.findings.learnt_text.Goals as goal

pub returns-clause-line : goal.returns-clause-line
returns-clause-line c = learnt_is_line c.args.number c.args.position.now c.args.claim (omega arith) c.print_fen.ensures.lawful
