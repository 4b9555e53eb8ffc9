use Rattle.std.proofs.Common.{◌∙◌, rules}
use Rattle.certificate_checker.proofs.FaultLemmas.{win_verdict}
use Rattle.certificate_checker.proofs.wins.find_fault.Goals as goal

pub returns : goal.returns
returns g c =
    win_verdict c.args.part.now (g.O.Oracle.answer_at c.args.oracle.now) c.args.p.now c.args.entry.now c.find_rank_fault.result c.requires (search rules)
    (rw (c.deref.ensures.value ∙ c.in_ok-due.ensures) at c.find_rank_fault.ensures)
