use Rattle.strategy_certificate.specs.Certificates.{IsReached}
use Rattle.certificate_checker.proofs.LeastLemmas.{found_iff_some}
use Rattle.certificate_checker.proofs.parts.has_root.Goals as goal

pub returns-in-Win : goal.returns-in-Win
returns-in-Win g c =
    rw (c.is_some.ensures, c.in-Win.is)
    (found_iff_some (λ r. IsReached c.in-Win.part (g.O.Oracle.answer_at c.args.oracle.now) r c.args.p.now) c.least_rank.result c.least_rank.ensures)
