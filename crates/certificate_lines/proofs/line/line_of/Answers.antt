use Rattle.std.proofs.Common.{◌≡◌}
use Rattle.strategy_certificate.specs.declared.claims.Claim.TheVariants as claims
use Rattle.certificate_lines.proofs.LineLemmas.{draw_answer, win_answer}
use Rattle.certificate_lines.proofs.line.line_of.Goals as goal

pub returns-in-Win-clause-line : goal.returns-in-Win-clause-line
returns-in-Win-clause-line g c =
    let is : c.args.proved.now.claim ≡ claims.Win c.in-Win.side = rw c.certificate-certificate.ensures.value at c.in-Win.is in
    win_answer c.args.proved.now c.args.lengths.drawn c.in-Win.side c.won_line.result is c.won_line.ensures.line

pub returns-in-Draw-clause-line : goal.returns-in-Draw-clause-line
returns-in-Draw-clause-line g c =
    let is : c.args.proved.now.claim ≡ claims.Draw = rw c.certificate-certificate.ensures.value at c.in-Draw.is in
    draw_answer c.args.proved.now c.args.lengths.drawn c.drawn_line.result is c.drawn_line.ensures.line c.drawn_line.ensures.rank
