use Rattle.certificate_text.proofs.Squares.{square_some, square_none}
use Rattle.certificate_text.proofs.lines.square.Goals as goal

pub returns-clause-some : goal.returns-clause-some
returns-clause-some c = square_some c.new.result c.in_ok-n.n c.args.text.now c.new.ensures.none c.new.ensures.some c.in_ok-n.ensures.digits.0 c.in_ok-n.ensures.digits.1

pub returns-clause-none : goal.returns-clause-none
returns-clause-none c = square_none c.new.result c.in_ok-n.n c.args.text.now c.new.ensures.none c.in_ok-n.ensures.digits.0 c.in_ok-n.ensures.digits.1
