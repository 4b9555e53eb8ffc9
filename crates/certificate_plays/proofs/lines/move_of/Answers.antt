use Rattle.std.proofs.Common.{subst}
use Rattle.certificate_plays.specs.Lines.{IsMoveLine}
use Rattle.certificate_plays.proofs.LineLemmas.{empty_line, none_there}
use Rattle.certificate_plays.proofs.lines.move_of.Goals as goal

pub returns-then-is_empty : goal.returns-then-is_empty
returns-then-is_empty c written is =
    empty_line written (subst (λ line. IsMoveLine line written) (none_there c.args.line.now c.is_empty.result c.is_empty.ensures c.if-is_empty.true) is)
