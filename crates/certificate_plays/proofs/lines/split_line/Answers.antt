use Rattle.std.proofs.Common.{◌∙◌, ap}
use Rattle.certificate_plays.specs.Lines.{lines_of}
use Rattle.certificate_plays.proofs.LineLemmas.{some_there, split_there, whole_line}
use Rattle.certificate_plays.proofs.lines.split_line.Goals as goal

pub returns-in-Some-clause-some : goal.returns-in-Some-clause-some
returns-in-Some-clause-some c =
    ap lines_of c.in-Some.ensures.whole ∙ split_there c.in-Some.halves.0.now c.in-Some.halves.1.now c.in-Some.ensures.before

pub returns-in-None-clause-some : goal.returns-in-None-clause-some
returns-in-None-clause-some c =
    whole_line c.args.text.now (some_there c.args.text.now c.is_empty.result c.is_empty.ensures c.if-is_empty.false) c.in-None.ensures.none
