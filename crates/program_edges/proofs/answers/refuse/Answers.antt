use Rattle.std.proofs.Common.{◌∙◌}
use Rattle.program_edges.proofs.WritingLemmas.{line_taken}
use Rattle.program_edges.proofs.answers.refuse.Goals as goal

pub returns-clause-line : goal.returns-clause-line
returns-clause-line g c =
    line_taken (g.E.Refused.line_of c.args.refusal.now) c.as_bytes.result.now c.write_all.result (g.K.Sink.taken c.args.sink.now) (g.K.Sink.taken c.write_all.new.sink) (g.K.Sink.faults c.args.sink.now) (g.K.Sink.faults c.write_all.new.sink)
    (c.as_bytes.ensures.value ∙ c.deref.ensures.0 ∙ c.line-line.ensures.text) c.write_all.ensures.whole c.write_all.ensures.front c.write_all.ensures.faults
