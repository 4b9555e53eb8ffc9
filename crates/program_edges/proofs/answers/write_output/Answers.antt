use Rattle.std.proofs.Common.{subst}
use Rattle.program_edges.specs.Answers.{TakesFront}
use Rattle.program_edges.proofs.WritingLemmas.{front_taken}
use Rattle.program_edges.proofs.answers.write_output.Goals as goal

pub returns-in-Err-clause-taken : goal.returns-in-Err-clause-taken
returns-in-Err-clause-taken g c =
    subst (TakesFront (g.K.Sink.taken c.args.sink.now) (g.K.Sink.taken c.write_all.new.sink)) c.deref.ensures.value
    (front_taken c.deref.result.now (g.K.Sink.taken c.args.sink.now) (g.K.Sink.taken c.write_all.new.sink) c.in-Err.ensures.front)

pub returns-in-Err-clause-write : goal.returns-in-Err-clause-write
returns-in-Err-clause-write g c is = c.in-Err.ensures.faults.cause.fault
