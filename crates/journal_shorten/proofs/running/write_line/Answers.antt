use Rattle.std.proofs.Common.{◌≡◌, ℕ, List, subst}
use Rattle.program_edges.specs.Answers.{TakesFront}
use Rattle.program_edges.proofs.WritingLemmas.{front_taken}
use Rattle.journal_shorten.specs.Texts.{answer_line}
use Rattle.journal_shorten.proofs.running.write_line.Goals as goal

pub returns-in-Err-clause-taken : goal.returns-in-Err-clause-taken
returns-in-Err-clause-taken g c =
    let bytes = c.as_bytes.ensures.value in
    let line = c.deref.ensures in
    let said = c.answer_line.ensures in
    let text : c.as_bytes.result.now ≡ answer_line c.args.answer.now = cc in
    subst (λ (x : List ℕ). TakesFront (g.K.Sink.taken c.args.sink.now) (g.K.Sink.taken c.write_all.new.sink) x) text
    (front_taken c.as_bytes.result.now (g.K.Sink.taken c.args.sink.now) (g.K.Sink.taken c.write_all.new.sink) c.in-Err.ensures.front)
