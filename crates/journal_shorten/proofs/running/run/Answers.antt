use Rattle.std.proofs.Common.{subst, sym}
use Rattle.bench_edges.specs.Words.{texts}
use Rattle.journal_shorten.specs.Runs.{Outcome, Runs}
use Rattle.journal_shorten.proofs.RunLemmas.{runs}
use Rattle.journal_shorten.proofs.running.run.Goals as goal

pub returns : goal.returns
returns g c =
    subst (λ (outcome : Outcome). Runs g.A.Disk g.B.Disk g.K.Sink (texts c.args.words.now) c.args.from c.done-answer.result.1 c.args.into c.done-answer.result.2 c.args.sink.now c.write_ended.new.sink c.write_ended.result.status outcome)
    (sym c.write_ended.ensures.answer)
    (runs g.A.Disk g.B.Disk g.K.Sink (texts c.args.words.now) c.args.from c.done-answer.result.1 c.args.into c.done-answer.result.2 c.args.sink.now c.write_ended.new.sink c.write_ended.result.status c.done-answer.result.0
    c.done-answer.ensures c.write_ended.ensures.takes c.write_ended.ensures.write)
