use Rattle.bench_commands.proofs.WordsLemmas.{hands_by, hands_words, once_read, refused_read, runs_by, runs_no_command, says_read}
use Rattle.bench_commands.proofs.running.run.Goals as goal

pub returns-in-Ok-clause-runs : goal.returns-in-Ok-clause-runs
returns-in-Ok-clause-runs g c words reading =
    runs_by g.S.Source g.K.Sink g.D.Disk words c.in-Ok.command c.args.source.now c.run_command.new.source c.args.sink.now c.run_command.new.sink c.args.disk c.run_command.result.1
    c.run_command.result.0.status (says_read words c.args.said c.in-Ok.command c.in-Ok.is reading) (once_read words c.args.said c.in-Ok.command c.in-Ok.is reading) c.run_command.ensures.runs c.run_command.ensures.unread

pub returns-in-Ok-clause-ended : goal.returns-in-Ok-clause-ended
returns-in-Ok-clause-ended g c words reading =
    hands_by g.D.Disk words c.in-Ok.command (g.S.Source.left c.args.source.now) (g.S.Source.left c.run_command.new.source) (g.S.Source.faults c.args.source.now) (g.S.Source.faults c.run_command.new.source)
    c.args.disk c.run_command.result.1 (g.K.Sink.taken c.args.sink.now) (g.K.Sink.taken c.run_command.new.sink) (g.K.Sink.faults c.args.sink.now) (g.K.Sink.faults c.run_command.new.sink) c.run_command.result.0.status
    c.run_command.result.0.refusal (says_read words c.args.said c.in-Ok.command c.in-Ok.is reading) c.run_command.ensures.ended

pub returns-in-Err-clause-runs : goal.returns-in-Err-clause-runs
returns-in-Err-clause-runs g c words reading =
    runs_no_command g.S.Source g.K.Sink g.D.Disk words c.in-Err.refused.at c.args.source.now c.args.sink.now c.refuse.new.sink c.args.disk
    (refused_read words c.args.said c.in-Err.refused c.in-Err.is reading) c.from-refusal.result c.refuse.result c.from-refusal.ensures c.refuse.ensures.status c.refuse.ensures.line c.refuse.ensures.said

pub returns-in-Err-clause-ended : goal.returns-in-Err-clause-ended
returns-in-Err-clause-ended g c words reading =
    hands_words g.D.Disk words c.in-Err.refused.at (g.S.Source.left c.args.source.now) (g.S.Source.faults c.args.source.now) c.args.disk
    (g.K.Sink.taken c.args.sink.now) (g.K.Sink.taken c.refuse.new.sink) (g.K.Sink.faults c.args.sink.now) (g.K.Sink.faults c.refuse.new.sink) (refused_read words c.args.said c.in-Err.refused c.in-Err.is reading)
    c.from-refusal.result c.refuse.result c.from-refusal.ensures c.refuse.ensures.status c.refuse.ensures.line
