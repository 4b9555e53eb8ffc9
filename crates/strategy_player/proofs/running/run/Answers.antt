use Rattle.std.proofs.Common.{◌∙◌, Some, ap, subst}
use Rattle.bench_edges.specs.Words.{texts}
use Rattle.opening_report.specs.Refusals.{refusal_text}
use Rattle.opening_report.specs.declared.refusals.Refusal.{Refusal}
use Rattle.program_edges.specs.Answers.{TakesLine}
use Rattle.program_edges.specs.Statuses.{status_of}
use Rattle.strategy_player.specs.declared.refusals.PlayRefusal.TheVariants.{Run}
use Rattle.strategy_player.proofs.RunLemmas.{answered, hands_no_source, hands_no_words, runs_no_source, runs_no_words}
use Rattle.strategy_player.proofs.WordLemmas.{says_once}
use Rattle.strategy_player.proofs.running.run.Goals as goal

pub returns-in-Err-clause-runs : goal.returns-in-Err-clause-runs
returns-in-Err-clause-runs g c =
    runs_no_words g.S.Source g.K.Sink g.D.Disk (texts c.args.words.now) c.in-Err.cause.at c.args.source.now c.args.sink.now c.refused.new.sink c.args.disk c.refused.result.status
    c.in-Err.ensures.refused (c.refused.ensures.status ∙ ap status_of c.from.ensures)
    (subst (λ (r : Refusal). TakesLine (refusal_text r) (g.K.Sink.taken c.args.sink.now) (g.K.Sink.taken c.refused.new.sink) (g.K.Sink.faults c.args.sink.now) (g.K.Sink.faults c.refused.new.sink)) c.from.ensures c.refused.ensures.line)

pub returns-in-Err-clause-ended : goal.returns-in-Err-clause-ended
returns-in-Err-clause-ended g c =
    hands_no_words g.S.Source g.K.Sink g.D.Disk (texts c.args.words.now) c.in-Err.cause.at c.args.source.now c.args.sink.now c.refused.new.sink c.args.disk c.refused.result.status c.refused.result.refusal
    c.in-Err.ensures.refused (c.refused.ensures.status ∙ ap status_of c.from.ensures)
    (subst (λ (r : Refusal). TakesLine (refusal_text r) (g.K.Sink.taken c.args.sink.now) (g.K.Sink.taken c.refused.new.sink) (g.K.Sink.faults c.args.sink.now) (g.K.Sink.faults c.refused.new.sink)) c.from.ensures c.refused.ensures.line)
    (c.refused.ensures.refusal ∙ ap (λ (r : Refusal). Some (Run r)) c.from.ensures)

pub returns-in-Err-read_source-clause-runs : goal.returns-in-Err-read_source-clause-runs
returns-in-Err-read_source-clause-runs g c =
    let words = texts c.args.words.now in
    let asked = c.in-Ok.request in
    runs_no_source g.S.Source g.K.Sink g.D.Disk words asked.root asked.side c.in-Ok.ensures.request (λ m t said. says_once words asked.root m asked.side t c.in-Ok.ensures.request said)
    c.in-Err-read_source.cause c.args.source.now c.read_source.new.source c.args.sink.now c.refused-in-Err-read_source.new.sink c.args.disk c.refused-in-Err-read_source.result.status
    c.in-Err-read_source.ensures.refused c.read_source.ensures.front c.refused-in-Err-read_source.ensures.status c.refused-in-Err-read_source.ensures.line

pub returns-in-Err-read_source-clause-ended : goal.returns-in-Err-read_source-clause-ended
returns-in-Err-read_source-clause-ended g c =
    let words = texts c.args.words.now in
    let asked = c.in-Ok.request in
    hands_no_source g.S.Source g.K.Sink g.D.Disk words asked.root asked.side c.in-Ok.ensures.request (λ m t said. says_once words asked.root m asked.side t c.in-Ok.ensures.request said)
    c.in-Err-read_source.cause c.args.source.now c.read_source.new.source c.args.sink.now c.refused-in-Err-read_source.new.sink c.args.disk c.refused-in-Err-read_source.result.status c.refused-in-Err-read_source.result.refusal
    c.in-Err-read_source.ensures.refused c.refused-in-Err-read_source.ensures.status c.refused-in-Err-read_source.ensures.line c.refused-in-Err-read_source.ensures.refusal

pub returns : goal.returns
returns g c =
    let words = texts c.args.words.now in
    let asked = c.in-Ok.request in
    let both = answered g.S.Source g.K.Sink g.D.Disk words asked.root asked.side c.in-Ok.ensures.request (λ m t said. says_once words asked.root m asked.side t c.in-Ok.ensures.request said)
    c.deref.ensures.value c.in-Ok-read_source.ensures.input c.in-Ok-read_source.ensures.end c.in-Ok-read_source.ensures.counted c.read_source.ensures.front c.hand_back.ensures.left c.hand_back.ensures.counted
    c.played_root-answer.ensures.shows c.played_root-answer.ensures.settled c.played_root-answer.ensures.refused c.played_root-answer.ensures.causes c.played_root-answer.ensures.accepted c.played_root-answer.ensures.leaves
    c.write_answer-status.ensures.taken c.write_answer-status.ensures.write c.write_answer-status.ensures.status c.write_answer-status.ensures.line c.write_answer-status.ensures.settled c.write_answer-status.ensures.refusal in
    record { runs = both.0; ended = both.1 }
