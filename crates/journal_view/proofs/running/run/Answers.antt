use Rattle.std.proofs.Common.{◌∙◌, [], Some, ap, subst, inr, refl}
use Rattle.bench_edges.specs.Words.{texts}
use Rattle.opened_games.specs.Opened.{Opened}
use Rattle.opening_report.specs.Refusals.{refusal_text}
use Rattle.opening_report.specs.declared.refusals.Refusal.{Refusal}
use Rattle.program_edges.specs.Answers.{TakesLine}
use Rattle.program_edges.specs.Statuses.{status_of}
use Rattle.journal_view.proofs.RunLemmas.{answered, hands_no_words, runs_no_words, view_no_games, view_no_words, view_with}
use Rattle.view_words.proofs.WordLemmas.{says_once}
use Rattle.journal_view.proofs.running.run.Goals as goal

no_games : Opened
no_games = record { games = []; openings = [] }

pub returns-in-Err-clause-runs : goal.returns-in-Err-clause-runs
returns-in-Err-clause-runs g c =
    view_no_words g.S.Source g.K.Sink g.D.Disk (texts c.args.words.now) c.args.source.now c.args.source.now c.args.sink.now c.refused.new.sink c.args.disk c.args.disk c.refused.result.status
    no_games c.in-Err.cause.at c.in-Err.ensures.refused refl
    (runs_no_words g.K.Sink g.D.Disk no_games (texts c.args.words.now) c.in-Err.cause.at c.args.sink.now c.refused.new.sink c.args.disk c.refused.result.status
    c.in-Err.ensures.refused (c.refused.ensures.status ∙ ap status_of c.from.ensures)
    (subst (λ (r : Refusal). TakesLine (refusal_text r) (g.K.Sink.taken c.args.sink.now) (g.K.Sink.taken c.refused.new.sink) (g.K.Sink.faults c.args.sink.now) (g.K.Sink.faults c.refused.new.sink)) c.from.ensures c.refused.ensures.line))

pub returns-in-Err-clause-ended : goal.returns-in-Err-clause-ended
returns-in-Err-clause-ended g c =
    inr (hands_no_words g.K.Sink g.D.Disk no_games (texts c.args.words.now) c.in-Err.cause.at c.args.sink.now c.refused.new.sink c.args.disk c.refused.result.status c.refused.result.refusal
    c.in-Err.ensures.refused (c.refused.ensures.status ∙ ap status_of c.from.ensures)
    (subst (λ (r : Refusal). TakesLine (refusal_text r) (g.K.Sink.taken c.args.sink.now) (g.K.Sink.taken c.refused.new.sink) (g.K.Sink.faults c.args.sink.now) (g.K.Sink.faults c.refused.new.sink)) c.from.ensures c.refused.ensures.line)
    (c.refused.ensures.refusal ∙ ap (λ (r : Refusal). Some r) c.from.ensures))

pub returns-in-Err-games_for : goal.returns-in-Err-games_for
returns-in-Err-games_for g c =
    let both = view_no_games g.S.Source g.K.Sink g.D.Disk (texts c.args.words.now) c.args.source.now c.games_for.new.source c.args.sink.now c.refused-in-Err-games_for.new.sink c.args.disk c.args.disk
    c.refused-in-Err-games_for.result.status c.in-Ok.request c.in-Ok.ensures.request c.in-Err-games_for.refusal c.refused-in-Err-games_for.result.refusal
    c.in-Err-games_for.ensures.refused refl c.refused-in-Err-games_for.ensures.status c.refused-in-Err-games_for.ensures.line c.refused-in-Err-games_for.ensures.refusal in
    record { runs = both.0; ended = both.1 }

pub returns : goal.returns
returns g c =
    let words = texts c.args.words.now in
    let request = c.in-Ok.request in
    let games = c.in-Ok-games_for.games in
    let both = answered g.K.Sink g.D.Disk games words request c.in-Ok.ensures.request (λ other said. says_once words request other c.in-Ok.ensures.request said)
    c.args.sink.now c.write_answer-status.new.sink c.args.disk c.shown-answer.new.disk c.write_answer-status.result.0 c.shown-answer.ensures.leaves
    c.shown-answer.result c.write_answer-status.result.1
    c.shown-answer.ensures.shows c.shown-answer.ensures.refused c.shown-answer.ensures.causes c.shown-answer.ensures.accepted
    c.write_answer-status.ensures.taken c.write_answer-status.ensures.write c.write_answer-status.ensures.status c.write_answer-status.ensures.line c.write_answer-status.ensures.settled c.write_answer-status.ensures.refusal in
    record {
      runs = view_with g.S.Source g.K.Sink g.D.Disk words c.args.source.now c.games_for.new.source c.args.sink.now c.write_answer-status.new.sink c.args.disk c.shown-answer.new.disk c.write_answer-status.result.0
          request c.in-Ok.ensures.request games (λ other said. says_once words request other c.in-Ok.ensures.request said) c.in-Ok-games_for.ensures.games c.games_for.ensures.unread both.0;
      ended = inr both.1;
    }
