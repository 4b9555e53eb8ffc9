use Rattle.std.proofs.Common.{◌∙◌, refl, rules}
use Rattle.bench_commands.proofs.RunLemmas.{answered_run, cut_run}
use Rattle.bench_commands.proofs.quiet.run_quiet.Goals as goal

pub returns-in-Ok : goal.returns-in-Ok
returns-in-Ok g c =
    let both = answered_run c.source_limit-limit.ensures c.deref.ensures.value c.in-Ok.ensures.input c.in-Ok.ensures.end c.read_source.ensures.front c.hand_back.ensures.left (c.hand_back.ensures.counted ∙ c.in-Ok.ensures.counted)
    c.quiet_bytes-disk.ensures.answers c.write_answer-status.ensures.taken c.write_answer-status.ensures.status c.write_answer-status.ensures.line c.write_answer-status.ensures.said c.write_answer-status.ensures.write
    c.write_answer-status.ensures.settled c.write_answer-status.ensures.refusal in
    record { runs = both.0; ended = both.1; unread = search rules }

pub returns-in-Err : goal.returns-in-Err
returns-in-Err g c =
    let both = cut_run c.source_limit-limit.ensures c.in-Err.ensures.refused c.read_source.ensures.front c.refuse.ensures.status c.refuse.ensures.line c.refuse.ensures.said refl in
    record { runs = both.0; ended = both.1; unread = search rules }
