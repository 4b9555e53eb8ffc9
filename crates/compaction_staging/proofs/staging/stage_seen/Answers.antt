use Rattle.std.proofs.Common.{◌≡◌, ◌+◌, arith}
use Rattle.compaction_staging.proofs.ProgressLemmas.{restaged, seen_begun}
use Rattle.compaction_staging.proofs.staging.stage_seen.Goals as goal

pub returns-clause-staged : goal.returns-clause-staged
returns-clause-staged g c =
    let b = c.args.bench.now in
    let k = b.state.settings.pieces in
    let old = c.args.naming.now in
    let s = c.requires.so_far in
    restaged k b.state.forest b.records (c.args.place + 1) _ c.push_unnamed.new.names.items (old.next + 1) c.in-Some.next (old.begun + 1) c.in-Some-checked_add.begun
    c.stage_text.new.named c.stage_text.new.journal.staged
    c.in_ok-push_unnamed.ensures (omega (arith, c.in-Some.ensures)) (omega (arith, c.in-Some-checked_add.ensures))
    (seen_begun k b.state.forest b.records c.args.place c.note_forest.ensures old.names.items old.next old.begun old.named c.args.journal.now.staged s c.args.p c.requires.end.0 c.requires.at c.requires.end.1 c.requires.sight
    c.stage_text.new.named c.stage_text.new.journal.staged (c.in_ok-stage_text.ensures.spelled k s.made tt s.spelled))
