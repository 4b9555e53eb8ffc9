use Rattle.std.proofs.Common.{◌+◌, ◌≡◌, ◌<◌, ◌∙◌, ℕ, List, length, arith}
use Rattle.compaction_staging.proofs.ProgressLemmas.{solve_kept, solve_dropped, solve_within, got_at, map_ok}
use Rattle.compaction_staging.proofs.staging.stage_solve.Goals as goal

pub index-requires : goal.index-requires
index-requires g c =
    let b = c.args.bench.now in
    let names = c.args.naming.now.names in
    let within = solve_within b.state.settings.pieces b.state.forest b.records c.args.place c.note_forest.ensures names.items c.args.naming.now.next c.args.naming.now.begun c.args.naming.now.named c.args.journal.now.staged
    c.requires.so_far c.args.node c.args.position c.args.shown c.requires.at in
    omega (arith, within, names.ok.0)

pub stage_text-requires-clause-enough : goal.stage_text-requires-clause-enough
stage_text-requires-clause-enough g c = (c.args.bench.now.state.settings.pieces, c.requires.enough)

pub returns-in-None-clause-staged : goal.returns-in-None-clause-staged
returns-in-None-clause-staged g c =
    let b = c.args.bench.now in
    let names = c.args.naming.now.names in
    let within = solve_within b.state.settings.pieces b.state.forest b.records c.args.place c.note_forest.ensures names.items c.args.naming.now.next c.args.naming.now.begun c.args.naming.now.named c.args.journal.now.staged
    c.requires.so_far c.args.node c.args.position c.args.shown c.requires.at in
    solve_dropped b.state.settings.pieces b.state.forest b.records c.args.place c.note_forest.ensures names.items c.args.naming.now.next c.args.naming.now.begun c.args.naming.now.named c.args.journal.now.staged
    c.requires.so_far c.args.node c.args.position c.args.shown c.requires.at (got_at names.items c.args.node c.index.result.now _ within c.index.ensures c.in-None.is)

pub returns-in-Some-clause-staged : goal.returns-in-Some-clause-staged
returns-in-Some-clause-staged g c =
    let b = c.args.bench.now in
    let names = c.args.naming.now.names in
    let within = solve_within b.state.settings.pieces b.state.forest b.records c.args.place c.note_forest.ensures names.items c.args.naming.now.next c.args.naming.now.begun c.args.naming.now.named c.args.journal.now.staged
    c.requires.so_far c.args.node c.args.position c.args.shown c.requires.at in
    let is = got_at names.items c.args.node c.index.result.now _ within c.index.ensures c.in-Some.is in
    let s = c.requires.so_far in
    let k = b.state.settings.pieces in
    map_ok c.stage_text.result
    (λ h.
    solve_kept k b.state.forest b.records c.args.place c.note_forest.ensures names.items c.args.naming.now.next c.args.naming.now.begun c.args.naming.now.named c.args.journal.now.staged
    s c.args.node c.in-Some.name c.args.position c.args.shown c.requires.at is c.stage_text.new.named c.stage_text.new.journal.staged (h k s.made c.requires.enough s.spelled))
    c.stage_text.ensures.spelled
