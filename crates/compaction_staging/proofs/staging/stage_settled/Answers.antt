use Rattle.std.proofs.Common.{◌∙◌, ◌≡◌, ◌≤◌, ◌+◌, ◌-◌, ◌++◌, ◌∷◌, [], ℕ, ap, sym, subst, arith}
use Rattle.std.specs.Prelude.{slice_get}
use Rattle.draughts_board.specs.Draughts.{draughts}
use Rattle.strategy_certificate.specs.Tables.{IsSoundTable}
use Rattle.proof_tree.specs.Forest.{nodes}
use Rattle.bench_records.specs.declared.records.BenchRecord.TheVariants.{Begin}
use Rattle.journal_compaction.specs.Names.{unnamed_for}
use Rattle.compaction_staging.proofs.ProgressLemmas.{restaged, solved_begun, root_at, some_value_at, joined_at, few_of}
use Rattle.compaction_staging.proofs.staging.stage_settled.Goals as goal

pub certificate-requires-clause-settled : goal.certificate-requires-clause-settled
certificate-requires-clause-settled g c =
    let b = c.args.bench.now in
    let old = c.args.naming.now in
    let v = c.requires.end.0 in
    let x = root_at b.state.settings.pieces b.state.forest b.records c.args.place c.note_forest.ensures old.names.items old.next old.begun old.named c.args.journal.now.staged c.requires.so_far c.args.p v c.args.root c.requires.at c.requires.end.1 c.requires.root in
    some_value_at (slice_get (nodes b.state.forest) (c.args.root - 1)) x.0 v x.1.0 x.1.1.1

pub shown_by-requires : goal.shown_by-requires
shown_by-requires g c =
    let b = c.args.bench.now in
    let k = b.state.settings.pieces in
    let old = c.args.naming.now in
    let v = c.requires.end.0 in
    let answer = g.O.Oracle.answer_at c.args.oracle.now in
    let x = root_at k b.state.forest b.records c.args.place c.note_forest.ensures old.names.items old.next old.begun old.named c.args.journal.now.staged c.requires.so_far c.args.p v c.args.root c.requires.at c.requires.end.1 c.requires.root in
    let j = joined_at k (slice_get (nodes b.state.forest) (c.args.root - 1)) x.0 v c.args.p c.in_ok-certificate.certificate x.1.0 x.1.1.1 x.1.1.0 c.in_ok-certificate.ensures in
    (k, (few_of c.pieces-pieces.result _ k c.pieces-pieces.ensures.range c.pieces-pieces.ensures.value c.requires.tables, (c.args.p, (v, (j, (answer, subst (λ n. IsSoundTable draughts n answer) c.requires.tables c.pieces-pieces.ensures.sound))))))

pub stage_text-requires-2-clause-enough : goal.stage_text-requires-2-clause-enough
stage_text-requires-2-clause-enough g c =
    let b = c.args.bench.now in
    let k = b.state.settings.pieces in
    let old = c.args.naming.now in
    let v = c.requires.end.0 in
    let answer = g.O.Oracle.answer_at c.args.oracle.now in
    let x = root_at k b.state.forest b.records c.args.place c.note_forest.ensures old.names.items old.next old.begun old.named c.args.journal.now.staged c.requires.so_far c.args.p v c.args.root c.requires.at c.requires.end.1 c.requires.root in
    let j = joined_at k (slice_get (nodes b.state.forest) (c.args.root - 1)) x.0 v c.args.p c.in_ok-certificate.certificate x.1.0 x.1.1.1 x.1.1.0 c.in_ok-certificate.ensures in
    let shows = c.in_ok-shown.ensures k c.args.p v (few_of c.pieces-pieces.result _ k c.pieces-pieces.ensures.range c.pieces-pieces.ensures.value c.requires.tables) answer
    (subst (λ n. IsSoundTable draughts n answer) c.requires.tables c.pieces-pieces.ensures.sound) j in
    (k, shows.enough old.next)

pub returns-clause-staged : goal.returns-clause-staged
returns-clause-staged g c =
    let b = c.args.bench.now in
    let k = b.state.settings.pieces in
    let old = c.args.naming.now in
    let v = c.requires.end.0 in
    let answer = g.O.Oracle.answer_at c.args.oracle.now in
    let x = root_at k b.state.forest b.records c.args.place c.note_forest.ensures old.names.items old.next old.begun old.named c.args.journal.now.staged c.requires.so_far c.args.p v c.args.root c.requires.at c.requires.end.1 c.requires.root in
    let j = joined_at k (slice_get (nodes b.state.forest) (c.args.root - 1)) x.0 v c.args.p c.in_ok-certificate.certificate x.1.0 x.1.1.1 x.1.1.0 c.in_ok-certificate.ensures in
    let shows = c.in_ok-shown.ensures k c.args.p v (few_of c.pieces-pieces.result _ k c.pieces-pieces.ensures.range c.pieces-pieces.ensures.value c.requires.tables) answer
    (subst (λ n. IsSoundTable draughts n answer) c.requires.tables c.pieces-pieces.ensures.sound) j in
    let s = c.requires.so_far in
    let first = c.in_ok-stage_text.ensures.spelled k s.made tt s.spelled in
    let both = c.in_ok-stage_text-2.ensures.spelled k (s.made ++ Begin c.args.p ∷ []) (shows.enough old.next) first in
    restaged k b.state.forest b.records (c.args.place + 1) _ c.push_unnamed.new.names.items (old.next + 1) c.in-Some.next (old.begun + 1) c.in-Some-checked_add.begun
    c.stage_text-2.new.named c.stage_text-2.new.journal.staged
    c.in_ok-push_unnamed.ensures (omega (arith, c.in-Some.ensures)) (omega (arith, c.in-Some-checked_add.ensures))
    (solved_begun k b.state.forest b.records c.args.place c.note_forest.ensures old.names.items old.next old.begun old.named c.args.journal.now.staged s c.args.p v c.in_ok-shown.shown
    c.requires.at c.requires.end.1 c.requires.sight shows c.stage_text-2.new.named c.stage_text-2.new.journal.staged both)
