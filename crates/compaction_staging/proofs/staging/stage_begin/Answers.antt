use Rattle.std.proofs.Common.{◌≡◌, ◌<◌, ◌∙◌, ℕ, length, sym, subst, ap, arith, Option, Some, None}
use Rattle.std.specs.Prelude.{IfSome, slice_get, ◌-◌}
use Rattle.proof_tree.specs.Forest.{Forest, nodes, value_of}
use Rattle.compaction_staging.proofs.ProgressLemmas.{begin_there, end_of_settled}
use Rattle.compaction_staging.proofs.staging.stage_begin.Goals as goal

pub settled-requires-clause-there : goal.settled-requires-clause-there
settled-requires-clause-there g c =
    let b = c.args.bench.now in
    let old = c.args.naming.now in
    let there = begin_there b.state.settings.pieces b.state.forest b.records c.args.place c.note_forest.ensures old.names.items old.next old.begun old.named c.args.journal.now.staged c.requires.so_far c.args.p c.requires.at in
    let same = ap (λ (f : Forest). length (nodes f)) c.tree.ensures.forest in
    omega (arith, there, same, c.in-Some.ensures)

pub stage_open-requires-clause-end : goal.stage_open-requires-clause-end
stage_open-requires-clause-end g c =
    let b = c.args.bench.now in
    let old = c.args.naming.now in
    let there = begin_there b.state.settings.pieces b.state.forest b.records c.args.place c.note_forest.ensures old.names.items old.next old.begun old.named c.args.journal.now.staged c.requires.so_far c.args.p c.requires.at in
    end_of_settled c.tree.result.now.forest b.state.forest old.begun c.in-Some.root c.settled.result None c.tree.ensures.forest (omega (arith, c.in-Some.ensures)) there c.settled.ensures.value c.in-None.is

pub stage_settled-requires-clause-end : goal.stage_settled-requires-clause-end
stage_settled-requires-clause-end g c =
    let b = c.args.bench.now in
    let old = c.args.naming.now in
    let there = begin_there b.state.settings.pieces b.state.forest b.records c.args.place c.note_forest.ensures old.names.items old.next old.begun old.named c.args.journal.now.staged c.requires.so_far c.args.p c.requires.at in
    (c.in-Some-settled.field-0, end_of_settled c.tree.result.now.forest b.state.forest old.begun c.in-Some.root c.settled.result (Some c.in-Some-settled.field-0) c.tree.ensures.forest (omega (arith, c.in-Some.ensures)) there c.settled.ensures.value c.in-Some-settled.is)

pub stage_seen-requires-clause-end : goal.stage_seen-requires-clause-end
stage_seen-requires-clause-end g c =
    let b = c.args.bench.now in
    let old = c.args.naming.now in
    let there = begin_there b.state.settings.pieces b.state.forest b.records c.args.place c.note_forest.ensures old.names.items old.next old.begun old.named c.args.journal.now.staged c.requires.so_far c.args.p c.requires.at in
    (c.in-Some-settled.field-0, end_of_settled c.tree.result.now.forest b.state.forest old.begun c.in-Some.root c.settled.result (Some c.in-Some-settled.field-0) c.tree.ensures.forest (omega (arith, c.in-Some.ensures)) there c.settled.ensures.value c.in-Some-settled.is)
