use Rattle.std.proofs.Common.{◌++◌, ◌+◌, ◌≡◌, ◌<◌, ◌∙◌, ℕ, List, length, refl, sym, subst, arith}
use Rattle.std.specs.Prelude.{IsSome}
use Rattle.proof_tree.specs.Forest.{node_at}
use Rattle.compaction_staging.specs.Progress.{IsStaged}
use Rattle.compaction_staging.proofs.ProgressLemmas.{expand_kept, expand_dropped, expand_within, expand_there, got_at, map_ok, none_is_none, kids_at, restaged}
use Rattle.compaction_staging.proofs.staging.stage_expand.Goals as goal

pub index-requires : goal.index-requires
index-requires g c =
    let b = c.args.bench.now in
    let names = c.args.naming.now.names in
    let within = expand_within b.state.settings.pieces b.state.forest b.records c.args.place c.note_forest.ensures names.items c.args.naming.now.next c.args.naming.now.begun c.args.naming.now.named c.args.journal.now.staged
    c.requires.so_far c.args.node c.requires.at in
    omega (arith, within, names.ok.0)

pub unreachable-requires : goal.unreachable-requires
unreachable-requires g c =
    let b = c.args.bench.now in
    let names = c.args.naming.now.names in
    let there = expand_there b.state.settings.pieces b.state.forest b.records c.args.place c.note_forest.ensures names.items c.args.naming.now.next c.args.naming.now.begun c.args.naming.now.named c.args.journal.now.staged
    c.requires.so_far c.args.node c.requires.at in
    none_is_none c.node.result c.in_default.is (c.node.ensures.there.1 (subst (λ f. IsSome (node_at c.args.node f)) (sym c.tree-tree.ensures.forest) there))

pub returns-in-None-clause-staged : goal.returns-in-None-clause-staged
returns-in-None-clause-staged g c =
    let b = c.args.bench.now in
    let old = c.args.naming.now in
    let k = b.state.settings.pieces in
    let s = c.requires.so_far in
    let within = expand_within k b.state.forest b.records c.args.place c.note_forest.ensures old.names.items old.next old.begun old.named c.args.journal.now.staged s c.args.node c.requires.at in
    let there = expand_there k b.state.forest b.records c.args.place c.note_forest.ensures old.names.items old.next old.begun old.named c.args.journal.now.staged s c.args.node c.requires.at in
    let x = kids_at c.tree-tree.result.now.forest b.state.forest c.in-Some.n c.args.node c.children-count.result c.tree-tree.ensures.forest c.in-Some.ensures.value there c.children-count.ensures in
    let none = got_at old.names.items c.args.node c.index.result.now _ within c.index.ensures c.in-None.is in
    map_ok c.push_unnamed.result
    (λ h.
    subst (λ all. IsStaged k b.state.forest b.records (c.args.place + 1) all old.next old.begun old.named c.args.journal.now.staged) (sym h)
    (expand_dropped k b.state.forest b.records c.args.place c.note_forest.ensures old.names.items old.next old.begun old.named c.args.journal.now.staged
    s c.args.node c.children-count.result x.0 c.requires.at none x.1.0 x.1.1))
    c.push_unnamed.ensures

pub returns-in_ok-push_named-in-Some-index-clause-staged : goal.returns-in_ok-push_named-in-Some-index-clause-staged
returns-in_ok-push_named-in-Some-index-clause-staged g c =
    let b = c.args.bench.now in
    let old = c.args.naming.now in
    let k = b.state.settings.pieces in
    let s = c.requires.so_far in
    let count = c.children-count.result in
    let within = expand_within k b.state.forest b.records c.args.place c.note_forest.ensures old.names.items old.next old.begun old.named c.args.journal.now.staged s c.args.node c.requires.at in
    let there = expand_there k b.state.forest b.records c.args.place c.note_forest.ensures old.names.items old.next old.begun old.named c.args.journal.now.staged s c.args.node c.requires.at in
    let x = kids_at c.tree-tree.result.now.forest b.state.forest c.in-Some.n c.args.node count c.tree-tree.ensures.forest c.in-Some.ensures.value there c.children-count.ensures in
    let is = got_at old.names.items c.args.node c.index.result.now _ within c.index.ensures c.in-Some-index.is in
    let next : c.in-Some-checked_add.next ≡ old.next + count = omega (arith, c.in-Some-checked_add.ensures) in
    restaged k b.state.forest b.records (c.args.place + 1) _ c.push_named.new.names.items (old.next + count) c.in-Some-checked_add.next old.begun old.begun
    c.stage_text.new.named c.stage_text.new.journal.staged c.in_ok-push_named-in-Some-index.ensures next refl
    (expand_kept k b.state.forest b.records c.args.place c.note_forest.ensures old.names.items old.next old.begun old.named c.args.journal.now.staged
    s c.args.node c.in-Some-index.name count x.0 c.requires.at is x.1.0 x.1.1 c.stage_text.new.named c.stage_text.new.journal.staged
    (c.in_ok-stage_text-in-Some-index.ensures.spelled k s.made tt s.spelled))
