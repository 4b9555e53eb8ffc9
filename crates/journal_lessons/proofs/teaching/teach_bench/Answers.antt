use Rattle.std.proofs.Common.{◌≡◌, ◌∙◌, ℕ, List, [], ◌∷◌, sym, ap, subst}
use Rattle.bench_records.specs.declared.records.BenchRecord.{BenchRecord}
use Rattle.bench_records.specs.declared.records.BenchRecord.TheVariants.{Begin}
use Rattle.bench_records.specs.Texts.{IsText}
use Rattle.proof_tree.specs.Forest.{Forest}
use Rattle.journal_lessons.specs.Lessons.{lesson_of}
use Rattle.journal_lessons.proofs.LessonLemmas.{begins_root}
use Rattle.journal_lessons.proofs.TeachingLemmas.{before_begun, before_none, begun_grows, may_stage, taught_begins, taught_both, taught_known, taught_so, taught_solves}
use Rattle.journal_lessons.proofs.teaching.teach_bench.Goals as goal

pub begin-requires-clause-absent : goal.begin-requires-clause-absent
begin-requires-clause-absent c =
    let says : c.lesson_for.result ≡ lesson_of c.args.c.pieces c.args.bench.now.state.forest c.args.c = c.lesson_for.ensures ∙ ap (λ (f : Forest). lesson_of c.args.c.pieces f c.args.c) c.tree.ensures.forest in
    (may_stage c.args.bench.now.state.forest c.args.c c.args.bench.now.staged c.lesson_for.result says (ap begins_root c.in-Begins.is) c.requires.staged).0

pub begin-requires-clause-room : goal.begin-requires-clause-room
begin-requires-clause-room c =
    let says : c.lesson_for.result ≡ lesson_of c.args.c.pieces c.args.bench.now.state.forest c.args.c = c.lesson_for.ensures ∙ ap (λ (f : Forest). lesson_of c.args.c.pieces f c.args.c) c.tree.ensures.forest in
    (may_stage c.args.bench.now.state.forest c.args.c c.args.bench.now.staged c.lesson_for.result says (ap begins_root c.in-Begins.is) c.requires.staged).1

pub begin-requires-in-BeginsAndSolves-clause-absent : goal.begin-requires-in-BeginsAndSolves-clause-absent
begin-requires-in-BeginsAndSolves-clause-absent c =
    let says : c.lesson_for.result ≡ lesson_of c.args.c.pieces c.args.bench.now.state.forest c.args.c = c.lesson_for.ensures ∙ ap (λ (f : Forest). lesson_of c.args.c.pieces f c.args.c) c.tree.ensures.forest in
    (may_stage c.args.bench.now.state.forest c.args.c c.args.bench.now.staged c.lesson_for.result says (ap begins_root c.in-BeginsAndSolves.is) c.requires.staged).0

pub begin-requires-in-BeginsAndSolves-clause-room : goal.begin-requires-in-BeginsAndSolves-clause-room
begin-requires-in-BeginsAndSolves-clause-room c =
    let says : c.lesson_for.result ≡ lesson_of c.args.c.pieces c.args.bench.now.state.forest c.args.c = c.lesson_for.ensures ∙ ap (λ (f : Forest). lesson_of c.args.c.pieces f c.args.c) c.tree.ensures.forest in
    (may_stage c.args.bench.now.state.forest c.args.c c.args.bench.now.staged c.lesson_for.result says (ap begins_root c.in-BeginsAndSolves.is) c.requires.staged).1

pub returns-in-Known-clause-taught : goal.returns-in-Known-clause-taught
returns-in-Known-clause-taught c =
    let b = c.args.bench.now in
    let roots = b.state.forest in
    let sound = c.tree.ensures.sound.state.numbered in
    let says : c.lesson_for.result ≡ lesson_of c.args.c.pieces roots c.args.c = c.lesson_for.ensures ∙ ap (λ (f : Forest). lesson_of c.args.c.pieces f c.args.c) c.tree.ensures.forest in
    taught_so b.records roots c.args.c sound c.requires.size c.requires.good c.requires.truth c.in-Known.root c.none.result.root [] _ c.none.ensures.root c.none.ensures.texts
    (taught_known b.records roots c.args.c sound c.requires.size c.requires.good c.requires.truth c.in-Known.root (sym c.in-Known.is ∙ says))

pub returns-in_ok-taught-in-Solves-clause-taught : goal.returns-in_ok-taught-in-Solves-clause-taught
returns-in_ok-taught-in-Solves-clause-taught c =
    let b = c.args.bench.now in
    let roots = b.state.forest in
    let sound = c.tree.ensures.sound.state.numbered in
    let says : c.lesson_for.result ≡ lesson_of c.args.c.pieces roots c.args.c = c.lesson_for.ensures ∙ ap (λ (f : Forest). lesson_of c.args.c.pieces f c.args.c) c.tree.ensures.forest in
    let text = c.in_ok-text-in-Solves.text.items in
    let made = c.in_ok-text-in-Solves.ensures in
    taught_so b.records roots c.args.c sound c.requires.size c.requires.good c.requires.truth c.in-Solves.root c.in_ok-taught-in-Solves.taught.root (text ∷ []) _ c.in_ok-taught-in-Solves.ensures.root c.in_ok-taught-in-Solves.ensures.texts
    (taught_solves b.records roots c.args.c sound c.requires.size c.requires.good c.requires.truth c.in-Solves.root c.in-Solves.node text (sym c.in-Solves.is ∙ says) made.0 made.1.0
    (subst (λ (rs : List BenchRecord). IsText c.args.c.pieces rs made.0 text) (before_none b c.requires.staged) made.1.1))

pub returns-in_ok-taught-in-Begins-clause-taught : goal.returns-in_ok-taught-in-Begins-clause-taught
returns-in_ok-taught-in-Begins-clause-taught c =
    let b = c.args.bench.now in
    let roots = b.state.forest in
    let sound = c.tree.ensures.sound.state.numbered in
    let says : c.lesson_for.result ≡ lesson_of c.args.c.pieces roots c.args.c = c.lesson_for.ensures ∙ ap (λ (f : Forest). lesson_of c.args.c.pieces f c.args.c) c.tree.ensures.forest in
    let text = c.in_ok-text-in-Begins.text.items in
    let p = c.args.c.position in
    let spelled = subst (λ (k : ℕ). IsText k b.records (Begin p) text) (sym c.requires.pieces)
    (subst (λ (rs : List BenchRecord). IsText b.state.settings.pieces rs (Begin p) text) (before_none b c.requires.staged) c.in_ok-text-in-Begins.ensures.text) in
    let grown = begun_grows c.args.c.pieces b c.begin.new.self p c.requires.pieces c.in_ok-text-in-Begins.ensures.staged c.requires.staged c.in_ok-text-in-Begins.ensures.grows in
    taught_so b.records roots c.args.c sound c.requires.size c.requires.good c.requires.truth c.in-Begins.root c.in_ok-taught-in-Begins.taught.root (text ∷ []) _ c.in_ok-taught-in-Begins.ensures.root c.in_ok-taught-in-Begins.ensures.texts
    (taught_begins b.records roots c.args.c sound c.requires.size c.requires.good c.requires.truth c.in-Begins.root text grown.0 (sym c.in-Begins.is ∙ says) spelled grown.1)

pub returns-in_ok-taught-in-BeginsAndSolves-clause-taught : goal.returns-in_ok-taught-in-BeginsAndSolves-clause-taught
returns-in_ok-taught-in-BeginsAndSolves-clause-taught c =
    let b = c.args.bench.now in
    let roots = b.state.forest in
    let sound = c.tree.ensures.sound.state.numbered in
    let says : c.lesson_for.result ≡ lesson_of c.args.c.pieces roots c.args.c = c.lesson_for.ensures ∙ ap (λ (f : Forest). lesson_of c.args.c.pieces f c.args.c) c.tree.ensures.forest in
    let first = c.in_ok-first-in-BeginsAndSolves.first.items in
    let second = c.in_ok-second-in-BeginsAndSolves.second.items in
    let p = c.args.c.position in
    let new = c.begin-in-BeginsAndSolves.new.self in
    let spelled = subst (λ (k : ℕ). IsText k b.records (Begin p) first) (sym c.requires.pieces)
    (subst (λ (rs : List BenchRecord). IsText b.state.settings.pieces rs (Begin p) first) (before_none b c.requires.staged) c.in_ok-first-in-BeginsAndSolves.ensures.text) in
    let grown = begun_grows c.args.c.pieces b new p c.requires.pieces c.in_ok-first-in-BeginsAndSolves.ensures.staged c.requires.staged c.in_ok-first-in-BeginsAndSolves.ensures.grows in
    let made = c.in_ok-second-in-BeginsAndSolves.ensures in
    let behind = subst (λ (rs : List BenchRecord). IsText c.args.c.pieces rs made.0 second) (before_begun b new p c.in_ok-first-in-BeginsAndSolves.ensures.staged c.requires.staged) made.1.1 in
    taught_so b.records roots c.args.c sound c.requires.size c.requires.good c.requires.truth c.in-BeginsAndSolves.root c.in_ok-taught-in-BeginsAndSolves.taught.root (first ∷ second ∷ []) _
    c.in_ok-taught-in-BeginsAndSolves.ensures.root c.in_ok-taught-in-BeginsAndSolves.ensures.texts
    (taught_both b.records roots c.args.c sound c.requires.size c.requires.good c.requires.truth c.in-BeginsAndSolves.root c.in-BeginsAndSolves.node first second grown.0 (sym c.in-BeginsAndSolves.is ∙ says) spelled grown.1
    made.0 made.1.0 behind)
