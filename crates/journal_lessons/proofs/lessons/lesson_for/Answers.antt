use Rattle.std.proofs.Common.{rules, ◌≡◌, ◌≤◌, ◌<◌, ◌+◌, ◌∙◌, length, ap, subst, arith}
use Rattle.std.specs.Prelude.{IsNone, IsTrue, ◌↔◌, false}
use Rattle.draughts_board.specs.Draughts.{draughts}
use Rattle.draughts_board.specs.Game.{is_at_sight}
use Rattle.proof_tree.specs.Forest.{nodes}
use Rattle.proof_tree.specs.declared.tree.TheConstants.{MOST_ROOTS}
use Rattle.journal_lessons.specs.declared.lessons.Lesson.TheVariants as lesson
use Rattle.journal_lessons.proofs.RootLemmas.{both_lesson, full_lesson, lesson_there, sight_lesson}
use Rattle.journal_lessons.proofs.lessons.lesson_for.Goals as goal

pub returns-in-Some : goal.returns-in-Some
returns-in-Some g c =
    lesson_there c.args.tree.now.forest c.lesson_on.ensures.sound c.args.c.now c.in-Some.root c.lesson_on.result c.in-Some.ensures.found.0 c.in-Some.ensures.found.1 c.lesson_on.ensures.lesson

pub returns-then-roots-ge-MOST_ROOTS : goal.returns-then-roots-ge-MOST_ROOTS
returns-then-roots-ge-MOST_ROOTS g c =
    let none : IsNone c.find_root.result = search rules in
    let full : MOST_ROOTS ≤ length (nodes c.args.tree.now.forest) = omega (arith, c.roots.ensures.value, c.if-roots-ge-MOST_ROOTS.true) in
    full_lesson c.args.tree.now.forest c.args.c.now (c.find_root.ensures.none.0 none) full

pub returns-then-not-is_undecided : goal.returns-then-not-is_undecided
returns-then-not-is_undecided g c =
    let roots = c.args.tree.now.forest in
    let none : IsNone c.find_root.result = search rules in
    let few : length (nodes roots) < MOST_ROOTS = omega (arith, c.roots.ensures.value, c.if-roots-ge-MOST_ROOTS.false) in
    let says = subst (λ k. IsTrue c.is_undecided.result ↔ (is_at_sight draughts k c.args.c.now.position ≡ false)) c.requires c.is_undecided.ensures in
    sight_lesson roots c.args.c.now (c.find_root.ensures.none.0 none) few (c.roots-then-not-is_undecided.result + 1) (ap (λ n. n + 1) c.roots-then-not-is_undecided.ensures.value)
    c.is_undecided.result says c.if-not-is_undecided.true

pub returns : goal.returns
returns g c =
    let roots = c.args.tree.now.forest in
    let none : IsNone c.find_root.result = search rules in
    let few : length (nodes roots) < MOST_ROOTS = omega (arith, c.roots.ensures.value, c.if-roots-ge-MOST_ROOTS.false) in
    let says = subst (λ k. IsTrue c.is_undecided.result ↔ (is_at_sight draughts k c.args.c.now.position ≡ false)) c.requires c.is_undecided.ensures in
    ap (λ k. lesson.BeginsAndSolves (c.roots-2.result + 1) k) c.len.ensures.value
    ∙ both_lesson roots c.args.c.now (c.find_root.ensures.none.0 none) few (c.roots-2.result + 1) (ap (λ n. n + 1) c.roots-2.ensures.value)
    c.is_undecided.result says c.if-not-is_undecided.false
