use Rattle.std.proofs.Common.{◌∙◌, cond, sym, ap}
use Rattle.proof_tree.specs.declared.rows.Mark.{Mark}
use Rattle.journal_lessons.specs.declared.lessons.Lesson.TheVariants as lesson
use Rattle.journal_lessons.specs.Lessons.{is_expanded}
use Rattle.journal_lessons.proofs.RootLemmas.{on_mark, root_there}
use Rattle.journal_lessons.proofs.lessons.lesson_on.Goals as goal

pub mark-mark-requires : goal.mark-mark-requires
mark-mark-requires c = root_there c.args.tree.now.forest c.covers-is_covered.ensures.sound c.args.root c.root_node-node.result c.requires.first c.requires.there c.root_node-node.ensures

pub returns-in-Expanded-clause-lesson : goal.returns-in-Expanded-clause-lesson
returns-in-Expanded-clause-lesson c =
    let root = c.args.root in
    let n = c.root_node-node.result in
    on_mark c.args.tree.now.forest c.covers-is_covered.ensures.sound root n c.requires.first c.requires.there c.root_node-node.ensures
    c.args.claim c.covers-is_covered.result c.mark-mark.result c.covers-is_covered.ensures.covers c.if-is_covered.false c.mark-mark.ensures (lesson.RootExpanded root)
    (sym (ap (λ (m : Mark). cond (is_expanded m) (lesson.RootExpanded root) (lesson.Solves root n)) c.in-Expanded.is))

pub returns-in-Unexpanded-clause-lesson : goal.returns-in-Unexpanded-clause-lesson
returns-in-Unexpanded-clause-lesson c =
    let root = c.args.root in
    let n = c.root_node-node.result in
    on_mark c.args.tree.now.forest c.covers-is_covered.ensures.sound root n c.requires.first c.requires.there c.root_node-node.ensures
    c.args.claim c.covers-is_covered.result c.mark-mark.result c.covers-is_covered.ensures.covers c.if-is_covered.false c.mark-mark.ensures (lesson.Solves root c.number.result)
    (ap (λ k. lesson.Solves root k) c.number.ensures ∙ sym (ap (λ (m : Mark). cond (is_expanded m) (lesson.RootExpanded root) (lesson.Solves root n)) c.in-Unexpanded.is))

pub returns-in-Repeats-clause-lesson : goal.returns-in-Repeats-clause-lesson
returns-in-Repeats-clause-lesson c =
    let root = c.args.root in
    let n = c.root_node-node.result in
    on_mark c.args.tree.now.forest c.covers-is_covered.ensures.sound root n c.requires.first c.requires.there c.root_node-node.ensures
    c.args.claim c.covers-is_covered.result c.mark-mark.result c.covers-is_covered.ensures.covers c.if-is_covered.false c.mark-mark.ensures (lesson.Solves root c.number-in-Repeats.result)
    (ap (λ k. lesson.Solves root k) c.number-in-Repeats.ensures ∙ sym (ap (λ (m : Mark). cond (is_expanded m) (lesson.RootExpanded root) (lesson.Solves root n)) c.in-Repeats.is))
