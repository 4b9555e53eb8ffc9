use Rattle.std.proofs.Common.{◌≡◌, ◌≢◌, ◌<◌, [], get_or, length, sym, ◌∙◌, arith, inl, inr}
use Rattle.std.proofs.lemmas.Grind.{common_steps}
use Rattle.bench_edges.specs.Words.{texts}
use Rattle.bench_edges.proofs.Texts.{text_at, text_empty, text_eq, text_ne, text_some}
use Rattle.journal_shorten.specs.Words.{IsRefusedAt}
use Rattle.journal_shorten.proofs.WordLemmas.{at_more, at_no_new, at_no_old, at_no_task, at_nothing, at_old_alone, at_task_alone, at_three}
use Rattle.journal_shorten.proofs.words.read_words.Goals as goal
use Rattle.journal_shorten.proofs.words.read_words.Goals.{then-words-eq1-via-then-words-eq1, then-words-eq1-via-else-words-eq1+then-is_empty-2, then-words-eq2-via-then-words-eq2, then-words-eq2-via-else-words-eq2+then-is_empty-3, then-words-eq2-via-else-words-eq2+else-is_empty-3+then-eq}

pub returns-then-is_empty-clause-refused : goal.returns-then-is_empty-clause-refused
returns-then-is_empty-clause-refused c = at_nothing (texts c.args.words.now) (grind (arith, common_steps))

pub returns-in_default-clause-refused : goal.returns-in_default-clause-refused
returns-in_default-clause-refused c =
    let within : 0 < length c.args.words.now = grind (arith, common_steps) in
    at_no_task (texts c.args.words.now) (grind (arith, common_steps)) (λ task same. c.in_default.ensures.none task (sym (text_at c.args.words.now 0 _ within) ∙ same))

pub returns-then-words-eq1-clause-refused : goal.returns-then-words-eq1-clause-refused
returns-then-words-eq1-clause-refused c =
    let words = texts c.args.words.now in
    let within : 0 < length c.args.words.now = grind (arith, common_steps) in
    let is = text_at c.args.words.now 0 _ within ∙ c.in-Some.ensures.some in
    elim c.then-words-eq1.branch [
      | then-words-eq1-via-then-words-eq1 w ↦ at_task_alone words c.in-Some.task (grind (arith, common_steps)) is
      | then-words-eq1-via-else-words-eq1+then-is_empty-2 w ↦ at_no_old words c.in-Some.task (grind (arith, common_steps)) is (text_empty c.args.words.now 1 _ w.is_empty-else-words-eq1.result (grind (arith, common_steps)) w.is_empty-else-words-eq1.ensures w.if-is_empty-2.true)
    ]

pub returns-then-words-eq2-clause-refused : goal.returns-then-words-eq2-clause-refused
returns-then-words-eq2-clause-refused c =
    let words = texts c.args.words.now in
    let first : 0 < length c.args.words.now = grind (arith, common_steps) in
    let within : 1 < length c.args.words.now = grind (arith, common_steps) in
    let is = text_at c.args.words.now 0 _ first ∙ c.in-Some.ensures.some in
    let named : get_or words 1 [] ≢ [] = text_some c.args.words.now 1 _ c.is_empty-else-words-eq1.result within c.is_empty-else-words-eq1.ensures c.if-is_empty-2.false in
    elim c.then-words-eq2.branch [
      | then-words-eq2-via-then-words-eq2 w ↦ at_old_alone words c.in-Some.task (grind (arith, common_steps)) is named
      | then-words-eq2-via-else-words-eq2+then-is_empty-3 w ↦ at_no_new words c.in-Some.task (grind (arith, common_steps)) is named (inl (text_empty c.args.words.now 2 _ w.is_empty-else-words-eq2.result (grind (arith, common_steps)) w.is_empty-else-words-eq2.ensures w.if-is_empty-3.true))
      | then-words-eq2-via-else-words-eq2+else-is_empty-3+then-eq w ↦ at_no_new words c.in-Some.task (grind (arith, common_steps)) is named (inr (text_eq c.args.words.now 2 _ _ w.eq.result (grind (arith, common_steps)) w.eq.ensures w.if-eq.true ∙ sym (text_at c.args.words.now 1 _ within)))
    ]

pub returns-then-words-eq2-clause-each_task : goal.returns-then-words-eq2-clause-each_task
returns-then-words-eq2-clause-each_task c task says =
    let refused : IsRefusedAt (texts c.args.words.now) 2 = returns-then-words-eq2-clause-refused c in absurd (refused.no_request task says)

pub returns-then-words-gt3-clause-refused : goal.returns-then-words-gt3-clause-refused
returns-then-words-gt3-clause-refused c =
    let words = texts c.args.words.now in
    let first : 0 < length c.args.words.now = grind (arith, common_steps) in
    let second : 1 < length c.args.words.now = grind (arith, common_steps) in
    let third : 2 < length c.args.words.now = grind (arith, common_steps) in
    at_more words c.in-Some.task (grind (arith, common_steps)) (text_at c.args.words.now 0 _ first ∙ c.in-Some.ensures.some)
    (text_some c.args.words.now 1 _ c.is_empty-else-words-eq1.result second c.is_empty-else-words-eq1.ensures c.if-is_empty-2.false)
    (text_some c.args.words.now 2 _ c.is_empty-else-words-eq2.result third c.is_empty-else-words-eq2.ensures c.if-is_empty-3.false)
    (λ same. text_ne c.args.words.now 2 _ _ c.eq.result third c.eq.ensures c.if-eq.false (same ∙ text_at c.args.words.now 1 _ second))

pub returns-clause-task : goal.returns-clause-task
returns-clause-task c =
    let words = texts c.args.words.now in
    let first : 0 < length c.args.words.now = grind (arith, common_steps) in
    let second : 1 < length c.args.words.now = grind (arith, common_steps) in
    let third : 2 < length c.args.words.now = grind (arith, common_steps) in
    at_three words c.in-Some.task (grind (arith, common_steps)) (text_at c.args.words.now 0 _ first ∙ c.in-Some.ensures.some)
    (text_some c.args.words.now 1 _ c.is_empty-else-words-eq1.result second c.is_empty-else-words-eq1.ensures c.if-is_empty-2.false)
    (text_some c.args.words.now 2 _ c.is_empty-else-words-eq2.result third c.is_empty-else-words-eq2.ensures c.if-is_empty-3.false)
    (λ same. text_ne c.args.words.now 2 _ _ c.eq.result third c.eq.ensures c.if-eq.false (same ∙ text_at c.args.words.now 1 _ second))
