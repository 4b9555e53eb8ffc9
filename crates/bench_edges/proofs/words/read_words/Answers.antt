use Rattle.std.proofs.Common.{◌<◌, ◌≢◌, [], get_or, length, codes, sym, ◌∙◌, arith}
use Rattle.std.proofs.lemmas.Grind.{common_steps}
use Rattle.bench_edges.specs.Words.{texts, IsRefusedAt}
use Rattle.bench_edges.proofs.Grammar.{no_name, one_answer, one_refusal}
use Rattle.bench_edges.proofs.Front.{refused_empty, refused_path, refused_command}
use Rattle.bench_edges.proofs.Texts.{front_read, text_at, text_empty, text_some}
use Rattle.bench_edges.proofs.words.read_words.Goals as goal
use Rattle.bench_edges.proofs.words.read_words.Goals.{then-is_empty-via-then-is_empty, then-is_empty-via-else-is_empty+then-is_empty-2}

pub returns-then-is_empty : goal.returns-then-is_empty
returns-then-is_empty c =
    let words = texts c.args.words.now in
    let refused : IsRefusedAt words 0 = elim c.then-is_empty.branch [
      | then-is_empty-via-then-is_empty w ↦ refused_empty words (grind (arith, common_steps))
      | then-is_empty-via-else-is_empty+then-is_empty-2 w ↦ refused_path words (grind (arith, common_steps)) (text_empty c.args.words.now 0 _ w.is_empty-else-is_empty.result (grind (arith, common_steps)) w.is_empty-else-is_empty.ensures w.if-is_empty-2.true)
    ] in
    one_refusal words 0 refused

pub returns-then-words-eq1 : goal.returns-then-words-eq1
returns-then-words-eq1 c =
    let words = texts c.args.words.now in
    let named : get_or words 0 [] ≢ [] = text_some c.args.words.now 0 _ c.is_empty-else-is_empty.result (grind (arith, common_steps)) c.is_empty-else-is_empty.ensures c.if-is_empty-2.false in
    one_refusal words 1 (refused_command words (grind (arith, common_steps)) named (λ inside. absurd (grind (arith, common_steps))))

pub returns-in_default : goal.returns-in_default
returns-in_default c =
    let words = texts c.args.words.now in
    let named : get_or words 0 [] ≢ [] = text_some c.args.words.now 0 _ c.is_empty-else-is_empty.result (grind (arith, common_steps)) c.is_empty-else-is_empty.ensures c.if-is_empty-2.false in
    let within : 1 < length c.args.words.now = grind (arith, common_steps) in
    let word = text_at c.args.words.now 1 _ within in
    let other = no_name (get_or words 1 []) (λ same. c.in_default.not-solve (sym word ∙ same)) (λ same. c.in_default.not-report (sym word ∙ same)) (λ same. c.in_default.not-certify (sym word ∙ same)) (λ same. c.in_default.not-verify (sym word ∙ same)) (λ same. c.in_default.not-learn (sym word ∙ same)) (λ same. c.in_default.not-table (sym word ∙ same)) (λ same. c.in_default.not-text (sym word ∙ same)) (λ same. c.in_default.not-generate (sym word ∙ same)) in
    one_refusal words 1 (refused_command words (grind (arith, common_steps)) named (λ inside. other))

pub read_solve-requires : goal.read_solve-requires
read_solve-requires c =
    front_read c.args.words.now _ (codes "solve") c.is_empty-else-is_empty.result (grind (arith, common_steps)) c.is_empty-else-is_empty.ensures c.if-is_empty-2.false c.in-solve.is

pub read_table-requires : goal.read_table-requires
read_table-requires c =
    front_read c.args.words.now _ (codes "table") c.is_empty-else-is_empty.result (grind (arith, common_steps)) c.is_empty-else-is_empty.ensures c.if-is_empty-2.false c.in-table.is

pub read_certify-requires : goal.read_certify-requires
read_certify-requires c =
    front_read c.args.words.now _ (codes "certify") c.is_empty-else-is_empty.result (grind (arith, common_steps)) c.is_empty-else-is_empty.ensures c.if-is_empty-2.false c.in-certify.is

pub read_plain-requires-clause-front : goal.read_plain-requires-clause-front
read_plain-requires-clause-front c =
    let front = front_read c.args.words.now _ (codes "report") c.is_empty-else-is_empty.result (grind (arith, common_steps)) c.is_empty-else-is_empty.ensures c.if-is_empty-2.false c.in-report.is in
    record { path = front.0; named = front.1; spelling = front.2 }

pub read_plain-requires-in-verify-clause-front : goal.read_plain-requires-in-verify-clause-front
read_plain-requires-in-verify-clause-front c =
    let front = front_read c.args.words.now _ (codes "verify") c.is_empty-else-is_empty.result (grind (arith, common_steps)) c.is_empty-else-is_empty.ensures c.if-is_empty-2.false c.in-verify.is in
    record { path = front.0; named = front.1; spelling = front.2 }

pub read_plain-requires-in-learn-clause-front : goal.read_plain-requires-in-learn-clause-front
read_plain-requires-in-learn-clause-front c =
    let front = front_read c.args.words.now _ (codes "learn") c.is_empty-else-is_empty.result (grind (arith, common_steps)) c.is_empty-else-is_empty.ensures c.if-is_empty-2.false c.in-learn.is in
    record { path = front.0; named = front.1; spelling = front.2 }

pub read_plain-requires-in-text-clause-front : goal.read_plain-requires-in-text-clause-front
read_plain-requires-in-text-clause-front c =
    let front = front_read c.args.words.now _ (codes "table-check") c.is_empty-else-is_empty.result (grind (arith, common_steps)) c.is_empty-else-is_empty.ensures c.if-is_empty-2.false c.in-text.is in
    record { path = front.0; named = front.1; spelling = front.2 }

pub returns-in-solve : goal.returns-in-solve
returns-in-solve c = one_answer (texts c.args.words.now) c.read_solve.result c.read_solve.ensures.command c.read_solve.ensures.refused

pub returns-in-table : goal.returns-in-table
returns-in-table c = one_answer (texts c.args.words.now) c.read_table.result c.read_table.ensures.command c.read_table.ensures.refused

pub returns-in-certify : goal.returns-in-certify
returns-in-certify c = one_answer (texts c.args.words.now) c.read_certify.result c.read_certify.ensures.command c.read_certify.ensures.refused

pub returns-in-report : goal.returns-in-report
returns-in-report c = one_answer (texts c.args.words.now) c.read_plain.result c.read_plain.ensures.command c.read_plain.ensures.refused

pub returns-in-verify : goal.returns-in-verify
returns-in-verify c = one_answer (texts c.args.words.now) c.read_plain-in-verify.result c.read_plain-in-verify.ensures.command c.read_plain-in-verify.ensures.refused

pub returns-in-learn : goal.returns-in-learn
returns-in-learn c = one_answer (texts c.args.words.now) c.read_plain-in-learn.result c.read_plain-in-learn.ensures.command c.read_plain-in-learn.ensures.refused

pub returns-in-text : goal.returns-in-text
returns-in-text c = one_answer (texts c.args.words.now) c.read_plain-in-text.result c.read_plain-in-text.ensures.command c.read_plain-in-text.ensures.refused

pub read_generate-requires : goal.read_generate-requires
read_generate-requires c =
    front_read c.args.words.now _ (codes "generate") c.is_empty-else-is_empty.result (grind (arith, common_steps)) c.is_empty-else-is_empty.ensures c.if-is_empty-2.false c.in-generate.is

pub returns-in-generate : goal.returns-in-generate
returns-in-generate c = one_answer (texts c.args.words.now) c.read_generate.result c.read_generate.ensures.command c.read_generate.ensures.refused
