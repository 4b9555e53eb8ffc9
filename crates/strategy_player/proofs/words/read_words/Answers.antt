use Rattle.std.proofs.Common.{◌≡◌, ◌≢◌, ◌<◌, [], get_or, length, decimal, sym, ◌∙◌, arith}
use Rattle.std.proofs.lemmas.Grind.{common_steps}
use Rattle.bench_edges.specs.Words.{texts}
use Rattle.bench_edges.proofs.Texts.{text_at, text_empty, text_some}
use Rattle.strategy_player.specs.Words.{IsRefusedAt}
use Rattle.strategy_player.proofs.WordLemmas.{at_more, at_no_path, at_no_root, at_no_side, at_nothing, at_path_alone, at_root_alone, at_three, says_once}
use Rattle.strategy_player.proofs.words.read_words.Goals as goal
use Rattle.strategy_player.proofs.words.read_words.Goals.{then-is_empty-via-then-is_empty, then-is_empty-via-else-is_empty+then-is_empty-2}

pub returns-then-is_empty : goal.returns-then-is_empty
returns-then-is_empty c =
    let words = texts c.args.words.now in
    let refused : IsRefusedAt words 0 = elim c.then-is_empty.branch [
      | then-is_empty-via-then-is_empty w ↦ at_nothing words (grind (arith, common_steps))
      | then-is_empty-via-else-is_empty+then-is_empty-2 w ↦ at_no_path words (grind (arith, common_steps)) (text_empty c.args.words.now 0 _ w.is_empty-else-is_empty.result (grind (arith, common_steps)) w.is_empty-else-is_empty.ensures w.if-is_empty-2.true)
    ] in
    record { request = tt; each_request = λ root side says. absurd (refused.no_request root side says); refused = refused }

pub returns-then-words-eq1 : goal.returns-then-words-eq1
returns-then-words-eq1 c =
    let words = texts c.args.words.now in
    let named : get_or words 0 [] ≢ [] = text_some c.args.words.now 0 _ c.is_empty-else-is_empty.result (grind (arith, common_steps)) c.is_empty-else-is_empty.ensures c.if-is_empty-2.false in
    let refused : IsRefusedAt words 1 = at_path_alone words (grind (arith, common_steps)) named in
    record { request = tt; each_request = λ root side says. absurd (refused.no_request root side says); refused = refused }

pub returns-in_default : goal.returns-in_default
returns-in_default c =
    let words = texts c.args.words.now in
    let named : get_or words 0 [] ≢ [] = text_some c.args.words.now 0 _ c.is_empty-else-is_empty.result (grind (arith, common_steps)) c.is_empty-else-is_empty.ensures c.if-is_empty-2.false in
    let within : 1 < length c.args.words.now = grind (arith, common_steps) in
    let refused : IsRefusedAt words 1 = at_no_root words (grind (arith, common_steps)) named (λ n number same. c.in_default.ensures.none n number (sym (text_at c.args.words.now 1 _ within) ∙ same)) in
    record { request = tt; each_request = λ root side says. absurd (refused.no_request root side says); refused = refused }

pub returns-then-words-eq2 : goal.returns-then-words-eq2
returns-then-words-eq2 c =
    let words = texts c.args.words.now in
    let named : get_or words 0 [] ≢ [] = text_some c.args.words.now 0 _ c.is_empty-else-is_empty.result (grind (arith, common_steps)) c.is_empty-else-is_empty.ensures c.if-is_empty-2.false in
    let within : 1 < length c.args.words.now = grind (arith, common_steps) in
    let number = c.in-Some.ensures.some in
    let refused : IsRefusedAt words 2 = at_root_alone words c.in-Some.root (grind (arith, common_steps)) named number.0 (text_at c.args.words.now 1 _ within ∙ number.1) in
    record { request = tt; each_request = λ root side says. absurd (refused.no_request root side says); refused = refused }

pub returns-in_default-side_named : goal.returns-in_default-side_named
returns-in_default-side_named c =
    let words = texts c.args.words.now in
    let named : get_or words 0 [] ≢ [] = text_some c.args.words.now 0 _ c.is_empty-else-is_empty.result (grind (arith, common_steps)) c.is_empty-else-is_empty.ensures c.if-is_empty-2.false in
    let within : 2 < length c.args.words.now = grind (arith, common_steps) in
    let number = c.in-Some.ensures.some in
    let refused : IsRefusedAt words 2 = at_no_side words c.in-Some.root (grind (arith, common_steps)) named number.0 (text_at c.args.words.now 1 _ (omega (arith, within)) ∙ number.1)
    (λ side same. c.in_default-side_named.ensures.none side (sym (text_at c.args.words.now 2 _ within) ∙ same)) in
    record { request = tt; each_request = λ root side says. absurd (refused.no_request root side says); refused = refused }

pub returns-then-words-gt3 : goal.returns-then-words-gt3
returns-then-words-gt3 c =
    let words = texts c.args.words.now in
    let named : get_or words 0 [] ≢ [] = text_some c.args.words.now 0 _ c.is_empty-else-is_empty.result (grind (arith, common_steps)) c.is_empty-else-is_empty.ensures c.if-is_empty-2.false in
    let within : 2 < length c.args.words.now = grind (arith, common_steps) in
    let number = c.in-Some.ensures.some in
    let refused : IsRefusedAt words 3 = at_more words c.in-Some.root c.in-Some-side_named.side (grind (arith, common_steps)) named number.0 (text_at c.args.words.now 1 _ (omega (arith, within)) ∙ number.1)
    (text_at c.args.words.now 2 _ within ∙ c.in-Some-side_named.ensures.some) in
    record { request = tt; each_request = λ root side says. absurd (refused.no_request root side says); refused = refused }

pub returns : goal.returns
returns c =
    let words = texts c.args.words.now in
    let named : get_or words 0 [] ≢ [] = text_some c.args.words.now 0 _ c.is_empty-else-is_empty.result (grind (arith, common_steps)) c.is_empty-else-is_empty.ensures c.if-is_empty-2.false in
    let within : 2 < length c.args.words.now = grind (arith, common_steps) in
    let number = c.in-Some.ensures.some in
    let says = at_three words c.in-Some.root c.in-Some-side_named.side (grind (arith, common_steps)) named number.0 (text_at c.args.words.now 1 _ (omega (arith, within)) ∙ number.1)
    (text_at c.args.words.now 2 _ within ∙ c.in-Some-side_named.ensures.some) in
    record { request = says; each_request = λ other another said. (let same = says_once words c.in-Some.root other c.in-Some-side_named.side another says said in cc); refused = tt }
