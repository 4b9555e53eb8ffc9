use Rattle.std.proofs.Common.{◌≢◌, ◌<◌, [], get_or, length, sym, ◌∙◌, ap, arith}
use Rattle.std.proofs.lemmas.Grind.{common_steps}
use Rattle.bench_edges.specs.Words.{texts}
use Rattle.bench_edges.proofs.Texts.{text_at, text_empty, text_some}
use Rattle.view_words.specs.Words.{IsRefusedAt, kind_word}
use Rattle.view_words.specs.declared.requests.Kind.TheVariants as kind
use Rattle.view_words.proofs.WordLemmas.{at_no_kind, at_no_path, at_nothing, at_path_alone, each_by, is_called}
use Rattle.view_words.proofs.words.read_words.Goals as goal
use Rattle.view_words.proofs.words.read_words.Goals.{then-is_empty-via-then-is_empty, then-is_empty-via-else-is_empty+then-is_empty-2}

pub returns-then-is_empty : goal.returns-then-is_empty
returns-then-is_empty c =
    let words = texts c.args.words.now in
    let refused : IsRefusedAt words 0 = elim c.then-is_empty.branch [
      | then-is_empty-via-then-is_empty w ↦ at_nothing words (grind (arith, common_steps))
      | then-is_empty-via-else-is_empty+then-is_empty-2 w ↦ at_no_path words (grind (arith, common_steps)) (text_empty c.args.words.now 0 _ w.is_empty-else-is_empty.result (grind (arith, common_steps)) w.is_empty-else-is_empty.ensures w.if-is_empty-2.true)
    ] in
    record { request = tt; each_request = λ request says. absurd (refused.no_request request says); refused = refused }

pub returns-then-words-eq1 : goal.returns-then-words-eq1
returns-then-words-eq1 c =
    let words = texts c.args.words.now in
    let named : get_or words 0 [] ≢ [] = text_some c.args.words.now 0 _ c.is_empty-else-is_empty.result (grind (arith, common_steps)) c.is_empty-else-is_empty.ensures c.if-is_empty-2.false in
    let refused : IsRefusedAt words 1 = at_path_alone words (grind (arith, common_steps)) named in
    record { request = tt; each_request = λ request says. absurd (refused.no_request request says); refused = refused }

pub returns-in_default : goal.returns-in_default
returns-in_default c =
    let words = texts c.args.words.now in
    let named : get_or words 0 [] ≢ [] = text_some c.args.words.now 0 _ c.is_empty-else-is_empty.result (grind (arith, common_steps)) c.is_empty-else-is_empty.ensures c.if-is_empty-2.false in
    let within : 1 < length c.args.words.now = grind (arith, common_steps) in
    let refused : IsRefusedAt words 1 = at_no_kind words (grind (arith, common_steps)) named (λ k same. c.in_default.ensures.none k (sym (text_at c.args.words.now 1 _ within) ∙ same)) in
    record { request = tt; each_request = λ request says. absurd (refused.no_request request says); refused = refused }

pub read_roots-requires : goal.read_roots-requires
read_roots-requires c =
    let named : get_or (texts c.args.words.now) 0 [] ≢ [] = text_some c.args.words.now 0 _ c.is_empty-else-is_empty.result (grind (arith, common_steps)) c.is_empty-else-is_empty.ensures c.if-is_empty-2.false in
    let within : 1 < length c.args.words.now = grind (arith, common_steps) in
    let long : 1 < length (texts c.args.words.now) = grind (arith, common_steps) in
    is_called (texts c.args.words.now) kind.Roots long named (text_at c.args.words.now 1 _ within ∙ (c.in-Some.ensures.some ∙ ap kind_word c.in-Roots.is))

pub read_line-requires : goal.read_line-requires
read_line-requires c =
    let named : get_or (texts c.args.words.now) 0 [] ≢ [] = text_some c.args.words.now 0 _ c.is_empty-else-is_empty.result (grind (arith, common_steps)) c.is_empty-else-is_empty.ensures c.if-is_empty-2.false in
    let within : 1 < length c.args.words.now = grind (arith, common_steps) in
    let long : 1 < length (texts c.args.words.now) = grind (arith, common_steps) in
    is_called (texts c.args.words.now) kind.Line long named (text_at c.args.words.now 1 _ within ∙ (c.in-Some.ensures.some ∙ ap kind_word c.in-Line.is))

pub read_tree-requires : goal.read_tree-requires
read_tree-requires c =
    let named : get_or (texts c.args.words.now) 0 [] ≢ [] = text_some c.args.words.now 0 _ c.is_empty-else-is_empty.result (grind (arith, common_steps)) c.is_empty-else-is_empty.ensures c.if-is_empty-2.false in
    let within : 1 < length c.args.words.now = grind (arith, common_steps) in
    let long : 1 < length (texts c.args.words.now) = grind (arith, common_steps) in
    is_called (texts c.args.words.now) kind.Tree long named (text_at c.args.words.now 1 _ within ∙ (c.in-Some.ensures.some ∙ ap kind_word c.in-Tree.is))

pub read_page-requires : goal.read_page-requires
read_page-requires c =
    let named : get_or (texts c.args.words.now) 0 [] ≢ [] = text_some c.args.words.now 0 _ c.is_empty-else-is_empty.result (grind (arith, common_steps)) c.is_empty-else-is_empty.ensures c.if-is_empty-2.false in
    let within : 1 < length c.args.words.now = grind (arith, common_steps) in
    let long : 1 < length (texts c.args.words.now) = grind (arith, common_steps) in
    is_called (texts c.args.words.now) kind.Page long named (text_at c.args.words.now 1 _ within ∙ (c.in-Some.ensures.some ∙ ap kind_word c.in-Page.is))

pub read_records-requires : goal.read_records-requires
read_records-requires c =
    let named : get_or (texts c.args.words.now) 0 [] ≢ [] = text_some c.args.words.now 0 _ c.is_empty-else-is_empty.result (grind (arith, common_steps)) c.is_empty-else-is_empty.ensures c.if-is_empty-2.false in
    let within : 1 < length c.args.words.now = grind (arith, common_steps) in
    let long : 1 < length (texts c.args.words.now) = grind (arith, common_steps) in
    is_called (texts c.args.words.now) kind.Records long named (text_at c.args.words.now 1 _ within ∙ (c.in-Some.ensures.some ∙ ap kind_word c.in-Records.is))

pub returns-in-Roots : goal.returns-in-Roots
returns-in-Roots c =
    let words = texts c.args.words.now in
    record {
      request = c.read_roots.ensures.request;
      each_request = each_by words c.read_roots.result c.read_roots.ensures.request c.read_roots.ensures.refused;
      refused = c.read_roots.ensures.refused;
    }

pub returns-in-Line : goal.returns-in-Line
returns-in-Line c =
    let words = texts c.args.words.now in
    record {
      request = c.read_line.ensures.request;
      each_request = each_by words c.read_line.result c.read_line.ensures.request c.read_line.ensures.refused;
      refused = c.read_line.ensures.refused;
    }

pub returns-in-Tree : goal.returns-in-Tree
returns-in-Tree c =
    let words = texts c.args.words.now in
    record {
      request = c.read_tree.ensures.request;
      each_request = each_by words c.read_tree.result c.read_tree.ensures.request c.read_tree.ensures.refused;
      refused = c.read_tree.ensures.refused;
    }

pub returns-in-Page : goal.returns-in-Page
returns-in-Page c =
    let words = texts c.args.words.now in
    record {
      request = c.read_page.ensures.request;
      each_request = each_by words c.read_page.result c.read_page.ensures.request c.read_page.ensures.refused;
      refused = c.read_page.ensures.refused;
    }

pub returns-in-Records : goal.returns-in-Records
returns-in-Records c =
    let words = texts c.args.words.now in
    record {
      request = c.read_records.ensures.request;
      each_request = each_by words c.read_records.result c.read_records.ensures.request c.read_records.ensures.refused;
      refused = c.read_records.ensures.refused;
    }
