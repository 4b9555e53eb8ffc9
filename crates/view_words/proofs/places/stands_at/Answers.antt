use Rattle.std.proofs.Common.{◌<◌, arith, length}
use Rattle.std.proofs.lemmas.Grind.{common_steps}
use Rattle.bench_edges.specs.Words.{texts}
use Rattle.bench_edges.proofs.Texts.{text_eq, text_ne}
use Rattle.view_words.proofs.Languages.{at_front, front_is}
use Rattle.view_words.proofs.places.stands_at.Goals as goal

pub returns-then-at-words-clause-yes : goal.returns-then-at-words-clause-yes
returns-then-at-words-clause-yes c same =
    let words = texts c.args.words.now in
    let within : c.args.at < length c.args.words.now = grind (arith, common_steps) in
    let inside : c.args.at < length words = grind (arith, common_steps) in
    front_is words c.args.at c.args.name.now inside (text_eq c.args.words.now c.args.at _ c.args.name.now c.eq.result within c.eq.ensures same)

pub returns-then-at-words-clause-no : goal.returns-then-at-words-clause-no
returns-then-at-words-clause-no c other rest same =
    let words = texts c.args.words.now in
    let within : c.args.at < length c.args.words.now = grind (arith, common_steps) in
    let inside : c.args.at < length words = grind (arith, common_steps) in
    text_ne c.args.words.now c.args.at _ c.args.name.now c.eq.result within c.eq.ensures other (at_front words c.args.at c.args.name.now rest inside same)
