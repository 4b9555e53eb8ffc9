use Rattle.std.proofs.Common.{◌<◌, ◌+◌, ◌∙◌, [], arith, drop, get_or, length, sym}
use Rattle.std.proofs.lemmas.Grind.{common_steps}
use Rattle.bench_edges.specs.Words.{texts}
use Rattle.std.proofs.lemmas.List.{drop_more}
use Rattle.view_words.proofs.Languages.{not_cons}
use Rattle.view_words.proofs.places.end_at.Goals as goal

pub returns-then-at-words-clause-more : goal.returns-then-at-words-clause-more
returns-then-at-words-clause-more c none =
    let words = texts c.args.words.now in
    let inside : c.args.at < length words = grind (arith, common_steps) in
    not_cons (get_or words c.args.at []) (drop (c.args.at + 1) words) (sym none ∙ drop_more words c.args.at [] inside)
