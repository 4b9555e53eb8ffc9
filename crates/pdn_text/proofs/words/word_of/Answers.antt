use Rattle.std.proofs.Common.{◌≡◌, ◌∙◌, false, sym}
use Rattle.pdn_text.specs.Words.{is_result, IsPair}
use Rattle.pdn_text.proofs.PairWords.{pair_word_of}
use Rattle.pdn_text.proofs.words.word_of.Goals as goal

pub returns-in-Some : goal.returns-in-Some
returns-in-Some c =
    let word = c.args.word.now in
    let none : is_result word ≡ false = sym c.is_result.ensures ∙ c.if-is_result.false in
    let pair : IsPair word c.in-Some.first c.in-Some.last = c.in-Some.ensures in
    c.pair_word.ensures ∙ pair_word_of word c.in-Some.first c.in-Some.last none pair
