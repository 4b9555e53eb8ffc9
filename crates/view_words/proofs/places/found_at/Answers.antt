use Rattle.std.proofs.Common.{◌≡◌, ◌≤◌, ◌<◌, ◌∙◌, ◌∷◌, List, ℕ, ap, arith, decimal, length, sym}
use Rattle.std.proofs.lemmas.Fmt.{decimal_injective}
use Rattle.std.proofs.lemmas.Grind.{common_steps}
use Rattle.std.proofs.lemmas.List.{drop-drop}
use Rattle.bench_edges.specs.Words.{texts}
use Rattle.bench_edges.proofs.Texts.{text_at}
use Rattle.view_words.proofs.Languages.{at_front, front_is, past_front}
use Rattle.view_words.proofs.places.found_at.Goals as goal

pub returns-then-at-words : goal.returns-then-at-words
returns-then-at-words c n from to rest same =
    let words = texts c.args.words.now in
    let past : length words ≤ c.args.at = grind (arith, common_steps) in
    past_front words c.args.at (decimal n) rest past same

pub returns-in-Some : goal.returns-in-Some
returns-in-Some c =
    let words = texts c.args.words.now in
    let within : c.args.at < length c.args.words.now = grind (arith, common_steps) in
    let inside : c.args.at < length words = grind (arith, common_steps) in
    let is = front_is words c.args.at (decimal c.in-Some.n) inside (text_at c.args.words.now c.args.at _ within ∙ (sym c.as_bytes.ensures.value ∙ c.in-Some.ensures.digits.1)) in
    let read = c.in-Some.ensures.digits in
    (omega (arith, c.if-n-from.true, c.from-in-Some-1.ensures), (omega (arith, read.0, c.from.ensures), is ∙ ap (λ (l : List (List ℕ)). decimal c.in-Some.n ∷ l) (sym (drop-drop 1 c.args.at words))))

pub returns-in_default : goal.returns-in_default
returns-in_default c n from to rest same =
    let words = texts c.args.words.now in
    let within : c.args.at < length c.args.words.now = grind (arith, common_steps) in
    let inside : c.args.at < length words = grind (arith, common_steps) in
    let read = c.in-Some.ensures.digits in
    let digits : decimal c.in-Some.n ≡ decimal n =
    sym read.1 ∙ (c.as_bytes.ensures.value ∙ (sym (text_at c.args.words.now c.args.at _ within) ∙ at_front words c.args.at (decimal n) rest inside same)) in
    let one = decimal_injective c.in-Some.n n (omega arith) (omega arith) digits in omega (arith, from, one, c.if-n-from.false)

pub returns-in_default-2 : goal.returns-in_default-2
returns-in_default-2 c n from to rest same =
    let words = texts c.args.words.now in
    let within : c.args.at < length c.args.words.now = grind (arith, common_steps) in
    let inside : c.args.at < length words = grind (arith, common_steps) in
    c.in_default.ensures.other n (omega (arith, to, c.from.ensures))
    (c.as_bytes.ensures.value ∙ (sym (text_at c.args.words.now c.args.at _ within) ∙ at_front words c.args.at (decimal n) rest inside same))
