use Rattle.std.proofs.Common.{ℕ, ◌≡◌, ◌<◌, ◌∷◌, [], arith, codes, length, rules, subst, sym, take}
use Rattle.std.proofs.lemmas.Grind.{common_steps}
use Rattle.bench_edges.specs.Words.{IsRefusedAt, IsRootNumber, texts}
use Rattle.bench_edges.proofs.ShortWords.{certify_numbered, refused_number, refused_behind_number, number_says}
use Rattle.bench_edges.proofs.words.read_certify.Goals as goal

pub returns-in_err-root-clause-refused : goal.returns-in_err-root-clause-refused
returns-in_err-root-clause-refused c =
    let words = texts c.args.words.now in
    let front : take 2 words ≡ c.requires.0 ∷ codes "certify" ∷ [] = c.requires.2 in
    let inside : 1 < length words = grind (arith, common_steps) in
    let refused : IsRefusedAt words c.in_err-root.field-0.0.at =
    subst (λ (at : ℕ). IsRefusedAt words at) (sym c.in_err-root.ensures.place) (refused_number (codes "certify") IsRootNumber _ certify_numbered 1 (omega arith, omega arith) words c.requires.0 inside c.requires.1 front (λ within n size. c.in_err-root.ensures.other (grind (arith, common_steps)) n size.0 size.1)) in
    search (rules, refused)

pub returns-then-words-gt3-clause-refused : goal.returns-then-words-gt3-clause-refused
returns-then-words-gt3-clause-refused c =
    let words = texts c.args.words.now in
    let says = number_says (codes "certify") words c.requires.0 c.in_ok-root.root (grind (arith, common_steps)) c.requires.1 c.requires.2 c.in_ok-root.ensures.word in
    refused_behind_number (codes "certify") IsRootNumber _ certify_numbered words c.in_ok-root.root (c.in_ok-root.ensures.least, c.in_ok-root.ensures.most) (grind (arith, common_steps)) says
