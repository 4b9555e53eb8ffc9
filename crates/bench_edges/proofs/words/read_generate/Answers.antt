use Rattle.std.proofs.Common.{ℕ, ◌≡◌, ◌<◌, ◌≤◌, ◌∷◌, [], arith, codes, decimal, length, rules, subst, sym, take}
use Rattle.std.proofs.lemmas.Grind.{common_steps}
use Rattle.bench_edges.specs.Words.{IsRefusedAt, texts}
use Rattle.bench_edges.proofs.GenerateWords.{refused_seed, seed_read, refused_count, generate_says, refused_behind_count}
use Rattle.bench_edges.proofs.words.read_generate.Goals as goal

pub returns-in_err-seed-clause-refused : goal.returns-in_err-seed-clause-refused
returns-in_err-seed-clause-refused c =
    let words = texts c.args.words.now in
    let front : take 2 words ≡ c.requires.0 ∷ codes "generate" ∷ [] = c.requires.2 in
    let inside : 1 < length words = grind (arith, common_steps) in
    let refused : IsRefusedAt words c.in_err-seed.field-0.0.at =
    subst (λ (at : ℕ). IsRefusedAt words at) (sym c.in_err-seed.ensures.place) (refused_seed words c.requires.0 inside c.requires.1 front (λ within n size. c.in_err-seed.ensures.other (grind (arith, common_steps)) n (omega arith) size)) in
    search (rules, refused)

pub returns-in_err-count-clause-refused : goal.returns-in_err-count-clause-refused
returns-in_err-count-clause-refused c =
    let words = texts c.args.words.now in
    let inside : 2 < length words = grind (arith, common_steps) in
    let front = seed_read words c.requires.0 c.in_ok-seed.seed inside c.requires.2 c.in_ok-seed.ensures.word in
    let refused : IsRefusedAt words c.in_err-count.field-0.0.at =
    subst (λ (at : ℕ). IsRefusedAt words at) (sym c.in_err-count.ensures.place) (refused_count words c.requires.0 c.in_ok-seed.seed inside c.requires.1 c.in_ok-seed.ensures.most front (λ within n least most. c.in_err-count.ensures.other (grind (arith, common_steps)) n least most)) in
    search (rules, refused)

pub returns-then-words-gt4-clause-refused : goal.returns-then-words-gt4-clause-refused
returns-then-words-gt4-clause-refused c =
    let words = texts c.args.words.now in
    let inside : 2 < length words = grind (arith, common_steps) in
    let front = seed_read words c.requires.0 c.in_ok-seed.seed inside c.requires.2 c.in_ok-seed.ensures.word in
    let says = generate_says words c.requires.0 c.in_ok-seed.seed c.in_ok-count.count (grind (arith, common_steps)) c.requires.1 front c.in_ok-count.ensures.word in
    refused_behind_count words c.in_ok-seed.seed c.in_ok-count.count (c.in_ok-seed.ensures.most, (c.in_ok-count.ensures.least, c.in_ok-count.ensures.most)) (grind (arith, common_steps)) says
