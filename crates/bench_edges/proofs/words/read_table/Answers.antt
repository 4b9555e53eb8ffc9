use Rattle.std.proofs.Common.{ℕ, ◌≡◌, ◌<◌, ◌∷◌, [], arith, codes, inl, length, refl, rules, subst, sym, take}
use Rattle.std.proofs.lemmas.Grind.{common_steps}
use Rattle.strategy_certificate.specs.Tables.{IsTableSize}
use Rattle.bench_edges.specs.Words.{IsRefusedAt, texts}
use Rattle.bench_edges.proofs.Settings.{is_two_or_three}
use Rattle.bench_edges.proofs.ShortWords.{table_numbered, refused_number, refused_behind_number, number_says}
use Rattle.bench_edges.proofs.words.read_table.Goals as goal

pub returns-in_err-pieces-clause-refused : goal.returns-in_err-pieces-clause-refused
returns-in_err-pieces-clause-refused c =
    let words = texts c.args.words.now in
    let front : take 2 words ≡ c.requires.0 ∷ codes "table" ∷ [] = c.requires.2 in
    let inside : 1 < length words = grind (arith, common_steps) in
    let refused : IsRefusedAt words c.in_err-pieces.field-0.0.at =
    subst (λ (at : ℕ). IsRefusedAt words at) (sym c.in_err-pieces.ensures.place) (refused_number (codes "table") IsTableSize _ table_numbered 2 (inl refl) words c.requires.0 inside c.requires.1 front (λ within n size. c.in_err-pieces.ensures.other (grind (arith, common_steps)) n (omega arith) (omega arith))) in
    search (rules, refused)

pub returns-then-words-gt3-clause-refused : goal.returns-then-words-gt3-clause-refused
returns-then-words-gt3-clause-refused c =
    let words = texts c.args.words.now in
    let says = number_says (codes "table") words c.requires.0 c.in_ok-pieces.pieces (grind (arith, common_steps)) c.requires.1 c.requires.2 c.in_ok-pieces.ensures.word in
    refused_behind_number (codes "table") IsTableSize _ table_numbered words c.in_ok-pieces.pieces (is_two_or_three c.in_ok-pieces.pieces c.in_ok-pieces.ensures.least c.in_ok-pieces.ensures.most) (grind (arith, common_steps)) says
