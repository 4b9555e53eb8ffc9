use Rattle.std.proofs.Common.{sym, ap, ◌∙◌, ◌≡◌, arith}
use Rattle.table_index.specs.Counting.{choose}
use Rattle.table_index.proofs.Choosing.{choose-none, choose-one}
use Rattle.table_index.proofs.counts.choices_of.Goals as goal

pub returns-in-0 : goal.returns-in-0
returns-in-0 c = sym (ap (λ n. choose n c.args.squares) c.in-0.is ∙ choose-none c.args.squares)

pub returns-in-1 : goal.returns-in-1
returns-in-1 c = sym (ap (λ n. choose n c.args.squares) c.in-1.is ∙ choose-one c.args.squares c.requires.squares)

pub returns-in-2 : goal.returns-in-2
returns-in-2 c = c.pairs_of.ensures ∙ sym (ap (λ n. choose n c.args.squares) c.in-2.is)

pub returns-in_default : goal.returns-in_default
returns-in_default c =
    let three : c.args.pieces ≡ 3 = omega arith in
    c.triples_of.ensures ∙ sym (ap (λ n. choose n c.args.squares) three)
