use Rattle.std.proofs.Common.{arith, ◌≡◌, decimal}
use Rattle.std.proofs.lemmas.Grind.{common_steps}
use Rattle.std.proofs.lemmas.Fmt.{decimal_injective}
use Rattle.bench_edges.proofs.words.number_at.Goals as goal

pub returns-in_default-clause-other : goal.returns-in_default-clause-other
returns-in_default-clause-other c within n least small same =
    let digits : decimal c.in-Some.n ≡ decimal n = grind (arith, common_steps) in
    let one = decimal_injective c.in-Some.n n (omega arith) (omega arith) digits in omega arith

pub returns-in_default-2-clause-other : goal.returns-in_default-2-clause-other
returns-in_default-2-clause-other c within n least small same =
    let digits : decimal c.in-Some.n ≡ decimal n = grind (arith, common_steps) in
    let one = decimal_injective c.in-Some.n n (omega arith) (omega arith) digits in omega arith
