use Rattle.std.proofs.Common.{◌∙◌, sym, arith}
use Rattle.std.proofs.lemmas.Fmt.{decimal_injective}
use Rattle.shared_words.proofs.decimals.number_to.Goals as goal

pub returns-else-n-most-clause-other : goal.returns-else-n-most-clause-other
returns-else-n-most-clause-other c n small same =
    let one = decimal_injective c.in_ok-n.n n (omega arith) (omega arith) (sym c.in_ok-n.ensures.digits ∙ same) in omega arith
