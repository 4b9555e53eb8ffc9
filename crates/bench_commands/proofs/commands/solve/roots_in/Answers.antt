use Rattle.std.proofs.lemmas.Result.{err_from_is_err_and}
use Rattle.bench_commands.proofs.commands.solve.roots_in.Goals as goal

pub returns-in_err-found-clause-accepted : goal.returns-in_err-found-clause-accepted
returns-in_err-found-clause-accepted c =
    let p = err_from_is_err_and c.from_residual.result c.from_residual.ensures.1 in
    rw (p.1, p.2) (λ good. c.in_err-found.ensures.accepted good.1.0 good.0 (record { read = good.1.1.0; opens = good.1.1.1 }))
