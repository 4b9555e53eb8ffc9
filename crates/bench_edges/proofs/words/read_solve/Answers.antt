use Rattle.std.proofs.Common.{rules, ◌≡◌, ℕ, None, Option, unwrap_or, get_or, ap, arith, ◌∙◌}
use Rattle.bench_edges.specs.declared.words.SolveOption.TheVariants.{Workers, Depth, Pieces, Plies, Budget, Lease}
use Rattle.bench_edges.specs.Words.{number_of, texts}
use Rattle.bench_edges.proofs.Settings.{takes_number}
use Rattle.bench_edges.proofs.words.read_solve.Goals as goal

pub overflow_cast-result : goal.overflow_cast-result
overflow_cast-result c =
    let given = c.in_ok-workers.ensures.given in
    let takes = (takes_number Workers given.given given.settings).1 in
    let same : c.unwrap_or.result ≡ number_of Workers given.given = c.unwrap_or.ensures ∙ ap (λ o. unwrap_or o 1) (given.placed Workers) in
    omega (arith, takes, same)

pub overflow_cast-result-2 : goal.overflow_cast-result-2
overflow_cast-result-2 c =
    let given = c.in_ok-workers.ensures.given in
    let takes = (takes_number Depth given.given given.settings).1 in
    let same : c.unwrap_or-2.result ≡ number_of Depth given.given = c.unwrap_or-2.ensures ∙ ap (λ o. unwrap_or o 4) (given.placed Depth) in
    omega (arith, takes, same)

pub overflow_cast-result-3 : goal.overflow_cast-result-3
overflow_cast-result-3 c =
    let given = c.in_ok-workers.ensures.given in
    let takes = (takes_number Pieces given.given given.settings).1 in
    let same : c.unwrap_or-3.result ≡ number_of Pieces given.given = c.unwrap_or-3.ensures ∙ ap (λ o. unwrap_or o 2) (given.placed Pieces) in
    omega (arith, takes, same)

pub overflow_cast-result-4 : goal.overflow_cast-result-4
overflow_cast-result-4 c =
    let given = c.in_ok-workers.ensures.given in
    let takes = (takes_number Plies given.given given.settings).1 in
    let same : c.unwrap_or-4.result ≡ number_of Plies given.given = c.unwrap_or-4.ensures ∙ ap (λ o. unwrap_or o 200) (given.placed Plies) in
    omega (arith, takes, same)

pub returns-clause-command : goal.returns-clause-command
returns-clause-command c =
    let given = c.in_ok-workers.ensures.given in
    record {
      path = given.path;
      given = given.given;
      spelling = given.spelling;
      named = given.named;
      settings = given.settings;
      workers = c.unwrap_or.ensures ∙ ap (λ o. unwrap_or o 1) (given.placed Workers);
      depth = c.unwrap_or-2.ensures ∙ ap (λ o. unwrap_or o 4) (given.placed Depth);
      pieces = c.unwrap_or-3.ensures ∙ ap (λ o. unwrap_or o 2) (given.placed Pieces);
      plies = c.unwrap_or-4.ensures ∙ ap (λ o. unwrap_or o 200) (given.placed Plies);
      budget = c.unwrap_or-5.ensures ∙ ap (λ o. unwrap_or o 1000) (given.placed Budget);
      lease = c.unwrap_or-6.ensures ∙ ap (λ o. unwrap_or o 1000000) (given.placed Lease);
    }
