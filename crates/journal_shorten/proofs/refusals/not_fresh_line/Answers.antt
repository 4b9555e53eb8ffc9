use Rattle.std.proofs.Common.{[], ◌∷◌, ◌++◌, refl, arith}
use Rattle.std.specs.Prelude.{codes, decimal}
use Rattle.shared_words.proofs.Numerals.{Lacks-decimal}
use Rattle.opening_report.proofs.LineLemmas.{IsLine-append, line-from_test}
use Rattle.journal_shorten.proofs.refusals.not_fresh_line.Goals as goal

pub returns-clause-line : goal.returns-clause-line
returns-clause-line c =
    let n = c.args.length in
    IsLine-append (codes "refused journal not-fresh ") (decimal n ++ 10 ∷ []) refl
    (IsLine-append (decimal n) (10 ∷ []) (Lacks-decimal 10 n refl (omega (arith, c.ranges.length.fits))) (line-from_test (10 ∷ []) refl))
