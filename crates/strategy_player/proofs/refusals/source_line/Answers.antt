use Rattle.std.proofs.Common.{◌++◌, refl, subst, arith, true, ◌≡◌}
use Rattle.std.specs.Prelude.{codes, decimal}
use Rattle.shared_words.proofs.Numerals.{Lacks-decimal}
use Rattle.opening_report.specs.Lines.{is_line}
use Rattle.opening_report.proofs.LineLemmas.{IsLine-append, line-from_test}
use Rattle.strategy_player.specs.Refusals.{fault_words}
use Rattle.strategy_player.proofs.refusals.source_line.Goals as goal

pub returns-clause-line : goal.returns-clause-line
returns-clause-line c =
    let n = c.args.number in
    let last = fault_words c.args.fault in
    let ends = line-from_test last (subst (λ text. is_line text ≡ true) c.fault_words.ensures.words c.fault_words.ensures.line) in
    IsLine-append (codes "refused input line ") (decimal n ++ last) refl (IsLine-append (decimal n) last (Lacks-decimal 10 n refl (omega (arith, c.ranges.number.fits))) ends)
