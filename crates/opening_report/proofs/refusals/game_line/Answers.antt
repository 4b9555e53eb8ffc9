use Rattle.std.proofs.Common.{arith}
use Rattle.opening_report.proofs.LineLemmas.{line-from_test}
use Rattle.opening_report.proofs.RefusalLemmas.{of_game_is_line}
use Rattle.opening_report.proofs.refusals.game_line.Goals as goal

pub returns-clause-line : goal.returns-clause-line
returns-clause-line c = of_game_is_line c.args.game c.args.words.now (omega (arith, c.ranges.game.fits)) (line-from_test c.args.words.now c.requires.line)
