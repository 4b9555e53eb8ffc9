use Rattle.std.proofs.Common.{arith}
use Rattle.opening_report.specs.Refusals.{numbered}
use Rattle.opening_report.proofs.RefusalLemmas.{of_game_is_line, numbered_is_line}
use Rattle.opening_report.proofs.refusals.numbered_game_line.Goals as goal

pub returns-clause-line : goal.returns-clause-line
returns-clause-line c =
    of_game_is_line c.args.game (numbered c.args.label.now c.args.n) (omega (arith, c.ranges.game.fits)) (numbered_is_line c.args.label.now c.args.n c.requires.bare (omega (arith, c.ranges.n.fits)))
