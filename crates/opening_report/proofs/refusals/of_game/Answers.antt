use Rattle.std.proofs.Common.{arith}
use Rattle.opening_report.proofs.RefusalLemmas.{game_is_bare}
use Rattle.opening_report.proofs.refusals.of_game.Goals as goal

pub returns-clause-bare : goal.returns-clause-bare
returns-clause-bare c = game_is_bare c.args.game (omega (arith, c.ranges.game.fits))
