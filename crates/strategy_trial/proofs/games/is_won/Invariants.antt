use Rattle.std.proofs.Common.{◌≡◌}
use Rattle.strategy_trial.proofs.games.is_won.Given as goal

abbrev pub invariant-loop : goal.invariant-loop
invariant-loop l = l.player.certificate.pieces ≡ l.setting.table.now.pieces
