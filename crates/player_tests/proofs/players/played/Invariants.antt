use Rattle.std.proofs.Common.{◌≡◌}
use Rattle.player_tests.proofs.players.played.Given as goal

abbrev pub invariant-loop-reply : goal.invariant-loop-reply
invariant-loop-reply l = l.player.certificate.pieces ≡ l.table.pieces
