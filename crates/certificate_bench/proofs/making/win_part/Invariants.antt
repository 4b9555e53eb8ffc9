use Rattle.std.proofs.Common.{◌≡◌}
use Rattle.draughts_board.specs.declared.pieces.Side.TheVariants.{White}
use Rattle.strategy_certificate.specs.declared.certificates.Part.TheVariants as parts
use Rattle.strategy_certificate.specs.Claims.{HasShortRanks}
use Rattle.certificate_bench.proofs.making.win_part.Given as goal

abbrev pub invariant-loop-rank : goal.invariant-loop-rank
invariant-loop-rank l = (l.part.side ≡ White) × HasShortRanks (parts.Win l.part)
