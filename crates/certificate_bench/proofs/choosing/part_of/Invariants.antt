use Rattle.std.proofs.Common.{◌≡◌}
use Rattle.draughts_board.specs.declared.pieces.Side.TheVariants.{White}
use Rattle.strategy_certificate.specs.declared.certificates.Part.TheVariants as parts
use Rattle.strategy_certificate.specs.Claims.{HasShortRanks}
use Rattle.certificate_bench.proofs.choosing.part_of.Given as goal

abbrev pub invariant-loop-p : goal.invariant-loop-p
invariant-loop-p l = (l.part.side ≡ White) × HasShortRanks (parts.Win l.part)
