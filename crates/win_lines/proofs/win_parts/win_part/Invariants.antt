use Rattle.std.proofs.Common.{◌≡◌}
use Rattle.strategy_certificate.specs.declared.certificates.Part.TheVariants as parts
use Rattle.strategy_certificate.specs.Claims.{HasShortRanks}
use Rattle.win_lines.proofs.win_parts.win_part.Given as goal

abbrev pub invariant-loop : goal.invariant-loop
invariant-loop g l = (l.part.side ≡ l.fn.side) × HasShortRanks (parts.Win l.part)
