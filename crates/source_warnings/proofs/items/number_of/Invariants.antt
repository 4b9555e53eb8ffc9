use Rattle.std.proofs.Common.{◌≡◌, drop}
use Rattle.source_warnings.specs.Items.{number_of}
use Rattle.source_warnings.proofs.items.number_of.Given as goal

abbrev pub invariant-loop-digit : goal.invariant-loop-digit
invariant-loop-digit l = number_of l.number (drop l.digit-index l.digits) ≡ number_of 0 l.digits
