use Rattle.std.proofs.Common.{◌-◌, length}
use Rattle.source_warnings.proofs.Steps.{IsRead}
use Rattle.source_warnings.proofs.scan.warnings_of.Given as goal

abbrev pub invariant-loop-found : goal.invariant-loop-found
invariant-loop-found l = IsRead l.source l.asked l.at l.game l.found

abbrev pub decreases-loop-found : goal.decreases-loop-found
decreases-loop-found l = length l.source - l.at
