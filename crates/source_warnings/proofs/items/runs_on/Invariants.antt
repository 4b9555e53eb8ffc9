use Rattle.std.proofs.Common.{◌≡◌, drop, false}
use Rattle.source_warnings.specs.Items.{runs_on}
use Rattle.source_warnings.proofs.items.runs_on.Given as goal

abbrev pub invariant-loop-byte : goal.invariant-loop-byte
invariant-loop-byte l = runs_on l.is_behind_return (drop l.byte-index l.line) ≡ runs_on false l.line
