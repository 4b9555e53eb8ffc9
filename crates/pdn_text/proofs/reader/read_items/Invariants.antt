use Rattle.std.proofs.Common.{length, ◌-◌}
use Rattle.pdn_text.specs.Gathering.{progress}
use Rattle.pdn_text.proofs.Reached.{Reached}
use Rattle.pdn_text.proofs.reader.read_items.Given as goal

abbrev pub invariant-loop-at : goal.invariant-loop-at
invariant-loop-at l = Reached l.text l.at (progress l.gathered)

abbrev pub decreases-loop-at : goal.decreases-loop-at
decreases-loop-at l = length l.text - l.at
