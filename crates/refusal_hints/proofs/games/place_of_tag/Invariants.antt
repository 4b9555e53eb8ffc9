use Rattle.std.proofs.Common.{◌-◌, length}
use Rattle.refusal_hints.proofs.games.place_of_tag.Given as goal

abbrev pub decreases-loop-at : goal.decreases-loop-at
decreases-loop-at l = length l.source - l.at
