use Rattle.std.proofs.Common.{take}
use Rattle.pdn_openings.specs.Openings.{AreOpeningsFrom}
use Rattle.pdn_openings.proofs.opening.all_openings.Given as goal

abbrev pub invariant-loop-i : goal.invariant-loop-i
invariant-loop-i l = AreOpeningsFrom l.plies 1 (take l.i l.games) l.found.items
