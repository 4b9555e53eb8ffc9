use Rattle.std.proofs.Common.{take}
use Rattle.pdn_openings.specs.Playing.{LeadTo}
use Rattle.pdn_openings.proofs.playing.played.Given as goal

abbrev pub invariant-loop-i : goal.invariant-loop-i
invariant-loop-i l = LeadTo l.fn.start (take l.i l.moves) l.here
