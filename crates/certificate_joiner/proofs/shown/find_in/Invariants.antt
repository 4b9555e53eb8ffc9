use Rattle.std.proofs.Common.{◌≡◌, false, take}
use Rattle.std.specs.Prelude.{All}
use Rattle.certificate_joiner.specs.Strategy.{part_shows}
use Rattle.certificate_joiner.proofs.shown.find_in.Given as goal

abbrev pub invariant-loop-i : goal.invariant-loop-i
invariant-loop-i l = All (λ one. part_shows l.quest.aim l.quest.side one ≡ false) (take l.i l.parts)
