use Rattle.std.proofs.Common.{take}
use Rattle.std.specs.Prelude.{All}
use Rattle.certificate_joiner.specs.Shelf.{batches_of}
use Rattle.certificate_joiner.specs.Strategy.{ShowsNone}
use Rattle.certificate_joiner.proofs.shown.find_part.Given as goal

abbrev pub invariant-loop-i : goal.invariant-loop-i
invariant-loop-i l = All (All (ShowsNone l.quest.aim l.quest.side)) (take l.i (batches_of l.n l.shelf.puts))
