use Rattle.std.proofs.Common.{◌≡◌, List, ◌++◌}
use Rattle.strategy_certificate.specs.declared.certificates.Part.{Part}
use Rattle.journal_lessons.specs.Lessons.{AreRecordedParts}
use Rattle.journal_lessons.proofs.recorded.recorded_as.Given as goal

abbrev pub invariant-loop-part : goal.invariant-loop-part
invariant-loop-part l =
    (done : List Part) × ((l.fn.c.parts ≡ done ++ l.part-iterator.rest.items)
    × AreRecordedParts l.fn.c.pieces l.fn.c.position done l.shown.items)
