use Rattle.std.proofs.Common.{◌≡◌, map, take}
use Rattle.journal_lessons.proofs.learning.stage_all.Given as goal

abbrev pub invariant-loop-text : goal.invariant-loop-text
invariant-loop-text g l =
    l.journal ≡ record l.fn.journal { staged = map (λ t. t.items) (take l.text-index l.texts) }
