use Rattle.std.proofs.Common.{take}
use Rattle.proved_book.specs.Walking.{Notes}
use Rattle.proved_book.proofs.walking.note_all.Given as goal

abbrev pub invariant-loop-q : goal.invariant-loop-q
invariant-loop-q g l = Notes (g.S.Strategy.rows l.part) (take l.q-index l.due) l.fn.seen.keys l.seen.keys
