use Rattle.position_rows.specs.Windows.{AreTaken, AreMissed}
use Rattle.position_rows.proofs.windows.seek.Given as goal

abbrev pub invariant-loop-j : goal.invariant-loop-j
invariant-loop-j g l = AreTaken l.slots l.p l.j × AreMissed l.rows l.slots l.p l.j
