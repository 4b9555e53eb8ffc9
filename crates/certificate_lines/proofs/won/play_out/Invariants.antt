use Rattle.std.specs.Prelude.{Some}
use Rattle.certificate_lines.specs.Lines.{worth}
use Rattle.certificate_lines.specs.Steps.{GoesOut}
use Rattle.certificate_lines.specs.Variations.{HasVariations, is_reply}
use Rattle.certificate_lines.proofs.won.play_out.Given as goal

abbrev pub invariant-loop-alloc : goal.invariant-loop-alloc
invariant-loop-alloc g l =
    GoesOut (g.O.Oracle.answer_at l.oracle) l.part l.start l.rank l.moves.items l.end l.left
    × HasVariations (g.O.Oracle.answer_at l.oracle) (λ p. Some l.part) (is_reply l.side) l.varied l.start l.moves.items l.variations.items

abbrev pub decreases-loop-alloc : goal.decreases-loop-alloc
decreases-loop-alloc g l = worth l.left
