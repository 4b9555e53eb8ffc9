use Rattle.std.specs.Prelude.{Some, true}
use Rattle.certificate_lines.specs.Lines.{mover_part}
use Rattle.certificate_lines.specs.Steps.{HoldsOn}
use Rattle.certificate_lines.specs.Variations.{HasVariations}
use Rattle.certificate_lines.proofs.drawn.hold_on.Given as goal

abbrev pub invariant-loop-behind : goal.invariant-loop-behind
invariant-loop-behind g l =
    HoldsOn (g.O.Oracle.answer_at l.oracle) l.black l.white l.start l.behind l.moves.items l.end
    × HasVariations (g.O.Oracle.answer_at l.oracle) (λ p. Some (mover_part l.white l.black p)) (λ p. true) l.lengths.varied l.start l.moves.items l.variations.items
