use Rattle.std.proofs.Common.{take}
use Rattle.certificate_lines.specs.Steps.{AddsVariations}
use Rattle.certificate_lines.specs.Variations.{others}
use Rattle.certificate_lines.proofs.variations.push_among.Given as goal

abbrev pub invariant-loop-m : goal.invariant-loop-m
invariant-loop-m g l =
    AddsVariations (g.O.Oracle.answer_at l.oracle) l.part l.fork l.varied (others (take l.m-index l.moves) l.path) l.initial.variations.items l.variations.items
