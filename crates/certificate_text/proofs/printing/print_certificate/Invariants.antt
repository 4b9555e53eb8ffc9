use Rattle.std.proofs.Common.{◌≡◌, ◌++◌, drop, take}
use Rattle.std.specs.Prelude.{All}
use Rattle.std.specs.List.{flat_map}
use Rattle.certificate_text.specs.Lines.{text_of_lines}
use Rattle.certificate_text.specs.Text.{part_lines, IsPrintedPart}
use Rattle.certificate_text.proofs.printing.print_certificate.Given as goal

abbrev pub invariant-loop-part : goal.invariant-loop-part
invariant-loop-part l = record {
  lines : l.text.items ++ text_of_lines (flat_map part_lines (drop l.part-index l.c.parts)) ≡ l.initial.text.items ++ text_of_lines (flat_map part_lines l.c.parts);
  printed : All IsPrintedPart (take l.part-index l.c.parts);
}
