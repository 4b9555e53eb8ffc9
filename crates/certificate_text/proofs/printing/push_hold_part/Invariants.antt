use Rattle.std.proofs.Common.{◌≡◌, ◌++◌, drop, map}
use Rattle.certificate_text.specs.Lines.{text_of_lines}
use Rattle.certificate_text.specs.Text.{hold_line}
use Rattle.certificate_text.proofs.printing.push_hold_part.Given as goal

abbrev pub invariant-loop-i : goal.invariant-loop-i
invariant-loop-i l = l.text.items ++ text_of_lines (map hold_line (drop l.i l.part.entries)) ≡ l.initial.text.items ++ text_of_lines (map hold_line l.part.entries)
