use Rattle.std.proofs.Common.{◌∙◌, ◌++◌, ◌+◌, drop, map, ap}
use Rattle.certificate_text.specs.Lines.{text_of_lines}
use Rattle.certificate_text.specs.Text.{hold_line}
use Rattle.certificate_text.proofs.Printed.{rows_step}
use Rattle.certificate_text.proofs.printing.push_hold_part.Goals as goal

pub loop-i-preserved : goal.loop-i-preserved
loop-i-preserved c =
    let entries = c.args.part.now.entries in
    ap (λ t. t ++ text_of_lines (map hold_line (drop (c.loop-i.i + 1) entries))) c.in_ok-push_hold_entry.ensures
    ∙ rows_step hold_line entries c.loop-i.i c.entry-p.result c.loop-i.text.items _ c.entry-p.ensures.value c.loop-i.invariant
