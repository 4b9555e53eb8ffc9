use Rattle.std.proofs.Common.{◌≡◌, ◌≤◌, ◌+◌}
use Rattle.terminal_text.specs.Places.{column_at, line_at}
use Rattle.terminal_text.proofs.places.place_of.Given as goal

abbrev pub invariant-loop-i : goal.invariant-loop-i
invariant-loop-i l = record {
  line : l.line ≡ line_at l.source l.i;
  column : l.column ≡ column_at l.source l.i;
  lines : l.line ≤ l.i + 1;
  columns : l.column ≤ l.i + 1;
}
