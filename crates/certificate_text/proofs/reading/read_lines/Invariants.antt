use Rattle.std.proofs.Common.{◌≤◌, ◌+◌, length}
use Rattle.certificate_text.specs.Steps.{place_due}
use Rattle.certificate_text.proofs.Leading.{Went}
use Rattle.certificate_text.proofs.reading.read_lines.Given as goal

abbrev pub invariant-loop-alloc : goal.invariant-loop-alloc
invariant-loop-alloc l = record {
  went : Went l.text l.lines (place_due l.due) l.rest;
  room : l.lines + length l.rest ≤ length l.text;
}

abbrev pub decreases-loop-alloc : goal.decreases-loop-alloc
decreases-loop-alloc l = length l.rest
