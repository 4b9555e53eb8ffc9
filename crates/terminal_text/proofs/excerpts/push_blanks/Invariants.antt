use Rattle.std.proofs.Common.{◌≡◌, ◌++◌, drop}
use Rattle.std.specs.List.{flat_map}
use Rattle.terminal_text.specs.Excerpts.{blanks_for}
use Rattle.terminal_text.proofs.excerpts.push_blanks.Given as goal

abbrev pub invariant-loop-b : goal.invariant-loop-b
invariant-loop-b l = l.text.items ++ flat_map blanks_for (drop l.b-index l.bytes) ≡ l.initial.text.items ++ flat_map blanks_for l.bytes
