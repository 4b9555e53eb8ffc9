use Rattle.std.proofs.Common.{◌≡◌, ◌++◌, drop}
use Rattle.terminal_text.specs.Shown.{quoted}
use Rattle.terminal_text.proofs.texts.quote.Given as goal

abbrev pub invariant-loop-b : goal.invariant-loop-b
invariant-loop-b l = l.text.items ++ quoted (drop l.b-index l.bytes) ≡ l.initial.text.items ++ quoted l.bytes
